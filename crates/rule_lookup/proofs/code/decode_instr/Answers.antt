-- The verdict and the settings that were read are those that the bytes are decoded to.
use Rattle.std.proofs.Common.{ap, Err}
use Rattle.std.proofs.lemmas.Result.{err_from_is_err_and}
use Rattle.rule_lookup.proofs.CodeLemmas.{code_of-decoded, IsInstr-decoded}
use Rattle.rule_lookup.proofs.DecodeLemmas.{decoded-found, decoded-refused, RefusesCode-from}
use Rattle.rule_lookup.proofs.code.decode_instr.Goals as goal

pub returns-in_err-settings-clause-refused : goal.returns-in_err-settings-clause-refused
returns-in_err-settings-clause-refused c =
    let returned = err_from_is_err_and c.from_residual.result c.from_residual.ensures.1 in
    let split = c.split_verdict-verdict.ensures in
    rw (returned.1, returned.2) (RefusesCode-from c.args.bytes.now _ (λ reason is. decoded-refused _ _ _ split.verdict split.codes (c.in_err-settings.ensures.refused reason (ap Err is))))

pub returns-clause-found : goal.returns-clause-found
returns-clause-found c =
    let split = c.split_verdict-verdict.ensures in
    let found = decoded-found c.args.bytes.now _ _ split.verdict split.codes _ c.in_ok-settings.ensures.found in
    (IsInstr-decoded c.args.bytes.now _ found, code_of-decoded c.args.bytes.now _ found)
