-- What is found is what the file has, where that is known.
use Rattle.std.proofs.Common.{ap, ◌∙◌}
use Rattle.std.proofs.lemmas.Result.{err_from_is_err_and}
use Rattle.cdb_files.proofs.SourceLemmas.{LookupFails-decode, LookupFails-find, known}
use Rattle.rule_lookup.specs.Decisions.{instr_by, instr_in}
use Rattle.cdb_files.proofs.cdb_file.CdbFileRuleSource.find_instr.Goals as goal

pub returns-in_ok-decode-in-Ok-Some-clause-found : goal.returns-in_ok-decode-in-Ok-Some-clause-found
returns-in_ok-decode-in-Ok-Some-clause-found g c =
    let found = rw c.in-Ok-Some.field-0-is at c.in-Ok-Some.ensures.found in
    known g.F.RulesFile.honest g.F.RulesFile.sound _ g.met.F.RulesFile.sound_is_honest (λ honest. ap instr_in (found honest).0 ∙ ap instr_by (c.in_ok-decode-in-Ok-Some.ensures.decoded honest))

pub returns-in_err-decode-in-Ok-Some-clause-refused : goal.returns-in_err-decode-in-Ok-Some-clause-refused
returns-in_err-decode-in-Ok-Some-clause-refused g c =
    let found = rw c.in-Ok-Some.field-0-is at c.in-Ok-Some.ensures.found in
    let returned = err_from_is_err_and c.from_residual.result c.from_residual.ensures.1 in
    rw (returned.1, returned.2) (LookupFails-decode g.F.RulesFile.honest g.F.RulesFile.sound _ _ c.in_err-decode-in-Ok-Some.field-0.0 g.met.F.RulesFile.sound_is_honest (λ honest. (found honest).0) c.in_err-decode-in-Ok-Some.ensures.refused)

pub returns-in-Err-clause-refused : goal.returns-in-Err-clause-refused
returns-in-Err-clause-refused g c =
    rw c.of_look_up.ensures (LookupFails-find g.F.RulesFile.honest g.F.RulesFile.sound _ c.in-Err.fault g.met.F.RulesFile.sound_is_honest c.in-Err.ensures.fault)
