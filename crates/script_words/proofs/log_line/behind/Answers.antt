use Rattle.std.proofs.Common.{codes, sym, ap, ◌∙◌}
use Rattle.rule_lookup.specs.declared.instr.Verdict.{Verdict}
use Rattle.script_words.specs.LogLines.{behind}
use Rattle.std.proofs.lemmas.Bool.Decides.{Decides-eqb}
use Rattle.std.proofs.lemmas.Slice.Eq.{strip_prefix_is}
use Rattle.script_words.proofs.FrontLemmas.{behind_stripped}
use Rattle.script_words.proofs.log_line.behind.Goals as goal

pub returns-in-Allow : goal.returns-in-Allow
returns-in-Allow c =
    let front = codes "tcpserver: ok " in
    behind_stripped front c.args.line.now c.strip_prefix.result (strip_prefix_is Decides-eqb c.args.line.now front c.strip_prefix.result c.strip_prefix.ensures.cases)
    ∙ sym (ap (λ (verdict : Verdict). behind verdict c.args.line.now) c.in-Allow.is)

pub returns-in-Deny : goal.returns-in-Deny
returns-in-Deny c =
    let front = codes "tcpserver: deny " in
    behind_stripped front c.args.line.now c.strip_prefix-in-Deny.result (strip_prefix_is Decides-eqb c.args.line.now front c.strip_prefix-in-Deny.result c.strip_prefix-in-Deny.ensures.cases)
    ∙ sym (ap (λ (verdict : Verdict). behind verdict c.args.line.now) c.in-Deny.is)
