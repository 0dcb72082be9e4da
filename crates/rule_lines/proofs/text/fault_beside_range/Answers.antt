use Rattle.std.proofs.Common.{sym, ◌∙◌}
use Rattle.std.proofs.lemmas.Bool.{cond-true, cond-false, lt-ltb, le-ltb}
use Rattle.rule_lines.proofs.FaultLemmas.{fault_beside-text}
use Rattle.rule_lines.proofs.text.fault_beside_range.Goals as goal

pub returns-then-line-limit : goal.returns-then-line-limit
returns-then-line-limit c =
    let line = c.args.line.now in
    let clean = sym c.has_zero.ensures ∙ c.if-has_zero.false in
    sym (fault_beside-text c.args.limit line c.requires.range (sym c.requires.text ∙ c.if-not-is_text.false) clean ∙ cond-true _ _ _ (lt-ltb _ _ c.if-line-limit.true))

pub returns-else-line-limit : goal.returns-else-line-limit
returns-else-line-limit c =
    let line = c.args.line.now in
    let clean = sym c.has_zero.ensures ∙ c.if-has_zero.false in
    sym (fault_beside-text c.args.limit line c.requires.range (sym c.requires.text ∙ c.if-not-is_text.false) clean ∙ cond-false _ _ _ (le-ltb _ _ c.if-line-limit.false))
