use Rattle.std.proofs.Common.{◌==◌, ◌+◌, ◌∙◌, sym, ap, arith, drop}
use Rattle.std.proofs.lemmas.List.{take_rest}
use Rattle.rule_lines.proofs.FaultLemmas.{is_ignored-nowhere}
use Rattle.rule_lookup.proofs.FoundLemmas.{position_or_len-found}
use Rattle.rule_warnings.proofs.LineLemmas.{is_ignored-rule, is_ignored-comment}
use Rattle.rule_warnings.proofs.settings.instructions_of.Goals.{in_default-via-in-Some+else-line-ne35, in_default-via-in_default}
use Rattle.rule_warnings.proofs.settings.instructions_of.Goals as goal

pub returns-in-Some : goal.returns-in-Some
returns-in-Some c =
    let line = c.args.line.now in (
      is_ignored-rule line c.in-Some.colon c.if-line-ne35.true c.in-Some.ensures.0.high c.in-Some.ensures.1,
      take_rest line (c.in-Some.colon + 1) ∙ ap (λ n. drop (n + 1) line) (sym (position_or_len-found (λ b. b == 58) line c.in-Some.colon c.in-Some.ensures)),
    )

pub returns-in_default : goal.returns-in_default
returns-in_default c = elim c.in_default.branch [
  | in_default-via-in-Some+else-line-ne35 w ↦ is_ignored-comment c.args.line.now (omega (arith, w.in-Some.ensures.0.high)) w.if-line-ne35.false
  | in_default-via-in_default w ↦ is_ignored-nowhere c.args.line.now w.in_default.ensures
]
