use Rattle.std.proofs.Common.{ap, sym, not, arith, ◌∙◌}
use Rattle.rule_lookup.specs.Lines.{is_blank}
use Rattle.std.proofs.lemmas.List.Sums.{position_or_len_is}
use Rattle.rule_warnings.proofs.findings.blanks_before.Goals as goal

pub returns-else-is_blank-clause-count : goal.returns-else-is_blank-clause-count
returns-else-is_blank-clause-count c =
    sym (position_or_len_is (λ b. not (is_blank b)) c.args.line.now c.loop-count.count 0 c.loop-count.invariant.0 (λ k below. ap not (c.loop-count.invariant.1 k below)) (λ _. ap not (sym c.is_blank.ensures ∙ c.if-is_blank.false)))

pub returns-after-loop-count-clause-count : goal.returns-after-loop-count-clause-count
returns-after-loop-count-clause-count c =
    sym (position_or_len_is (λ b. not (is_blank b)) c.args.line.now c.loop-count.count 0 c.loop-count.invariant.0 (λ k below. ap not (c.loop-count.invariant.1 k below)) (λ below. absurd (omega (arith, c.loop-count-test.false))))
