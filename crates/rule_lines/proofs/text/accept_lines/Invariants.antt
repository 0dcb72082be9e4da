use Rattle.std.proofs.Common.{length}
use Rattle.rule_lines.proofs.ParseLemmas.{IsReadUpTo}
use Rattle.rule_lines.proofs.text.accept_lines.Given as goal

abbrev pub invariant-loop-rest : goal.invariant-loop-rest
invariant-loop-rest l = IsReadUpTo l.plain l.limit l.text l.rest l.number

abbrev pub decreases-loop-rest : goal.decreases-loop-rest
decreases-loop-rest l = length l.rest
