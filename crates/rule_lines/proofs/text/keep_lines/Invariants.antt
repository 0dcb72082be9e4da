use Rattle.std.proofs.Common.{◌-◌, length}
use Rattle.rule_lines.proofs.KeepLemmas.{IsKeptUpTo}
use Rattle.rule_lines.proofs.text.keep_lines.Given as goal

abbrev pub invariant-loop-start : goal.invariant-loop-start
invariant-loop-start l = IsKeptUpTo l.plain l.limit l.initial.text.items l.text.items l.start l.end l.number l.tally

abbrev pub decreases-loop-start : goal.decreases-loop-start
decreases-loop-start l = length l.text.items - l.start
