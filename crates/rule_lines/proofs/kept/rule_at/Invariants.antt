use Rattle.std.proofs.Common.{◌-◌, ◌≤◌, length}
use Rattle.rule_lines.specs.Kept.{IsLineAt}
use Rattle.rule_lines.proofs.kept.rule_at.Given as goal

abbrev pub invariant-loop-here : goal.invariant-loop-here
invariant-loop-here l = IsLineAt l.kept l.here × (l.here.before ≤ l.i)

abbrev pub decreases-loop-here : goal.decreases-loop-here
decreases-loop-here l = length l.kept - l.here.start
