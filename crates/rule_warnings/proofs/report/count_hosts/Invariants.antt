use Rattle.std.proofs.Common.{◌+◌, ◌≤◌, length}
use Rattle.rule_warnings.proofs.report.count_hosts.Given as goal

abbrev pub invariant-loop-rest : goal.invariant-loop-rest
invariant-loop-rest l = l.count + length l.rest ≤ length l.text

abbrev pub decreases-loop-rest : goal.decreases-loop-rest
decreases-loop-rest l = length l.rest
