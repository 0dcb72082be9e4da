use Rattle.std.proofs.Common.{length}
use Rattle.child_jobs.proofs.RowLemmas.{SaysSoFar}
use Rattle.child_jobs.proofs.hosts.HostTable.read.Given as goal

abbrev pub invariant-loop-rest : goal.invariant-loop-rest
invariant-loop-rest l = SaysSoFar l.table l.text l.rest l.number

abbrev pub decreases-loop-rest : goal.decreases-loop-rest
decreases-loop-rest l = length l.rest
