use Rattle.std.proofs.Common.{◌≡◌}
use Rattle.tcp_streams.proofs.passing.Passage.pass.Given as goal

-- it is a job of the same program, with the same variables
abbrev pub invariant-loop-look : goal.invariant-loop-look
invariant-loop-look g l = record {
  program : l.job.child.program.value ≡ l.initial.job.child.program.value;
  environment : l.job.child.environment.value ≡ l.initial.job.child.environment.value;
}
