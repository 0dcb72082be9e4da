use Rattle.std.specs.Prelude.{◌≡◌, ◌+◌}
use Rattle.test_site.proofs.eight_threads.gather.Given as goal

-- the share has a part for each caller that is back
abbrev pub invariant-loop-worker : goal.invariant-loop-worker
invariant-loop-worker g l = l.share.parts + l.lacking ≡ 8
