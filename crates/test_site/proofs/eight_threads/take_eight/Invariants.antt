use Rattle.std.specs.Prelude.{◌≡◌, ◌+◌}
use Rattle.whole_yard.specs.Callers.{new_count}
use Rattle.test_site.proofs.eight_threads.take_eight.Given as goal

abbrev pub invariant-loop : goal.invariant-loop
invariant-loop g l = new_count l.new + l.counter ≡ 8
