use Rattle.std.specs.Prelude.{◌≡◌, take}
use Rattle.whole_yard.proofs.same.is_same_list.Given as goal

abbrev pub invariant-loop-i : goal.invariant-loop-i
invariant-loop-i l = take l.i l.one ≡ take l.i l.other
