use Rattle.std.proofs.Common.{◌≡◌, ℕ, ◌<◌, false, get_or}
use Rattle.cdb_files.specs.Slots.{is_empty}
use Rattle.cdb_files.proofs.slot.empty_slot.Given as goal

abbrev pub invariant-loop-position : goal.invariant-loop-position
invariant-loop-position l = (k : ℕ) → k < l.position → is_empty (get_or l.slots k (0, 0)) ≡ false
