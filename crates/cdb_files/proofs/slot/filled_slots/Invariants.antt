use Rattle.std.proofs.Common.{◌≡◌, ◌+◌, ◌*◌, ◌≤◌, length, take}
use Rattle.std.specs.List.{count_by, fold}
use Rattle.std.proofs.Math.ListN.{replicate}
use Rattle.cdb_files.specs.Image.{with_entry}
use Rattle.cdb_files.specs.Slots.{is_empty}
use Rattle.cdb_files.proofs.slot.filled_slots.Given as goal

-- the slots of the entries so far, of which each took one slot
abbrev pub invariant-loop-entry : goal.invariant-loop-entry
invariant-loop-entry l =
    (l.slots.items ≡ fold with_entry (replicate (2 * length l.entries) (0, 0)) (take l.entry-index l.entries))
    × (2 * length l.entries ≤ count_by is_empty l.slots.items + l.entry-index)
