use Rattle.std.proofs.Common.{◌≡◌, take}
use Rattle.std.specs.Prelude.{map}
use Rattle.dir_calls.specs.NameTable.{after_changes}
use Rattle.memory_dirs.specs.Entries.{names_in, change_of}
use Rattle.memory_dirs.proofs.entries.after_edits.Given as goal

abbrev pub invariant-loop-edit : goal.invariant-loop-edit
invariant-loop-edit l = names_in l.left.items ≡ after_changes (names_in l.names) (map change_of (take l.edit-index l.edits))
