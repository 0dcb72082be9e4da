use Rattle.std.proofs.Common.{◌≡◌, take}
use Rattle.std.specs.Prelude.{map}
use Rattle.memory_dirs.specs.Entries.{pair_of}
use Rattle.memory_dirs.proofs.entries.copied_names.Given as goal

abbrev pub invariant-loop-entry : goal.invariant-loop-entry
invariant-loop-entry l = map pair_of l.copy.items ≡ map pair_of (take l.entry-index l.names)
