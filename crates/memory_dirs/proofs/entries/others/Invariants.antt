use Rattle.std.proofs.Common.{◌≡◌, take}
use Rattle.std.specs.Prelude.{map}
use Rattle.dir_calls.specs.Pairs.{others}
use Rattle.memory_dirs.specs.Entries.{pair_of}
use Rattle.memory_dirs.proofs.entries.others.Given as goal

-- those of the entries so far that have other names
abbrev pub invariant-loop-entry : goal.invariant-loop-entry
invariant-loop-entry l = map pair_of l.kept.items ≡ others l.from l.to (map pair_of (take l.entry-index l.names))
