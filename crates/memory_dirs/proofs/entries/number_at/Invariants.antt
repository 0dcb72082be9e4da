use Rattle.std.proofs.Common.{◌≡◌, drop}
use Rattle.std.specs.Prelude.{map}
use Rattle.memory_dirs.specs.Entries.{pair_of}
use Rattle.dir_calls.proofs.Pairs.{look}
use Rattle.memory_dirs.proofs.entries.number_at.Given as goal

-- the entries so far have other names
abbrev pub invariant-loop-entry : goal.invariant-loop-entry
invariant-loop-entry l = look (map pair_of l.names) l.name ≡ look (map pair_of (drop l.entry-index l.names)) l.name
