use Rattle.std.proofs.Common.{◌≡◌, ◌++◌, take, flat_map}
use Rattle.cdb_files.specs.Format.{two_numbers}
use Rattle.cdb_files.proofs.append.append_pairs.Given as goal

abbrev pub invariant-loop-pair : goal.invariant-loop-pair
invariant-loop-pair l = l.out.items ≡ l.initial.out.items ++ flat_map two_numbers (take l.pair-index l.pairs)
