-- Lists of entries as names.
use Rattle.std.specs.Prelude.{ℕ, List, map}
use Rattle.std.specs.FinMap.{from_entries}
use Rattle.dir_calls.specs.NameTable.{Names, NameChange, takes, puts, moves}
use Rattle.memory_dirs.specs.declared.entries.Entry.{Entry}
use Rattle.memory_dirs.specs.declared.entries.NameEdit.{NameEdit}
use Rattle.memory_dirs.specs.declared.entries.NameEdit.TheVariants.{Taken, Put, Moved}

abbrev pub pair_of : Entry → List ℕ × ℕ
pair_of entry = (entry.name.items, entry.number)

-- of two entries with one name the first counts
abbrev pub names_in : List Entry → Names
names_in entries = from_entries (map pair_of entries)

abbrev pub change_of : NameEdit → NameChange
change_of (Taken name) = takes name.items
change_of (Put name number) = puts name.items number
change_of (Moved from to number) = moves from.items to.items number
