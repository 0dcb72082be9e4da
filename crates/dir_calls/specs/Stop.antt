-- What a stop leaves of a directory in memory, by a choice.
use Rattle.std.specs.Prelude.{ℕ, true, ◌-◌, List, [], ◌∷◌, map, length, take, replicate, None, if◌then◌else◌}
use Rattle.dir_calls.specs.NameTable.{NameTable, NameChange, takes, puts, moves, after_changes}
use Rattle.dir_calls.specs.Directory.{Directory, FileState}
use Rattle.dir_calls.specs.declared.choice.Choice.{Choice}
use Rattle.dir_calls.specs.declared.choice.Choice.TheVariants.{Kept, Empty, Junk}

-- the bytes of a file that is not synced
abbrev pub chosen_bytes : Choice → List ℕ → List ℕ
chosen_bytes Kept bytes = bytes
chosen_bytes Empty bytes = []
chosen_bytes Junk bytes = replicate (length bytes) 255

-- the pending changes that are taken
abbrev pub chosen_changes : Choice → List NameChange → List NameChange
chosen_changes Kept changes = changes
chosen_changes Empty changes = []
chosen_changes Junk changes = take (length changes - 1) changes

abbrev pub stopped_file : Choice → FileState → FileState
stopped_file choice file = record { bytes = if file.synced then file.bytes else chosen_bytes choice file.bytes; synced = true }

abbrev pub stopped_names : Choice → NameTable → NameTable
stopped_names choice names = record { settled = after_changes names.settled (chosen_changes choice names.pending); pending = [] }

abbrev pub stopped : Choice → Directory → Directory
stopped choice d = record { names = stopped_names choice d.names; files = map (stopped_file choice) d.files; scratch = None }

-- the names after what the changes put, without what they take away
abbrev pub puts_of : List NameChange → List NameChange
puts_of [] = []
puts_of (takes name ∷ changes) = puts_of changes
puts_of (puts name number ∷ changes) = puts name number ∷ puts_of changes
puts_of (moves from to number ∷ changes) = puts to number ∷ puts_of changes

abbrev pub torn_names : NameTable → NameTable
torn_names names = record { settled = after_changes names.settled (puts_of names.pending); pending = [] }

-- what a stop leaves if it tears changes of names: each name that was put stands, and none is taken away
abbrev pub torn : Directory → Directory
torn d = record { names = torn_names d.names; files = map (stopped_file Junk) d.files; scratch = None }
