-- The calls that change a directory, and the directory after each.
use Rattle.std.specs.Prelude.{ℕ, zero, suc, ◌+◌, ◌==◌, Bool, true, false, List, [], ◌∷◌, ◌++◌, length, take, drop, Option, None, Some, if◌then◌else◌}
use Rattle.dir_calls.specs.NameTable.{NameTable, takes, puts, moves, push, all_settled}
use Rattle.dir_calls.specs.Directory.{Directory, FileState, number_of}

-- No directory has a call `renews`: a name is taken away, all changes of names are made lasting, and then a new file is
-- made under the name.
pub data Call : Type 0 where
  makes : List ℕ → Call
  renews : List ℕ → Call
  appends : List ℕ → Call
  patches : ℕ → List ℕ → Call
  syncs : Call
  renames : List ℕ → List ℕ → Call
  settles : Call

-- the file with other bytes, if it is not synced
abbrev pub rewritten : FileState → List ℕ → FileState
rewritten file bytes = record { bytes = if file.synced then file.bytes else bytes; synced = file.synced }

-- the file with bytes at its end
abbrev pub longer : List ℕ → FileState → FileState
longer piece file = rewritten file (file.bytes ++ piece)

-- the file with bytes in place of those from a position on
abbrev pub patched : ℕ → List ℕ → FileState → FileState
patched position bytes file = rewritten file (take position file.bytes ++ bytes ++ drop (position + length bytes) file.bytes)

abbrev pub lasting : FileState → FileState
lasting file = record { bytes = file.bytes; synced = true }

-- the files, after a change of the one with this number
abbrev pub with_file : (FileState → FileState) → ℕ → List FileState → List FileState
with_file change number [] = []
with_file change zero (file ∷ files) = change file ∷ files
with_file change (suc number) (file ∷ files) = file ∷ with_file change number files

-- the directory after a change of the scratch file, if there is one
abbrev pub with_scratch : (FileState → FileState) → Option ℕ → Directory → Directory
with_scratch change None d = d
with_scratch change (Some number) d = record { names = d.names; files = with_file change number d.files; scratch = d.scratch }

abbrev pub with_names : Directory → NameTable → Directory
with_names d names = record { names = names; files = d.files; scratch = d.scratch }

abbrev pub closed : Directory → Directory
closed d = record { names = d.names; files = d.files; scratch = None }

-- the names after a name was taken away that stood for this number, if it did
abbrev pub taken_from : NameTable → List ℕ → Option ℕ → NameTable
taken_from names name None = names
taken_from names name (Some number) = push names (takes name)

-- the directory after a name was taken away, if it stood
abbrev pub without : Directory → List ℕ → Directory
without d name = with_names d (taken_from d.names name (number_of d name))

-- the same, and then all changes of names are settled
abbrev pub cleared : Directory → List ℕ → Directory
cleared d name = with_names d (all_settled (without d name).names)

-- the directory with a new empty file under a name, the scratch file
abbrev pub made : Directory → List ℕ → Directory
made d name = record {
  names = push (without d name).names (puts name (length d.files));
  files = d.files ++ record { bytes = []; synced = false } ∷ [];
  scratch = Some (length d.files);
}

-- the name stands for the file with this number
abbrev pub is_number : ℕ → Option ℕ → Bool
is_number number None = false
is_number number (Some there) = there == number

-- the directory with a name that stands for this number moved onto another, unless that stands for it too
abbrev pub moved : Directory → List ℕ → List ℕ → Option ℕ → Directory
moved d from to None = d
moved d from to (Some number) =
    if is_number number (number_of d to) then d else with_names d (push d.names (moves from to number))

-- the directory after a call that did all of its work
abbrev pub after : Call → Directory → Directory
after (makes name) d = made d name
after (renews name) d = made (cleared d name) name
after (appends piece) d = with_scratch (longer piece) d.scratch d
after (patches position bytes) d = with_scratch (patched position bytes) d.scratch d
after syncs d = closed (with_scratch lasting d.scratch d)
after (renames from to) d = moved d from to (number_of d from)
after settles d = with_names d (all_settled d.names)
