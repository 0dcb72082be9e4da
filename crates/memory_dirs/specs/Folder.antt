-- A directory in memory as a directory.
use Rattle.std.specs.Prelude.{ℕ, List, [], map, take, drop, None}
use Rattle.std.specs.FinMap.{empty}
use Rattle.dir_calls.specs.NameTable.{Names, NameTable, NameChange, after_changes}
use Rattle.dir_calls.specs.Directory.{Directory, FileState}
use Rattle.memory_dirs.specs.Entries.{names_in, change_of}
use Rattle.memory_dirs.specs.Stored.{file_of}
use Rattle.memory_dirs.specs.declared.folder.Folder.{Folder}

-- the names after this many of the changes, and the other changes
abbrev pub table_of : Names → ℕ → List NameChange → NameTable
table_of origin settled changes = record { settled = after_changes origin (take settled changes); pending = drop settled changes }

abbrev pub directory_of : Folder → Directory
directory_of f = record {
  names = table_of (names_in f.origin.items) f.settled (map change_of f.edits.items);
  files = map file_of f.files.items;
  scratch = f.scratch;
}

-- the directory with these names, all of them settled, and no scratch file
abbrev pub settled_directory : Names → List FileState → Directory
settled_directory names files = record { names = record { settled = names; pending = [] }; files = files; scratch = None }

abbrev pub empty_directory : Directory
empty_directory = record { names = record { settled = empty; pending = [] }; files = []; scratch = None }
