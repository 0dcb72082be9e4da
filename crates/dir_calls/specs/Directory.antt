-- A directory: its names, its files by number, and which of them is the scratch file.
use Rattle.std.specs.Prelude.{◌≡◌, ℕ, Bool, true, List, slice_get, Option, Some, option_and_then}
use Rattle.std.specs.Option.{option_map}
use Rattle.std.specs.FinMap.{get}
use Rattle.dir_calls.specs.NameTable.{Names, NameTable, current}

pub record FileState : Type 0 where
  pub bytes : List ℕ
  pub synced : Bool

-- files are numbered in the order in which they were made
pub record Directory : Type 0 where
  pub names : NameTable
  pub files : List FileState
  pub scratch : Option ℕ

-- the names as a reader sees them
abbrev pub names_of : Directory → Names
names_of d = current d.names

-- the number of the file that a name stands for
abbrev pub number_of : Directory → List ℕ → Option ℕ
number_of d name = get (names_of d) name

-- the file that a name stands for
abbrev pub file_at : Directory → List ℕ → Option FileState
file_at d name = option_and_then (λ number. slice_get d.files number) (number_of d name)

-- the bytes that stand under a name
abbrev pub content : Directory → List ℕ → Option (List ℕ)
content d name = option_map (λ file. file.bytes) (file_at d name)

-- the scratch file, whatever became of its name
abbrev pub scratch_of : Directory → Option FileState
scratch_of d = option_and_then (λ number. slice_get d.files number) d.scratch

-- each synced file stays as it is
pub record KeepsSynced (old new : List FileState) : Type 0 where
  pub each : (number : ℕ) (file : FileState) → slice_get old number ≡ Some file → file.synced ≡ true → slice_get new number ≡ Some file
