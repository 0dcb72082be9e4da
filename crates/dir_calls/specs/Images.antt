-- What a stop may leave of a directory.
use Rattle.std.specs.Prelude.{◌≡◌, ℕ, true, List, [], length, slice_get, Some, None}
use Rattle.std.specs.FinMap.{get}
use Rattle.dir_calls.specs.NameTable.{Names, NameTable, CanBeLeft}
use Rattle.dir_calls.specs.Directory.{Directory, FileState, names_of}

-- under each name, for itself, stands what stood there when names were last settled, or at some moment since then. Each
-- name may have another moment: there is no order between changes, and a rename may be torn into its two names.
pub record LeftByName (table : NameTable) (names : Names) : Type 0 where
  pub each : (name : List ℕ) → (was : Names) × CanBeLeft table was × (get names name ≡ get was name)

-- a stop may leave a name to the file with this number
pub record MayHaveName (table : NameTable) (number : ℕ) : Type 0 where
  pub name : List ℕ
  pub names : Names
  pub left : CanBeLeft table names
  pub stands : get names name ≡ Some number

-- what a stop may leave of a file: a synced one that may have a name keeps its bytes, and any other may have any; what
-- is left is synced
pub record IsLeftOf (table : NameTable) (number : ℕ) (file left : FileState) : Type 0 where
  pub bytes : MayHaveName table number → file.synced ≡ true → left.bytes ≡ file.bytes
  pub synced : left.synced ≡ true

-- what a stop may leave of a directory: the names, each for itself, as they were at some moment since they were last
-- settled; what it may leave of each file; no scratch file, and no pending change
pub record IsImage (d image : Directory) : Type 0 where
  pub names : LeftByName d.names (names_of image)
  pub none_pending : image.names.pending ≡ []
  pub count : length image.files ≡ length d.files
  pub files : (number : ℕ) (file : FileState) → slice_get d.files number ≡ Some file → (left : FileState)
      × (slice_get image.files number ≡ Some left) × IsLeftOf d.names number file left
  pub no_scratch : image.scratch ≡ None
