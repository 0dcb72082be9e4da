-- What a stop may leave under one name, whatever it leaves under others; and a rename that it tears into its two names.
use Rattle.std.specs.Prelude.{◌≡◌, ◌≢◌, ◌⊎◌, ℕ, true, List, slice_get, Option, Some, None}
use Rattle.std.specs.FinMap.{get}
use Rattle.dir_calls.specs.NameTable.{CanBeLeft, NameChange, Names, NameTable, takes, puts, moves}
use Rattle.dir_calls.specs.Directory.{Directory, FileState, number_of}
use Rattle.dir_calls.specs.Images.{IsImage, MayHaveName}
use Rattle.dir_calls.specs.Lasting.{IsAmong}

-- a change puts this under a name: a file, or nothing if it takes the name away
abbrev pub PutsThere : NameChange → List ℕ → Option ℕ → Type 0
PutsThere (takes other) name number = (other ≡ name) × (number ≡ None)
PutsThere (puts other n) name number = (other ≡ name) × (number ≡ Some n)
PutsThere (moves from to n) name number =
    ((to ≡ name) × (number ≡ Some n)) ⊎ ((from ≡ name) × (to ≢ name) × (number ≡ None))

-- what stood under a name when names were last settled, or what one change since then put there
abbrev pub MayStand : NameTable → List ℕ → Option ℕ → Type 0
MayStand table name number =
    (number ≡ get table.settled name) ⊎ ((change : NameChange) × IsAmong table.pending change × PutsThere change name number)

-- this stood under a name at some moment since names were last settled
abbrev pub StoodThere : NameTable → List ℕ → Option ℕ → Type 0
StoodThere table name number = (names : Names) × CanBeLeft table names × (number ≡ get names name)

-- one name stands for this file, and the other doesn't
pub record MayBeTorn (d : Directory) (from to : List ℕ) (number : ℕ) : Type 0 where
  pub stands : number_of d from ≡ Some number
  pub other : number_of d to ≢ Some number

-- a stop may leave a directory with the property P
abbrev pub HasImage : Directory → (Directory → Type 0) → Type 0
HasImage d P = (image : Directory) × IsImage d image × P image

-- the names stand for these files
abbrev pub StandFor : List ℕ → Option ℕ → List ℕ → Option ℕ → Directory → Type 0
StandFor from first to second d = (number_of d from ≡ first) × (number_of d to ≡ second)

-- the file with this number; no stop leaves it a name
pub record IsNameless (d : Directory) (number : ℕ) (file : FileState) : Type 0 where
  pub there : slice_get d.files number ≡ Some file
  pub never_named : MayHaveName d.names number → ⊥

-- the file of this number has these bytes
abbrev pub HasFile : ℕ → List ℕ → Directory → Type 0
HasFile number bytes d = slice_get d.files number ≡ Some (record { bytes = bytes; synced = true })
