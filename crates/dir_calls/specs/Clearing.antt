-- What becomes of the other names if one is taken away, or a file is made under it.
use Rattle.std.specs.Prelude.{◌≡◌, ◌≢◌, ℕ, List}
use Rattle.std.specs.FinMap.{get}
use Rattle.dir_calls.specs.NameTable.{Names, NameTable, CanBeLeft}
use Rattle.dir_calls.specs.Directory.{Directory, KeepsSynced, number_of}

-- a stop leaves under the name only what it might have left there before
abbrev pub LeavesBefore : List ℕ → NameTable → NameTable → Type 0
LeavesBefore name old new = (names : Names) → CanBeLeft new names → (was : Names) × CanBeLeft old was × (get names name ≡ get was name)

-- the same file stands under a name, now and whenever the machine stops, and synced files stay as they are
pub record StaysUnder (name : List ℕ) (old new : Directory) : Type 0 where
  pub now : number_of new name ≡ number_of old name
  pub left : LeavesBefore name old.names new.names
  pub files : KeepsSynced old.files new.files

-- the same is true of each other name
abbrev pub SparesOthers : List ℕ → Directory → Directory → Type 0
SparesOthers name old new = (other : List ℕ) → name ≢ other → StaysUnder other old new
