-- What a series of calls leaves under a name.
use Rattle.std.specs.Prelude.{◌≡◌, ℕ, true, List, Option, Some}
use Rattle.dir_calls.specs.Directory.{Directory, file_at}
use Rattle.dir_calls.specs.Lasting.{LastsAmong, HasAmong}
use Rattle.dir_calls.specs.Moments.{LeavesOnly}
use Rattle.dir_calls.specs.declared.dir.Dir.{Ghosts}

-- From the old directory to the new one, one of these contents stands under the name: for good at the end, and whenever
-- the machine stops meanwhile.
pub record Stays {D F : Type 0} (tells : Ghosts D F) (name : List ℕ) (contents : List (Option (List ℕ))) (old new : D) : Type 0 where
  pub lasts : LastsAmong (tells.state new) name contents
  pub any_moment : LeavesOnly tells.moment tells.left_since old new (HasAmong name contents)

-- what lasts under the name lasts there, and stands there whenever the machine stops meanwhile
abbrev pub KeepsWhatLasts : {D F : Type 0} → Ghosts D F → (name : List ℕ) → (old new : D) → Type 0
KeepsWhatLasts tells name old new =
    (contents : List (Option (List ℕ))) → LastsAmong (tells.state old) name contents → Stays tells name contents old new

-- a synced file with these bytes stands under a name
abbrev pub HasSynced : List ℕ → List ℕ → Directory → Type 0
HasSynced name bytes d = file_at d name ≡ Some (record { bytes = bytes; synced = true })
