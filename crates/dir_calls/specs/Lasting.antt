-- What surely stands under a name, whenever the machine stops.
use Rattle.std.specs.Prelude.{◌≡◌, ◌⊎◌, ℕ, true, List, [], ◌∷◌, slice_get, Option, None, Some}
use Rattle.std.specs.FinMap.{get}
use Rattle.dir_calls.specs.NameTable.{Names, CanBeLeft}
use Rattle.dir_calls.specs.Directory.{Directory, FileState, content}

abbrev pub IsAmong : {X : Type 0} → List X → X → Type 0
IsAmong [] x = ⊥
IsAmong (y ∷ ys) x = (x ≡ y) ⊎ IsAmong ys x

-- the name stands for a synced file with one of these contents, or for nothing if None is among them
abbrev pub StandsFor : List FileState → List (Option (List ℕ)) → Option ℕ → Type 0
StandsFor files contents None = IsAmong contents None
StandsFor files contents (Some number) = (bytes : List ℕ) × IsAmong contents (Some bytes)
    × (slice_get files number ≡ Some (record { bytes = bytes; synced = true }))

-- whatever names a stop leaves, one of these contents stands under this name, synced
pub record LastsAmong (d : Directory) (name : List ℕ) (contents : List (Option (List ℕ))) : Type 0 where
  pub each : (names : Names) → CanBeLeft d.names names → StandsFor d.files contents (get names name)

-- one of these contents stands under a name
abbrev pub HasAmong : List ℕ → List (Option (List ℕ)) → Directory → Type 0
HasAmong name contents d = IsAmong contents (content d name)
