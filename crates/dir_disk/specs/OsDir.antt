-- A directory over a disk, which keeps bytes back.
use Rattle.std.specs.Prelude.{◌≡◌, ℕ, Bool, IsTrue, false, List, length, slice_get, Option, None, Some}
use Rattle.std.specs.Option.{option_map, ForSome}
use Rattle.std.proofs.Props.{props}
use Rattle.dir_calls.specs.Directory.{Directory, FileState, KeepsSynced}
use Rattle.dir_calls.specs.Calls.{Call, longer, with_scratch}
use Rattle.dir_calls.specs.Outcomes.{LeftBy}
use Rattle.dir_calls.specs.Moments.{Elapses, ImagesSince, Includes}

-- the directory of a disk, with the bytes that are kept back at the end of the file that may be written
abbrev pub kept_back : List ℕ → Directory → Directory
kept_back pending d = with_scratch (longer pending) d.scratch d

abbrev pub shape : FileState → ℕ × Bool
shape file = (length file.bytes, file.synced)

-- the file with this number may be written, has this many bytes, and is not synced
abbrev pub IsWritable : Directory → ℕ → ℕ → Type 0
IsWritable d number count = (d.scratch ≡ Some number) × (option_map shape (slice_get d.files number) ≡ Some (count, false))

-- the file that may be written is the one that is held, if there is one, and it has this many bytes
abbrev pub Holds : {H : Type 0} → (number : H → ℕ) → Directory → Option H → ℕ → Type 0
Holds number d scratch written = (d.scratch ≡ option_map number scratch) × ForSome scratch (λ file. IsWritable d (number file) written)

pub Holds-prop : {H : Type 0} (number : H → ℕ) (d : Directory) (scratch : Option H) (written : ℕ) → IsProp (Holds number d scratch written)
Holds-prop number d None written = hlevel props
Holds-prop number d (Some file) written = hlevel props

pub Holds_honest-prop : {H : Type 0} (honest : Bool) (number : H → ℕ) (d : Directory) (scratch : Option H) (written : ℕ)
    → IsProp (IsTrue honest → Holds number d scratch written)
Holds_honest-prop honest number d scratch written = hlevel (props, Holds-prop)

-- time goes on by one call over a disk, whose last bytes are kept back until then: a stop since an earlier moment may
-- have left what it may have left before, or what a stop within the call or right after it leaves, and nothing else
abbrev pub KeptElapses : {D : Type 0} → (state : D → Directory) → (moment : D → ℕ) → (left_since : D → ImagesSince)
    → Call → List ℕ → (old new : D) → Type 0
KeptElapses state moment left_since call pending old new =
    Elapses (moment old) (moment new) (left_since old) (left_since new) (LeftBy call (kept_back pending (state old)) (state new))

-- a stop since an earlier moment may have left whatever a stop within such a call or right after it leaves
abbrev pub KeptIncludes : {D : Type 0} → (state : D → Directory) → (moment : D → ℕ) → (left_since : D → ImagesSince)
    → Call → List ℕ → (old new : D) → Type 0
KeptIncludes state moment left_since call pending old new =
    Includes (moment old) (left_since new) (LeftBy call (kept_back pending (state old)) (state new))

-- the file that may be written is given up: the names and the synced files are as before, and no file may be written
pub record GivesUp (old new : Directory) : Type 0 where
  pub names : new.names ≡ old.names
  pub files : KeepsSynced old.files new.files
  pub scratch : new.scratch ≡ None
