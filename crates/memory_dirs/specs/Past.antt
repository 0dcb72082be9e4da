-- What a stop within the calls of the past may have left.
use Rattle.std.specs.Prelude.{◌≡◌, ◌⊎◌, ℕ, ◌≤◌, List, length, slice_get, Option, Some}
use Rattle.std.proofs.Common.{inl, inr, arith}
use Rattle.std.proofs.lemmas.Option.{slice_get_within}
use Rattle.dir_calls.specs.Directory.{Directory}
use Rattle.dir_calls.specs.Images.{IsImage}
use Rattle.dir_calls.specs.Calls.{without}
use Rattle.memory_dirs.specs.Folder.{directory_of}
use Rattle.memory_dirs.specs.declared.folder.Folder.{Folder}

-- a call of the past: the directory before it, and the name of the file that it made, if it made one
pub record PastCall : Type 0 where
  pub before : Directory
  pub made : Option (List ℕ)

abbrev pub past_call : Folder × Option (List ℕ) → PastCall
past_call entry = record { before = directory_of entry.0; made = entry.1 }

-- a stop within the call may have left an image of the directory before it, or, if it made a file, of that directory
-- without the name
abbrev pub LeftIn : PastCall → Directory → Type 0
LeftIn call image = IsImage call.before image ⊎ ((name : List ℕ) × (call.made ≡ Some name) × IsImage (without call.before name) image)

-- what a stop since a moment may have left: an image of the directory now, or what a stop left within a call that was
-- made since that moment
abbrev pub LeftSince : List PastCall → Directory → ℕ → Directory → Type 0
LeftSince calls now moment image = IsImage now image
    ⊎ ((position : ℕ) × (moment ≤ position) × (call : PastCall) × (slice_get calls position ≡ Some call) × LeftIn call image)

-- since the moment after the last call, a stop can leave only an image of the directory now
pub left_now : (calls : List PastCall) (now image : Directory) → LeftSince calls now (length calls) image → IsImage now image
left_now calls now image (inl is) = is
left_now calls now image (inr (position, late, call, there, left)) = absurd (omega (arith, late, slice_get_within calls position call there))
