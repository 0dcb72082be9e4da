-- What the calls of a disk do. Its state is a directory: the names; the files, with all that was written to them and
-- whether that was synced since; and the file that may be written, which is the last one that was made.
use Rattle.std.specs.Prelude.{◌≡◌, ◌⊎◌, ◌≤◌, ◌+◌, ℕ, false, List, [], ◌∷◌, ◌++◌, length, take, drop, Option, None, Some}
use Rattle.std.specs.Option.{ForSome}
use Rattle.dir_calls.specs.NameTable.{SettlesSome, puts, push}
use Rattle.dir_calls.specs.Directory.{Directory, FileState, KeepsSynced, number_of, scratch_of}
use Rattle.dir_calls.specs.Images.{IsImage}
use Rattle.dir_calls.specs.Calls.{renames, after, lasting, with_scratch, without}
use Rattle.dir_calls.specs.Moments.{Elapses}

-- the file with bytes in place of those from a position on, or at its end: what is written is not synced
abbrev pub rewritten_at : ℕ → List ℕ → FileState → FileState
rewritten_at position piece file = record { bytes = take position file.bytes ++ (piece ++ drop (position + length piece) file.bytes); synced = false }

-- the disk after a write of the file that may be written
abbrev pub after_write : ℕ → List ℕ → Directory → Directory
after_write position piece d = with_scratch (rewritten_at position piece) d.scratch d

-- the disk after a sync of it
abbrev pub after_sync : Directory → Directory
after_sync d = with_scratch lasting d.scratch d

-- the disk with a new empty file under a name, the one that may be written
abbrev pub created : Directory → List ℕ → Directory
created d name = record {
  names = push d.names (puts name (length d.files));
  files = d.files ++ record { bytes = []; synced = false } ∷ [];
  scratch = Some (length d.files);
}

-- a write or a sync has failed: the names and the synced files are as before, and nothing is known of other files
pub record Spoils (old new : Directory) : Type 0 where
  pub names : new.names ≡ old.names
  pub files : KeepsSynced old.files new.files
  pub scratch : new.scratch ≡ old.scratch

-- a sync of the folder has failed: some, all or none of the first pending changes are settled
pub record SettlesPart (old new : Directory) : Type 0 where
  pub names : SettlesSome old.names new.names
  pub files : new.files ≡ old.files
  pub scratch : new.scratch ≡ old.scratch

-- a call has done all of its work, or none
abbrev pub AllOrNone : Directory → Directory → Directory → Type 0
AllOrNone old done new = (new ≡ old) ⊎ (new ≡ done)

-- the name is taken away, or nothing has changed
abbrev pub RemovesOrNot : List ℕ → Directory → Directory → Type 0
RemovesOrNot name old new = AllOrNone old (without old name) new

-- the name is moved onto the other, or nothing has changed
abbrev pub MovesOrNot : List ℕ → List ℕ → Directory → Directory → Type 0
MovesOrNot from to old new = AllOrNone old (after (renames from to) old) new

-- nothing has changed, or the name stood for this file
abbrev pub MovesNoOther : Option ℕ → List ℕ → Directory → Directory → Type 0
MovesNoOther number from old new = (new ≡ old) ⊎ (number_of old from ≡ number)

-- no file stands under the name, and nothing has changed
abbrev pub FindsNone : List ℕ → Directory → Directory → Type 0
FindsNone name old new = (number_of old name ≡ None) × (new ≡ old)

-- the file with this number is the one that may be written, and the position is inside it or at its end
pub record MayWrite (d : Directory) (number position : ℕ) : Type 0 where
  pub last : d.scratch ≡ Some number
  pub inside : ForSome (scratch_of d) (λ file. position ≤ length file.bytes)

-- time goes on by one call of a disk: a stop since an earlier moment may have left what it may have left before, or what a stop
-- before the call or after it leaves, and nothing else
abbrev pub StepElapses : {D : Type 0} → (state : D → Directory) → (moment : D → ℕ) → (left_since : D → ℕ → Directory → Type 0)
    → (old new : D) → Type 0
StepElapses state moment left_since old new =
    Elapses (moment old) (moment new) (left_since old) (left_since new) (λ image. IsImage (state old) image ⊎ IsImage (state new) image)
