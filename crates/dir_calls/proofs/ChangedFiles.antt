-- A stop leaves of a directory what it leaves of one in which an unsynced file has other bytes.
use Rattle.std.proofs.Common.{◌≡◌, ◌⊎◌, inl, inr, ⊎_elim, ℕ, zero, suc, false, List, [], ◌∷◌, length, refl, sym, ◌∙◌, ap}
use Rattle.std.specs.Prelude.{true, slice_get, Some}
use Rattle.std.specs.Option.{option_map}
use Rattle.dir_calls.specs.NameTable.{NameTable}
use Rattle.dir_calls.specs.Directory.{Directory, FileState}
use Rattle.dir_calls.specs.Images.{IsLeftOf, IsImage}
use Rattle.dir_calls.specs.Calls.{with_file, with_scratch}

-- a file of the changed files is one of those before, or the changed one
pub file_was : (change : FileState → FileState) (n m : ℕ) (files : List FileState) (now : FileState)
    → slice_get (with_file change n files) m ≡ Some now
    → (slice_get files m ≡ Some now) ⊎ ((m ≡ n) × (file : FileState) × (slice_get files n ≡ Some file) × (now ≡ change file))
file_was change n m [] now is = inl is
file_was change zero zero (f ∷ files) now is = inr (refl, f, refl, (cc))
file_was change zero (suc m) (f ∷ files) now is = inl is
file_was change (suc n) zero (f ∷ files) now is = inl is
file_was change (suc n) (suc m) (f ∷ files) now is =
    ⊎_elim (λ same. inl same) (λ other. inr (ap suc other.0, other.1, other.2, other.3)) (file_was change n m files now is)

pub file_is : (change : FileState → FileState) (n m : ℕ) (files : List FileState) (file : FileState) → slice_get files m ≡ Some file
    → (slice_get (with_file change n files) m ≡ Some file) ⊎ ((m ≡ n) × (slice_get (with_file change n files) m ≡ Some (change file)))
file_is change n m [] file is = inl is
file_is change zero zero (f ∷ files) file is = inr (refl, ap (option_map change) is)
file_is change zero (suc m) (f ∷ files) file is = inl is
file_is change (suc n) zero (f ∷ files) file is = inl is
file_is change (suc n) (suc m) (f ∷ files) file is =
    ⊎_elim (λ same. inl same) (λ other. inr (ap suc other.0, other.1)) (file_is change n m files file is)

pub count_with : (change : FileState → FileState) (n : ℕ) (files : List FileState) → length (with_file change n files) ≡ length files
count_with change n [] = refl
count_with change zero (f ∷ files) = refl
count_with change (suc n) (f ∷ files) = ap suc (count_with change n files)

-- the change leaves the file of this number unsynced, as it was
pub record KeepsOpen (change : FileState → FileState) (number : ℕ) (files : List FileState) : Type 0 where
  pub each : (file : FileState) → slice_get files number ≡ Some file → (file.synced ≡ false) × ((change file).synced ≡ false)

any_left : (table : NameTable) (number : ℕ) (was left : FileState) → was.synced ≡ false → left.synced ≡ true
    → IsLeftOf table number was left
any_left table number was left is synced = record { bytes = λ named old. absurd (cc); synced = synced }

pub image_with : (change : FileState → FileState) (number : ℕ) (d image : Directory) → KeepsOpen change number d.files
    → IsImage d image → IsImage (with_scratch change (Some number) d) image
image_with change number d image keeps is = record {
  names = is.names;
  none_pending = is.none_pending;
  count = is.count ∙ sym (count_with change number d.files);
  files = λ m now there.
      ⊎_elim (is.files m now) (λ other. left m now other.0 other.1 other.2 other.3) (file_was change number m d.files now there);
  no_scratch = is.no_scratch;
}
  where
    left : (m : ℕ) (now : FileState) → m ≡ number → (file : FileState) → slice_get d.files number ≡ Some file → now ≡ change file
        → (left : FileState) × (slice_get image.files m ≡ Some left) × IsLeftOf d.names m now left
    left m now same file there changed =
        let was = is.files number file there in
        let unsynced = ap (λ (f : FileState). f.synced) changed ∙ (keeps.each file there).1 in
        (was.0, ap (slice_get image.files) same ∙ was.1, any_left d.names m now was.0 unsynced was.2.synced)

pub image_without : (change : FileState → FileState) (number : ℕ) (d image : Directory) → KeepsOpen change number d.files
    → IsImage (with_scratch change (Some number) d) image → IsImage d image
image_without change number d image keeps is = record {
  names = is.names;
  none_pending = is.none_pending;
  count = is.count ∙ count_with change number d.files;
  files = λ m file there.
      ⊎_elim (is.files m file) (λ other. left m file other.0 there other.1) (file_is change number m d.files file there);
  no_scratch = is.no_scratch;
}
  where
    left : (m : ℕ) (file : FileState) → m ≡ number → slice_get d.files m ≡ Some file
        → slice_get (with_file change number d.files) m ≡ Some (change file)
        → (left : FileState) × (slice_get image.files m ≡ Some left) × IsLeftOf d.names m file left
    left m file same there now =
        let was = is.files m (change file) now in
        let unsynced = (keeps.each file (ap (slice_get d.files) (sym same) ∙ there)).0 in
        (was.0, was.1, any_left d.names m file was.0 unsynced was.2.synced)
