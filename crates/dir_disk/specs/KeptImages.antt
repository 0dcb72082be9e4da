-- A stop leaves the same of a disk and of the directory over it: bytes are kept back only of a file that is not synced.
-- Two laws of that directory say so, and laws are proved beside their definitions.
use Rattle.std.proofs.Common.{◌≡◌, ℕ, Bool, false, List, length, refl, sym, ◌∙◌, subst, ap}
use Rattle.std.specs.Prelude.{slice_get, Option, Some, None}
use Rattle.std.specs.Option.{option_map}
use Rattle.dir_calls.specs.Directory.{Directory, FileState}
use Rattle.dir_calls.specs.Images.{IsImage}
use Rattle.dir_calls.specs.Calls.{with_scratch, longer}
use Rattle.dir_calls.proofs.ChangedFiles.{KeepsOpen, image_with, image_without}
use Rattle.dir_disk.specs.OsDir.{kept_back, shape, Holds}

-- what a file of this shape is
pub shape_of : (files : List FileState) (number count : ℕ) (file : FileState)
    → option_map shape (slice_get files number) ≡ Some (count, false) → slice_get files number ≡ Some file
    → (file.synced ≡ false) × (length file.bytes ≡ count)
shape_of files number count file is there =
    let pair : shape file ≡ (count, false) = some_is (shape file) (count, false) (sym (ap (option_map shape) there) ∙ is) in
    (ap (λ (p : ℕ × Bool). p.1) pair, ap (λ (p : ℕ × Bool). p.0) pair)
  where
    some_is : (x y : ℕ × Bool) → ◌≡◌ {A = Option (ℕ × Bool)} (Some x) (Some y) → x ≡ y
    some_is x y is = cc

pub longer_keeps : (pending : List ℕ) (number count : ℕ) (files : List FileState)
    → option_map shape (slice_get files number) ≡ Some (count, false) → KeepsOpen (longer pending) number files
longer_keeps pending number count files is = record {
  each = λ file there. let unsynced = (shape_of files number count file is there).0 in (unsynced, unsynced);
}

pub kept_image : {H : Type 0} (number : H → ℕ) (d : Directory) (scratch : Option H) (written : ℕ) (pending : List ℕ) (image : Directory)
    → Holds number d scratch written → IsImage d image → IsImage (kept_back pending d) image
kept_image number d None written pending image holds is = subst (λ s. IsImage (with_scratch (longer pending) s d) image) (sym holds.0) is
kept_image number d (Some file) written pending image holds is =
    let keeps = longer_keeps pending (number file) written d.files (holds.1 file refl).1 in
    subst (λ s. IsImage (with_scratch (longer pending) s d) image) (sym holds.0) (image_with (longer pending) (number file) d image keeps is)

pub disk_image : {H : Type 0} (number : H → ℕ) (d : Directory) (scratch : Option H) (written : ℕ) (pending : List ℕ) (image : Directory)
    → Holds number d scratch written → IsImage (kept_back pending d) image → IsImage d image
disk_image number d None written pending image holds is = subst (λ s. IsImage (with_scratch (longer pending) s d) image) holds.0 is
disk_image number d (Some file) written pending image holds is =
    let keeps = longer_keeps pending (number file) written d.files (holds.1 file refl).1 in
    image_without (longer pending) (number file) d image keeps (subst (λ s. IsImage (with_scratch (longer pending) s d) image) holds.0 is)
