-- The scratch file changed twice, or not at all.
use Rattle.std.proofs.Common.{◌≡◌, ℕ, zero, suc, List, [], ◌∷◌, refl, ◌∙◌, ap}
use Rattle.std.specs.Prelude.{slice_get, Option, Some, None, option_and_then}
use Rattle.std.specs.Option.{option_map}
use Rattle.dir_calls.specs.Directory.{Directory, FileState, scratch_of}
use Rattle.dir_calls.specs.Calls.{with_file, with_scratch}

with_twice : (f g h : FileState → FileState) (n : ℕ) (files : List FileState) → ((file : FileState) → slice_get files n ≡ Some file → g (f file) ≡ h file) → with_file g n (with_file f n files) ≡ with_file h n files
with_twice f g h n [] same = refl
with_twice f g h zero (x ∷ files) same = ap (λ (y : FileState). y ∷ files) (same x refl)
with_twice f g h (suc n) (x ∷ files) same = ap (λ (l : List FileState). x ∷ l) (with_twice f g h n files same)

with_same : (f : FileState → FileState) (n : ℕ) (files : List FileState) → ((file : FileState) → slice_get files n ≡ Some file → f file ≡ file) → with_file f n files ≡ files
with_same f n [] same = refl
with_same f zero (x ∷ files) same = ap (λ (y : FileState). y ∷ files) (same x refl)
with_same f (suc n) (x ∷ files) same = ap (λ (l : List FileState). x ∷ l) (with_same f n files same)

get_with : (f : FileState → FileState) (n : ℕ) (files : List FileState) → slice_get (with_file f n files) n ≡ option_map f (slice_get files n)
get_with f zero [] = refl
get_with f (suc n) [] = refl
get_with f zero (x ∷ files) = refl
get_with f (suc n) (x ∷ files) = get_with f n files

-- where the number of the file is no call's result
file_of : Option ℕ → List FileState → Option FileState
file_of s files = option_and_then (λ n. slice_get files n) s

pub scratch_kept : (f : FileState → FileState) (s : Option ℕ) (d : Directory) → (with_scratch f s d).scratch ≡ d.scratch
scratch_kept f None d = refl
scratch_kept f (Some n) d = refl

pub names_kept : (f : FileState → FileState) (s : Option ℕ) (d : Directory) → (with_scratch f s d).names ≡ d.names
names_kept f None d = refl
names_kept f (Some n) d = refl

at_twice : (f g h : FileState → FileState) (s : Option ℕ) (d : Directory) → ((file : FileState) → option_and_then (λ n. slice_get d.files n) s ≡ Some file → g (f file) ≡ h file)
    → with_scratch g s (with_scratch f s d) ≡ with_scratch h s d
at_twice f g h None d same = refl
at_twice f g h (Some n) d same = ap (λ (l : List FileState). record { names = d.names; files = l; scratch = d.scratch }) (with_twice f g h n d.files same)

at_same : (f : FileState → FileState) (s : Option ℕ) (d : Directory) → ((file : FileState) → option_and_then (λ n. slice_get d.files n) s ≡ Some file → f file ≡ file) → with_scratch f s d ≡ d
at_same f None d same = refl
at_same f (Some n) d same = ap (λ (l : List FileState). record { names = d.names; files = l; scratch = d.scratch }) (with_same f n d.files same)

at_file : (f : FileState → FileState) (s : Option ℕ) (d : Directory) → option_and_then (λ n. slice_get (with_scratch f s d).files n) s ≡ option_map f (option_and_then (λ n. slice_get d.files n) s)
at_file f None d = refl
at_file f (Some n) d = get_with f n d.files

pub twice : (f g h : FileState → FileState) (d : Directory) → ((file : FileState) → scratch_of d ≡ Some file → g (f file) ≡ h file)
    → with_scratch g (with_scratch f d.scratch d).scratch (with_scratch f d.scratch d) ≡ with_scratch h d.scratch d
twice f g h d same = ap (λ s. with_scratch g s (with_scratch f d.scratch d)) (scratch_kept f d.scratch d) ∙ at_twice f g h d.scratch d same

pub idle : (f : FileState → FileState) (d : Directory) → ((file : FileState) → scratch_of d ≡ Some file → f file ≡ file) → with_scratch f d.scratch d ≡ d
idle f d same = at_same f d.scratch d same

pub changed : (f : FileState → FileState) (d : Directory) → scratch_of (with_scratch f d.scratch d) ≡ option_map f (scratch_of d)
changed f d = ap (λ s. option_and_then (λ n. slice_get (with_scratch f d.scratch d).files n) s) (scratch_kept f d.scratch d) ∙ at_file f d.scratch d

-- a file of the changed ones
pub changed_some : (f : FileState → FileState) (o : Option FileState) (now : FileState) → option_map f o ≡ Some now → (file : FileState) × (o ≡ Some file) × (now ≡ f file)
changed_some f None now is = absurd (cc)
changed_some f (Some file) now is = (file, refl, (cc))
