-- A file that no stop leaves a name.
use Rattle.std.proofs.Common.{◌≡◌, ◌⊎◌, inl, inr, ⊎_elim, ℕ, zero, suc, true, List, [], ◌∷◌, length, refl, ◌∙◌, ap, subst}
use Rattle.std.specs.Prelude.{slice_get, Some}
use Rattle.dir_calls.specs.declared.choice.Choice.TheVariants.{Kept}
use Rattle.dir_calls.specs.Directory.{Directory, FileState}
use Rattle.dir_calls.specs.Images.{IsImage, IsLeftOf, MayHaveName}
use Rattle.dir_calls.specs.Calls.{with_file}
use Rattle.dir_calls.specs.Stop.{stopped}
use Rattle.dir_calls.specs.Torn.{HasFile, HasImage, IsNameless}
use Rattle.dir_calls.proofs.Stops.{stopped_is}

-- a file of the list with another in its place
abbrev changed : FileState → ℕ → List FileState → List FileState
changed new number files = with_file (λ _. new) number files

count : (new : FileState) (number : ℕ) (files : List FileState) → length (changed new number files) ≡ length files
count new number [] = refl
count new zero (f ∷ files) = refl
count new (suc number) (f ∷ files) = ap suc (count new number files)

here : (new old : FileState) (number : ℕ) (files : List FileState) → slice_get files number ≡ Some old → slice_get (changed new number files) number ≡ Some new
here new old number [] there = absurd (cc)
here new old zero (f ∷ files) there = refl
here new old (suc number) (f ∷ files) there = here new old number files there

-- one of them is that one, or as it was
each : (new : FileState) (number m : ℕ) (files : List FileState) (left : FileState) → slice_get files m ≡ Some left
    → (slice_get (changed new number files) m ≡ Some left) ⊎ ((m ≡ number) × (slice_get (changed new number files) m ≡ Some new))
each new number m [] left there = inl there
each new zero zero (f ∷ files) left there = inr (refl, refl)
each new zero (suc m) (f ∷ files) left there = inl there
each new (suc number) zero (f ∷ files) left there = inl there
each new (suc number) (suc m) (f ∷ files) left there = ⊎_elim (λ same. inl same) (λ other. inr (ap suc other.0, other.1)) (each new number m files left there)

module _ (d : Directory) (number : ℕ) (file : FileState) (bytes : List ℕ) (nameless : IsNameless d number file) where
  abbrev new : FileState
  new = record { bytes = bytes; synced = true }

  abbrev image : Directory
  image = record { names = (stopped Kept d).names; files = changed new number (stopped Kept d).files; scratch = (stopped Kept d).scratch }

  plain : IsImage d (stopped Kept d)
  plain = stopped_is Kept d

  was : (left : FileState) × (slice_get (stopped Kept d).files number ≡ Some left) × IsLeftOf d.names number file left
  was = plain.files number file nameless.there

  left_of : (m : ℕ) (f : FileState) → slice_get d.files m ≡ Some f → (left : FileState) × (slice_get image.files m ≡ Some left) × IsLeftOf d.names m f left
  left_of m f there =
      let old = plain.files m f there in
      ⊎_elim (λ same. (old.0, same, old.2))
      (λ other. (new, other.1, record { bytes = λ named synced. absurd (nameless.never_named (subst (λ n. MayHaveName d.names n) other.0 named)); synced = refl }))
      (each new number m (stopped Kept d).files old.0 old.1)

  is : IsImage d image
  is = record { names = plain.names; none_pending = plain.none_pending; count = count new number (stopped Kept d).files ∙ plain.count; files = left_of; no_scratch = plain.no_scratch }

  pub any_bytes : HasImage d (HasFile number bytes)
  any_bytes = (image, is, here new was.0 number (stopped Kept d).files was.1)
