-- A name that is moved onto another.
use Rattle.std.proofs.Common.{◌≡◌, Bool, true, false, ℕ, List, refl, sym, ◌∙◌, ap}
use Rattle.std.proofs.lemmas.Bool.{eqb-true}
use Rattle.std.specs.Prelude.{Option, None, Some, option_and_then, slice_get, if◌then◌else◌}
use Rattle.std.specs.FinMap.{get, remove}
use Rattle.dir_calls.specs.NameTable.{Names, moves, push}
use Rattle.dir_calls.specs.Directory.{Directory, FileState, file_at, names_of, number_of}
use Rattle.dir_calls.specs.Calls.{renames, after, is_number, moved, with_names}
use Rattle.dir_calls.proofs.NamesOf.{get-insert_same}
use Rattle.dir_calls.proofs.NameTables.{current-push}

pub number_is : (n : ℕ) (o : Option ℕ) → is_number n o ≡ true → o ≡ Some n
number_is n None is = absurd (cc)
number_is n (Some m) is = ap Some (eqb-true m n is)

pub moved_files : (d : Directory) (from to : List ℕ) (number : Option ℕ) → (moved d from to number).files ≡ d.files
moved_files d from to None = refl
moved_files d from to (Some n) = chosen (is_number n (number_of d to))
  where
    chosen : (same : Bool) → (if same then d else with_names d (push d.names (moves from to n))).files ≡ d.files
    chosen true = refl
    chosen false = refl

-- both names stood for one file, or the one is moved
module _ (d : Directory) (from to : List ℕ) (n : ℕ) (is : number_of d from ≡ Some n) where
  pub moved_number : number_of (after (renames from to) d) to ≡ Some n
  moved_number = ap (λ o. number_of (moved d from to o) to) is ∙ chosen (is_number n (number_of d to)) refl
    where
      chosen : (same : Bool) → same ≡ is_number n (number_of d to) → number_of (if same then d else with_names d (push d.names (moves from to n))) to ≡ Some n
      chosen true there = number_is n (number_of d to) (sym there)
      chosen false other = ap (λ (m : Names). get m to) (current-push d.names (moves from to n)) ∙ get-insert_same (remove (names_of d) from) to n

  pub moved_file : file_at (after (renames from to) d) to ≡ slice_get d.files n
  moved_file =
      ap (λ o. option_and_then (λ number. slice_get (after (renames from to) d).files number) o) moved_number
      ∙ ap (λ (files : List FileState). slice_get files n) (moved_files d from to (number_of d from))
