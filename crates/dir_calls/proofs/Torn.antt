-- Changes of names that a stop tears.
use Rattle.std.proofs.Common.{◌≡◌, ◌≢◌, ◌⊎◌, inl, inr, ⊎_elim, Bool, true, false, ℕ, suc, List, [], ◌∷◌, length, take, refl, sym, ◌∙◌, ap}
use Rattle.std.proofs.lemmas.Bool.{eq-eqb}
use Rattle.std.proofs.lemmas.List.{length-map}
use Rattle.std.proofs.lemmas.Option.{slice_get-map}
use Rattle.std.specs.Prelude.{cond, map, Option, None, Some, if◌then◌else◌}
use Rattle.std.specs.Option.{option_map}
use Rattle.std.specs.FinMap.{get, insert, remove, get-insert, get-remove}
use Rattle.std.specs.Cmp.Lexicographic.{nat_list_cmp_total}
use Rattle.dir_calls.specs.declared.choice.Choice.TheVariants.{Junk}
use Rattle.dir_calls.specs.NameTable.{Names, NameTable, NameChange, takes, puts, moves, CanBeLeft, same_name, after_change, after_changes, push}
use Rattle.dir_calls.specs.Directory.{Directory, names_of, number_of}
use Rattle.dir_calls.specs.Images.{IsImage, LeftByName}
use Rattle.dir_calls.specs.Calls.{renames, after, is_number, moved, with_names}
use Rattle.dir_calls.specs.Stop.{puts_of, stopped_file, torn}
use Rattle.dir_calls.specs.Torn.{HasImage, MayBeTorn, StandFor}
use Rattle.dir_calls.proofs.NamesOf.{get-insert_same, get-insert_other, get-remove_other, get-remove_same}
use Rattle.dir_calls.proofs.NameTables.{current-push, left_current, left_last}
use Rattle.dir_calls.proofs.Pairs.{same_is}
use Rattle.dir_calls.proofs.Renames.{number_is}
use Rattle.dir_calls.proofs.Stops.{file_left}

-- ---- without what is taken away

-- after one change that puts a name
put_first : (name other : List ℕ) (n : ℕ) (change : NameChange) (changes : List NameChange) (now was base : Names) → after_change now change ≡ insert base other n
    → (last : Option ℕ) → (last ≡ get (insert was other n) name) ⊎ ((count : ℕ) × (last ≡ get (after_changes (after_change now change) (take count changes)) name))
    → (last ≡ get was name) ⊎ ((count : ℕ) × (last ≡ get (after_changes now (take count (change ∷ changes))) name))
put_first name other n change changes now was base is last (inr (count, there)) = inr (suc count, there)
put_first name other n change changes now was base is last (inl put) = by (same_name name other) refl
  where
    by : (same : Bool) → same ≡ same_name name other → (last ≡ get was name) ⊎ ((count : ℕ) × (last ≡ get (after_changes now (take count (change ∷ changes))) name))
    by false apart = inl (put ∙ get-insert nat_list_cmp_total was other n name ∙ ap (λ r. cond r (Some n) (get was name)) (sym apart))
    by true same = inr (
      1,
      put ∙ get-insert nat_list_cmp_total was other n name ∙ ap (λ r. cond r (Some n) (get was name)) (sym same)
          ∙ sym (ap (λ (m : Names). get m name) is ∙ get-insert nat_list_cmp_total base other n name ∙ ap (λ r. cond r (Some n) (get base name)) (sym same)),
    )

-- what stands under a name after the puts alone stood there before, or stands there after some of the changes
put_or : (name : List ℕ) (changes : List NameChange) (now was : Names)
    → (get (after_changes was (puts_of changes)) name ≡ get was name) ⊎ ((count : ℕ) × (get (after_changes was (puts_of changes)) name ≡ get (after_changes now (take count changes)) name))
put_or name [] now was = inl refl
put_or name (takes other ∷ changes) now was = ⊎_elim (λ same. inl same) (λ there. inr (suc there.0, there.1)) (put_or name changes (remove now other) was)
put_or name (puts other n ∷ changes) now was =
    put_first name other n (puts other n) changes now was now refl _ (put_or name changes (insert now other n) (insert was other n))
put_or name (moves from to n ∷ changes) now was =
    put_first name to n (moves from to n) changes now was (remove now from) refl _ (put_or name changes (insert (remove now from) to n) (insert was to n))

torn_left : (table : NameTable) → LeftByName table (after_changes table.settled (puts_of table.pending))
torn_left table = record {
  each = λ name. ⊎_elim (λ same. (table.settled, record { count = 0; are = refl }, same))
      (λ there. (after_changes table.settled (take there.0 table.pending), record { count = there.0; are = refl }, there.1))
      (put_or name table.pending table.settled table.settled);
}

pub torn_is : (d : Directory) → IsImage d (torn d)
torn_is d = record {
  names = torn_left d.names;
  none_pending = refl;
  count = length-map d.files (stopped_file Junk);
  files = λ number file there. (stopped_file Junk file, slice_get-map (stopped_file Junk) d.files number ∙ ap (option_map (stopped_file Junk)) there, file_left d.names number Junk file);
  no_scratch = refl;
}

-- ---- a rename that is torn

-- the image with other names
abbrev image_with : Directory → Names → Directory
image_with d names = record { names = record { settled = names; pending = [] }; files = map (stopped_file Junk) d.files; scratch = None }

image_with_is : (d : Directory) (names : Names) → LeftByName d.names names → IsImage d (image_with d names)
image_with_is d names left = record {
  names = left;
  none_pending = refl;
  count = length-map d.files (stopped_file Junk);
  files = λ number file there. (stopped_file Junk file, slice_get-map (stopped_file Junk) d.files number ∙ ap (option_map (stopped_file Junk)) there, file_left d.names number Junk file);
  no_scratch = refl;
}

module _ (d : Directory) (from to : List ℕ) (n : ℕ) (may : MayBeTorn d from to n) where
  apart : from ≢ to
  apart same = may.other (ap (number_of d) (sym same) ∙ may.stands)

  abbrev new : Directory
  new = with_names d (push d.names (moves from to n))

  moved_is : after (renames from to) d ≡ new
  moved_is = ap (moved d from to) may.stands ∙ chosen (is_number n (number_of d to)) refl
    where
      chosen : (same : Bool) → same ≡ is_number n (number_of d to) → (if same then d else new) ≡ new
      chosen true there = absurd (may.other (number_is n (number_of d to) (sym there)))
      chosen false other = refl

  -- the names before and after
  before_left : CanBeLeft new.names (names_of d)
  before_left = record { count = length d.names.pending; are = left_last d.names (moves from to n) }

  after_left : CanBeLeft new.names (insert (remove (names_of d) from) to n)
  after_left = record { count = (left_current new.names).count; are = sym (current-push d.names (moves from to n)) ∙ (left_current new.names).are }

  -- both names
  both_names : LeftByName new.names (insert (names_of d) to n)
  both_names = record { each = λ name. by name (same_name name to) refl }
    where
      by : (name : List ℕ) (same : Bool) → same ≡ same_name name to → (was : Names) × CanBeLeft new.names was × (get (insert (names_of d) to n) name ≡ get was name)
      by name true same = (
        insert (remove (names_of d) from) to n,
        after_left,
        get-insert nat_list_cmp_total (names_of d) to n name ∙ ap (λ r. cond r (Some n) (get (names_of d) name)) (sym same)
            ∙ sym (get-insert nat_list_cmp_total (remove (names_of d) from) to n name ∙ ap (λ r. cond r (Some n) (get (remove (names_of d) from) name)) (sym same)),
      )
      by name false other = (names_of d, before_left, get-insert nat_list_cmp_total (names_of d) to n name ∙ ap (λ r. cond r (Some n) (get (names_of d) name)) (sym other))

  pub torn_both : HasImage (after (renames from to) d) (StandFor from (Some n) to (Some n))
  torn_both = rw moved_is (
    image_with new (insert (names_of d) to n),
    image_with_is new (insert (names_of d) to n) both_names,
    (get-insert_other (names_of d) from to n apart ∙ may.stands, get-insert_same (names_of d) to n),
  )

  -- neither
  neither_names : LeftByName new.names (remove (names_of d) from)
  neither_names = record { each = λ name. by name (same_name name from) refl }
    where
      by : (name : List ℕ) (same : Bool) → same ≡ same_name name from → (was : Names) × CanBeLeft new.names was × (get (remove (names_of d) from) name ≡ get was name)
      by name true same = (insert (remove (names_of d) from) to n, after_left, sym (get-insert_other (remove (names_of d) from) name to n (λ is. apart (sym (same_is name from (sym same)) ∙ is))))
      by name false other = (names_of d, before_left, get-remove nat_list_cmp_total (names_of d) from name ∙ ap (λ r. cond r None (get (names_of d) name)) (sym other))

  pub torn_neither : HasImage (after (renames from to) d) (StandFor from None to (number_of d to))
  torn_neither = rw moved_is (
    image_with new (remove (names_of d) from),
    image_with_is new (remove (names_of d) from) neither_names,
    (
      get-remove_same (names_of d) from,
      get-remove_other (names_of d) to from (λ is. apart (sym is)),
    ),
  )

-- ---- two names of one file

pub same_file : (d : Directory) (from to : List ℕ) → number_of d from ≡ number_of d to → after (renames from to) d ≡ d
same_file d from to same = by (number_of d from) refl
  where
    itself : (n : ℕ) → is_number n (Some n) ≡ true
    itself n = eq-eqb n n refl

    by : (number : Option ℕ) → number ≡ number_of d from → moved d from to number ≡ d
    by None is = refl
    by (Some n) is = ap (λ b. if b then d else with_names d (push d.names (moves from to n))) (ap (is_number n) (sym same ∙ sym is) ∙ itself n)
