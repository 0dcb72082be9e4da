-- A directory in memory after a change.
use Rattle.std.proofs.Common.{Global, ◌≡◌, Bool, true, false, ℕ, zero, suc, ◌+◌, ◌-◌, ◌≤◌, ◌<◌, List, [], ◌∷◌, ◌++◌, length, get_or, take, drop, refl, sym, ◌∙◌, ap, subst, arith, append_assoc, length-append, length-take, length-drop}
use Rattle.std.proofs.lemmas.List.{drop-drop, with_items_is, take_all, drop_all, take-append-le, drop-append-le, take-append-drop}
use Rattle.std.proofs.lemmas.List.Sums.{fold-append}
use Rattle.std.proofs.lemmas.Option.{slice_get-map, slice_get_past, slice_get_read}
use Rattle.std.specs.FinMap.{insert, remove}
use Rattle.std.specs.Option.{ForSome, option_eq, option_map}
use Rattle.std.specs.Vec.{with_items}
use Rattle.std.specs.Prelude.{nat_eq, Vec, map, slice_get, slice_set, option_to_list, option_and_then, Option, None, Some, if◌then◌else◌}
use Rattle.memory_dirs.specs.declared.stored.Stored.{Stored}
use Rattle.memory_dirs.specs.declared.stored.Stored.TheVariants.{Open}
use Rattle.dir_calls.specs.NameTable.{Names, NameTable, NameChange, takes, puts, moves, after_change, after_changes, current, push, all_settled}
use Rattle.dir_calls.specs.Directory.{Directory, FileState, number_of}
use Rattle.dir_calls.specs.Calls.{renames, after, is_number, moved, taken_from, with_names, with_file, with_scratch, rewritten}
use Rattle.memory_dirs.specs.Folder.{table_of}
use Rattle.memory_dirs.specs.Stored.{file_of}
use Rattle.dir_calls.proofs.Pairs.{insert-remove}

-- the names as a reader sees them
pub current-table_of : (origin : Names) (settled : ℕ) (changes : List NameChange) → current (table_of origin settled changes) ≡ after_changes origin changes
current-table_of origin settled changes = sym (fold-append after_change origin (take settled changes) (drop settled changes)) ∙ ap (after_changes origin) (take-append-drop settled changes)

pub table_of-push : (origin : Names) (settled : ℕ) (changes : List NameChange) (change : NameChange) → settled ≤ length changes → table_of origin settled (changes ++ change ∷ []) ≡ push (table_of origin settled changes) change
table_of-push origin settled changes change le = λ i. record { settled = after_changes origin (take-append-le settled changes (change ∷ []) le i); pending = drop-append-le settled changes (change ∷ []) le i }

pub table_of-all : (origin : Names) (settled count : ℕ) (changes : List NameChange) → count ≡ length changes → table_of origin count changes ≡ all_settled (table_of origin settled changes)
table_of-all origin settled count changes is = λ i. record { settled = standing i; pending = drop_all count changes (omega (arith, is)) i }
  where
    standing : after_changes origin (take count changes) ≡ current (table_of origin settled changes)
    standing = ap (after_changes origin) (take_all count changes (omega (arith, is))) ∙ sym (current-table_of origin settled changes)

-- what is found under a name is compared as the definition does
pub same_found : {b : Bool} (found number : Option ℕ) (n : ℕ) → found ≡ number → option_eq nat_eq found (Some n) ≡ b → is_number n number ≡ b
same_found {b} found None n same is = subst (λ (o : Option ℕ). option_eq nat_eq o (Some n) ≡ b) same is
same_found {b} found (Some m) n same is = subst (λ (o : Option ℕ). option_eq nat_eq o (Some n) ≡ b) same is

-- a name is moved onto another for the same file, or not
module _ (d : Directory) (from to : List ℕ) (number : ℕ) (is : number_of d from ≡ Some number) where
  pub renamed_same : is_number number (number_of d to) ≡ true → d ≡ after (renames from to) d
  renamed_same same = sym (ap (moved d from to) is ∙ ap (λ s. if s then d else with_names d (push d.names (moves from to number))) same)

  pub renamed_other : is_number number (number_of d to) ≡ false → with_names d (push d.names (moves from to number)) ≡ after (renames from to) d
  renamed_other other = sym (ap (moved d from to) is ∙ ap (λ s. if s then d else with_names d (push d.names (moves from to number))) other)

map_set : (f : FileState → FileState) (files : List Stored) (k : ℕ) (old new : Stored) → old ≡ get_or files k old → file_of new ≡ f (file_of old) → map file_of (slice_set files k new) ≡ with_file f k (map file_of files)
map_set f [] k old new at_k is = refl
map_set f (x ∷ files) zero old new at_k is = λ i. (is ∙ ap (λ s. f (file_of s)) at_k) i ∷ map file_of files
map_set f (x ∷ files) (suc k) old new at_k is = ap (λ (l : List FileState). file_of x ∷ l) (map_set f files k old new at_k is)

same_set : (files : List Stored) (k : ℕ) (old new : Stored) → old ≡ get_or files k old → file_of new ≡ file_of old → map file_of (slice_set files k new) ≡ map file_of files
same_set [] k old new at_k is = refl
same_set (x ∷ files) zero old new at_k is = λ i. (is ∙ ap file_of at_k) i ∷ map file_of files
same_set (x ∷ files) (suc k) old new at_k is = ap (λ (l : List FileState). file_of x ∷ l) (same_set files k old new at_k is)

-- the file is as it was
pub unchanged : (names : NameTable) (files : List Stored) (scratch : Option ℕ) (k : ℕ) (old new : Stored) → old ≡ get_or files k old → file_of new ≡ file_of old
    → ◌≡◌ {A = Directory} (record { names = names; files = map file_of (slice_set files k new); scratch = scratch }) (record { names = names; files = map file_of files; scratch = scratch })
unchanged names files scratch k old new at_k is = ap (λ (fs : List FileState). record { names = names; files = fs; scratch = scratch }) (same_set files k old new at_k is)

-- the scratch file is changed
pub scratch_set : (f : FileState → FileState) (names : NameTable) (files : List Stored) (scratch : Option ℕ) (k : ℕ) (old new : Stored) → scratch ≡ Some k → old ≡ get_or files k old → file_of new ≡ f (file_of old)
    → ◌≡◌ {A = Directory} (record { names = names; files = map file_of (slice_set files k new); scratch = scratch }) (with_scratch f scratch (record { names = names; files = map file_of files; scratch = scratch }))
scratch_set f names files scratch k old new scratch_is at_k is =
    ap (λ (fs : List FileState). record { names = names; files = fs; scratch = scratch }) (map_set f files k old new at_k is)
    ∙ sym (ap (λ (s : Option ℕ). with_scratch f s (record { names = names; files = map file_of files; scratch = scratch })) scratch_is)

pub rewritten-synced : (file : FileState) (bytes : List ℕ) → file.synced ≡ true → rewritten file bytes ≡ file
rewritten-synced file bytes is = ap (λ s. record { bytes = if s then file.bytes else bytes; synced = file.synced }) is

-- the changes that put a name, after one that takes it away if it stands
abbrev pub putting : List ℕ → ℕ → Option ℕ → List NameChange
putting name number stood = option_to_list (option_map (λ _. takes name) stood) ++ puts name number ∷ []

pub table_of-putting : (origin : Names) (settled : ℕ) (changes : List NameChange) (name : List ℕ) (number : ℕ) (stood : Option ℕ) → settled ≤ length changes
    → table_of origin settled (changes ++ putting name number stood) ≡ push (taken_from (table_of origin settled changes) name stood) (puts name number)
table_of-putting origin settled changes name number None le = table_of-push origin settled changes (puts name number) le
table_of-putting origin settled changes name number (Some old) le =
    ap (table_of origin settled) (sym (append_assoc changes (takes name ∷ []) (puts name number ∷ [])))
    ∙ table_of-push origin settled (changes ++ takes name ∷ []) (puts name number) (omega (arith, le, length-append changes (takes name ∷ [])))
    ∙ ap (λ (t : NameTable). push t (puts name number)) (table_of-push origin settled changes (takes name) le)

pub after_changes-putting : (origin : Names) (changes : List NameChange) (name : List ℕ) (number : ℕ) (stood : Option ℕ)
    → after_changes origin (changes ++ putting name number stood) ≡ insert (remove (after_changes origin changes) name) name number
after_changes-putting origin changes name number None = fold-append after_change origin changes (puts name number ∷ []) ∙ sym (insert-remove (after_changes origin changes) name number)
after_changes-putting origin changes name number (Some old) = fold-append after_change origin changes (takes name ∷ puts name number ∷ [])

-- what the scratch file has room for, an open file at its number has room for
pub scratch_room : (files : List Stored) (scratch : Option ℕ) (k position count : ℕ) (stored : Stored) (old : Vec ℕ Global) → scratch ≡ Some k → k < length files → stored ≡ get_or files k stored → stored ≡ Open old
    → ForSome (option_and_then (λ number. slice_get (map file_of files) number) scratch) (λ file. position + count ≤ length file.bytes) → position + count ≤ length old.items
scratch_room files scratch k position count stored old scratch_is lt at_k is holds =
    holds (file_of (Open old)) (ap (option_and_then (λ number. slice_get (map file_of files) number)) scratch_is ∙ slice_get-map file_of files k ∙ ap (option_map file_of) (slice_get_read files (length files) k stored refl lt at_k ∙ ap Some is))

-- bytes are written into those of an open file
module _ (old : Vec ℕ Global) (position : ℕ) (bytes : List ℕ) (inside : position + length bytes ≤ length old.items) where
  whole-length : length (take position old.items ++ bytes ++ drop (position + length bytes) old.items) ≡ length old.items
  whole-length = simp (length-append, length-take, length-drop) (omega arith)

  pub patched_items : (now copied : List ℕ) → now ≡ old.items → copied ≡ bytes
      → (with_items old (take position now ++ (copied ++ drop (position + length bytes - position) (drop position now)))).items ≡ take position old.items ++ bytes ++ drop (position + length bytes) old.items
  patched_items now copied now_is copied_is =
      ap (λ ws. (with_items old ws).items) (
      (λ i. take position (now_is i) ++ (copied_is i ++ drop (position + length bytes - position) (drop position (now_is i))))
      ∙ sym (append_assoc (take position old.items) bytes _)
      ∙ ap (λ l. take position old.items ++ bytes ++ l) (drop-drop (position + length bytes - position) position old.items ∙ ap (λ n. drop n old.items) total))
      ∙ with_items_is old _ (whole-length ∙ sym old.ok.0)
    where
      total : position + (position + length bytes - position) ≡ position + length bytes
      total = omega arith

-- ---- what stands under a name

abbrev bytes_at : List Stored → Option ℕ → Option (List ℕ)
bytes_at files number = option_map (λ (f : FileState). f.bytes) (option_and_then (λ n. slice_get (map file_of files) n) number)

-- those of the file that is read from the list
pub bytes_read : (read files : List Stored) (number : Option ℕ) (n : ℕ) (item file : Stored) → read ≡ files → number ≡ Some n → n < length read → item ≡ get_or read n item → item ≡ file
    → bytes_at files number ≡ Some (file_of file).bytes
bytes_read read files number n item file same is within there item_is = subst (λ (l : List Stored). bytes_at l number ≡ Some (file_of file).bytes) same
    (ap (bytes_at read) is ∙ ap (option_map (λ (f : FileState). f.bytes)) (slice_get-map file_of read n ∙ ap (option_map file_of) (slice_get_read read (length read) n item refl within there ∙ ap (λ (f : Stored). Some f) item_is)))

pub bytes_nowhere : (files : List Stored) (number : Option ℕ) (n : ℕ) → number ≡ Some n → length files ≤ n → bytes_at files number ≡ None
bytes_nowhere files number n is past = ap (bytes_at files) is ∙ ap (option_map (λ (f : FileState). f.bytes)) (slice_get-map file_of files n ∙ ap (option_map file_of) (slice_get_past files n past))

pub bytes_of_none : (files : List Stored) (number : Option ℕ) → number ≡ None → bytes_at files number ≡ None
bytes_of_none files number is = ap (bytes_at files) is
