-- The number that stands under a name, whatever names a stop leaves, while calls of a directory are made.
use Rattle.std.proofs.Common.{◌≡◌, ◌≢◌, ◌⊎◌, inl, inr, ⊎_elim, Bool, true, false, ℕ, List, length, refl, sym, ◌∙◌, ap, subst}
use Rattle.std.specs.Prelude.{Option, None, Some, if◌then◌else◌}
use Rattle.std.specs.FinMap.{get, remove}
use Rattle.dir_calls.specs.NameTable.{Names, NameTable, NameChange, takes, puts, moves, CanBeLeft, after_change, current, push}
use Rattle.dir_calls.specs.Directory.{Directory, FileState, KeepsSynced, names_of, number_of}
use Rattle.dir_calls.specs.Calls.{Call, makes, renews, appends, patches, syncs, renames, settles, after, longer, patched, lasting, with_scratch, with_names, taken_from, without, cleared, is_number, moved}
use Rattle.dir_calls.specs.Outcomes.{Passes, LeavesNames, Fails}
use Rattle.dir_calls.proofs.Lasting.{after_keeps}
use Rattle.dir_calls.proofs.NamesOf.{get-remove_other, get-insert_same, get-insert_other}
use Rattle.dir_calls.proofs.NameTables.{left_current, left_push, left_settled, left_some}
use Rattle.dir_calls.proofs.Passing.{passes_start}

-- whatever names a stop leaves of a table, the number under a name has a property
abbrev pub EachLeft : NameTable → List ℕ → (Option ℕ → Type 0) → Type 0
EachLeft table name P = (names : Names) → CanBeLeft table names → P (get names name)

-- a call puts only numbers with a property under a name, and does not take it away
abbrev pub PutsOnly : Call → Directory → List ℕ → (Option ℕ → Type 0) → Type 0
PutsOnly (makes other) d name P = name ≢ other
PutsOnly (renews other) d name P = name ≢ other
PutsOnly (renames from to) d name P = (to ≡ name) × ((number : ℕ) → number_of d from ≡ Some number → P (Some number))
PutsOnly call d name P = Unit {0}

-- a change of the scratch file leaves the names
pub names-with_scratch : (change : FileState → FileState) (d : Directory) (scratch : Option ℕ) → (with_scratch change scratch d).names ≡ d.names
names-with_scratch change d None = refl
names-with_scratch change d (Some number) = refl

-- and which file it is
pub scratch-with_scratch : (change : FileState → FileState) (d : Directory) (scratch : Option ℕ) → (with_scratch change scratch d).scratch ≡ d.scratch
scratch-with_scratch change d None = refl
scratch-with_scratch change d (Some number) = refl

-- one pending change more, after which the number has the property too
pub left_more : (name : List ℕ) (P : Option ℕ → Type 0) (table : NameTable) (change : NameChange) → EachLeft table name P → P (get (after_change (current table) change) name) → EachLeft (push table change) name P
left_more name P table change before new names left = ⊎_elim (before names) (λ is. subst (λ (m : Names). P (get m name)) (sym is) new) (left_push table change names left)

-- what holds whatever a stop leaves holds now
pub left_now : (table : NameTable) (name : List ℕ) (P : Option ℕ → Type 0) → EachLeft table name P → P (get (current table) name)
left_now table name P each = each (current table) (left_current table)

-- the numbers under a name whose directory loses another name, or has a new file under it
module _ (d : Directory) (name : List ℕ) (P : Option ℕ → Type 0) (each : EachLeft d.names name P) where
  same_names : (state : Directory) → state.names ≡ d.names → EachLeft state.names name P
  same_names state same names left = each names (subst (λ (table : NameTable). CanBeLeft table names) same left)

  gone : (other : List ℕ) → name ≢ other → (number : Option ℕ) → EachLeft (taken_from d.names other number) name P
  gone other differ None = each
  gone other differ (Some number) =
      left_more name P d.names (takes other) each (subst P (sym (get-remove_other (names_of d) name other differ)) (left_now d.names name P each))

  new : (other : List ℕ) → name ≢ other → EachLeft (push (without d other).names (puts other (length d.files))) name P
  new other differ =
      let names = (without d other).names in
      left_more name P names (puts other (length d.files)) (gone other differ (number_of d other))
      (subst P (sym (get-insert_other (current names) name other (length d.files) differ)) (left_now names name P (gone other differ (number_of d other))))

-- each state within a call that puts only such numbers under the name
module _ (d : Directory) (name : List ℕ) (P : Option ℕ → Type 0) (each : EachLeft d.names name P) where
  put_onto : (from to : List ℕ) (number : ℕ) → to ≡ name → P (Some number) → EachLeft (push d.names (moves from to number)) name P
  put_onto from to number same has =
      left_more name P d.names (moves from to number) each
      (subst (λ (n : List ℕ). P (get (after_change (names_of d) (moves from to number)) n)) same (subst P (sym (get-insert_same (remove (names_of d) from) to number)) has))

  onto : (from to : List ℕ) → to ≡ name → (number : Option ℕ) → ((n : ℕ) → number ≡ Some n → P (Some n)) → EachLeft (moved d from to number).names name P
  onto from to same None has = each
  onto from to same (Some number) has =
      elim (is_number number (number_of d to)) as (λ (b : Bool). EachLeft (if b then d else with_names d (push d.names (moves from to number))).names name P) [
        | true ↦ each
        | false ↦ put_onto from to number same (has number refl)
      ]

  clear : (other : List ℕ) → name ≢ other → EachLeft (cleared d other).names name P
  clear other differ names left =
      let gone_too = gone d name P each other differ (number_of d other) in
      subst (λ (m : Names). P (get m name)) (sym (left_settled (without d other).names names left)) (left_now (without d other).names name P gone_too)

  filled : (change : FileState → FileState) (state : Directory) → (state ≡ d) ⊎ (state ≡ with_scratch change d.scratch d) → EachLeft state.names name P
  filled change state (inl is) = same_names d name P each state (ap (λ e. e.names) is)
  filled change state (inr is) = same_names d name P each state (ap (λ e. e.names) is ∙ names-with_scratch change d d.scratch)

  pub left_within : (call : Call) (state : Directory) → PutsOnly call d name P → Passes call d state → EachLeft state.names name P
  left_within (makes other) state only (inl is) = same_names d name P each state (ap (λ e. e.names) is)
  left_within (makes other) state only (inr (inl is)) = subst (λ (e : Directory). EachLeft e.names name P) (sym is) (gone d name P each other only (number_of d other))
  left_within (makes other) state only (inr (inr is)) = subst (λ (e : Directory). EachLeft e.names name P) (sym is) (new d name P each other only)
  left_within (renews other) state only (inl is) = same_names d name P each state (ap (λ e. e.names) is)
  left_within (renews other) state only (inr (inl is)) = subst (λ (e : Directory). EachLeft e.names name P) (sym is) (gone d name P each other only (number_of d other))
  left_within (renews other) state only (inr (inr (inl is))) = subst (λ (e : Directory). EachLeft e.names name P) (sym is) (clear other only)
  left_within (renews other) state only (inr (inr (inr is))) =
      subst (λ (e : Directory). EachLeft e.names name P) (sym is) (new (cleared d other) name P (clear other only) other only)
  left_within (appends piece) state only passes = filled (longer piece) state passes
  left_within (patches position bytes) state only passes = filled (patched position bytes) state passes
  left_within syncs state only (inl is) = same_names d name P each state (ap (λ e. e.names) is)
  left_within syncs state only (inr is) = same_names d name P each state (ap (λ e. e.names) is ∙ names-with_scratch lasting d d.scratch)
  left_within (renames from to) state only (inl is) = same_names d name P each state (ap (λ e. e.names) is)
  left_within (renames from to) state only (inr is) = subst (λ (e : Directory). EachLeft e.names name P) (sym is) (onto from to only.0 (number_of d from) only.1)
  left_within settles state only (inl is) = same_names d name P each state (ap (λ e. e.names) is)
  left_within settles state only (inr is) = subst (λ (e : Directory). EachLeft e.names name P) (sym is) settled
    where
      settled : EachLeft (after settles d).names name P
      settled names left = subst (λ (m : Names). P (get m name)) (sym (left_settled d.names names left)) (left_now d.names name P each)

-- what a stop leaves after a call that failed, it could leave within the call
left_of_failed : (call : Call) (d : Directory) (table : NameTable) (names : Names) → LeavesNames call d table → CanBeLeft table names → (state : Directory) × Passes call d state × CanBeLeft state.names names
left_of_failed settles d table names leaves left = (d, passes_start settles d, left_some d.names table names leaves left)
left_of_failed (makes name) d table names leaves left = (leaves.0, leaves.1, subst (λ (t : NameTable). CanBeLeft t names) leaves.2 left)
left_of_failed (renews name) d table names (inl leaves) left = (leaves.0, leaves.1, subst (λ (t : NameTable). CanBeLeft t names) leaves.2 left)
left_of_failed (renews name) d table names (inr some) left = (without d name, inr (inl refl), left_some (without d name).names table names some left)
left_of_failed (appends piece) d table names leaves left = (leaves.0, leaves.1, subst (λ (t : NameTable). CanBeLeft t names) leaves.2 left)
left_of_failed (patches position bytes) d table names leaves left = (leaves.0, leaves.1, subst (λ (t : NameTable). CanBeLeft t names) leaves.2 left)
left_of_failed syncs d table names leaves left = (leaves.0, leaves.1, subst (λ (t : NameTable). CanBeLeft t names) leaves.2 left)
left_of_failed (renames from to) d table names leaves left = (leaves.0, leaves.1, subst (λ (t : NameTable). CanBeLeft t names) leaves.2 left)

-- the same after such a call that failed
pub left_failed : (d e : Directory) (name : List ℕ) (P : Option ℕ → Type 0) (call : Call) → EachLeft d.names name P → PutsOnly call d name P → Fails call d e → EachLeft e.names name P
left_failed d e name P call each only fails names left =
    let was = left_of_failed call d e.names names fails.names left in
    left_within d name P each call was.0 only was.1 names was.2

-- ---- synced files

same_files : (files : List FileState) → KeepsSynced files files
same_files files = record { each = λ number file is synced. is }

before_or_after : (call : Call) (d state : Directory) → (state ≡ d) ⊎ (state ≡ after call d) → KeepsSynced d.files state.files
before_or_after call d state (inl is) = subst (λ (s : Directory). KeepsSynced d.files s.files) (sym is) (same_files d.files)
before_or_after call d state (inr is) = subst (λ (s : Directory). KeepsSynced d.files s.files) (sym is) (after_keeps call d)

-- No state within a call has another synced file.
pub within_keeps : (call : Call) (d state : Directory) → Passes call d state → KeepsSynced d.files state.files
within_keeps (makes name) d state (inl is) = before_or_after (makes name) d state (inl is)
within_keeps (makes name) d state (inr (inl is)) = subst (λ (s : Directory). KeepsSynced d.files s.files) (sym is) (same_files d.files)
within_keeps (makes name) d state (inr (inr is)) = before_or_after (makes name) d state (inr is)
within_keeps (renews name) d state (inl is) = before_or_after (renews name) d state (inl is)
within_keeps (renews name) d state (inr (inl is)) = subst (λ (s : Directory). KeepsSynced d.files s.files) (sym is) (same_files d.files)
within_keeps (renews name) d state (inr (inr (inl is))) = subst (λ (s : Directory). KeepsSynced d.files s.files) (sym is) (same_files d.files)
within_keeps (renews name) d state (inr (inr (inr is))) = before_or_after (renews name) d state (inr is)
within_keeps (appends piece) d state passes = before_or_after (appends piece) d state passes
within_keeps (patches position bytes) d state passes = before_or_after (patches position bytes) d state passes
within_keeps syncs d state passes = before_or_after syncs d state passes
within_keeps (renames from to) d state passes = before_or_after (renames from to) d state passes
within_keeps settles d state passes = before_or_after settles d state passes
