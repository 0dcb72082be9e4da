-- What each call leaves under a name.
use Rattle.std.proofs.Common.{◌≡◌, ◌≢◌, ◌⊎◌, inl, inr, ⊎_elim, Bool, true, false, ℕ, zero, suc, List, [], ◌∷◌, ◌++◌, length, refl, sym, ◌∙◌, ap, subst}
use Rattle.std.specs.Prelude.{slice_get, Option, None, Some, Result, Ok, Err, option_and_then, if◌then◌else◌}
use Rattle.std.specs.Option.{option_map}
use Rattle.std.specs.FinMap.{get, remove}
use Rattle.dir_calls.specs.declared.fault.DirFault.{DirFault}
use Rattle.dir_calls.specs.declared.fault.DirFault.TheVariants.{NoScratch, NoName, Device, OutOfMemory}
use Rattle.dir_calls.specs.NameTable.{Names, NameTable, NameChange, takes, puts, moves, CanBeLeft, after_change, current, push}
use Rattle.dir_calls.specs.Directory.{Directory, FileState, KeepsSynced, names_of, number_of}
use Rattle.dir_calls.specs.Images.{IsImage, MayHaveName}
use Rattle.dir_calls.specs.Calls.{Call, makes, renews, appends, patches, syncs, renames, settles, after, is_number, rewritten, longer, patched, lasting, with_file, with_scratch, with_names, taken_from, without, moved}
use Rattle.dir_calls.specs.Outcomes.{Passes, LeavesNames, Fails, Does, LeftBy}
use Rattle.dir_calls.specs.Lasting.{IsAmong, StandsFor, LastsAmong, HasAmong}
use Rattle.dir_calls.proofs.NamesOf.{get-remove_other, get-insert_same, get-insert_other}
use Rattle.dir_calls.proofs.NameTables.{current-push, left_current, left_push, left_settled, left_some}
use Rattle.dir_calls.proofs.Passing.{passes_start, passes_end}

abbrev Contents : Type 0
Contents = List (Option (List ℕ))

pub stays : (files later : List FileState) (contents : Contents) (number : Option ℕ) → KeepsSynced files later → StandsFor files contents number → StandsFor later contents number
stays files later contents None keeps stands = stands
stays files later contents (Some n) keeps stands = (stands.0, stands.1, keeps.each n _ stands.2 refl)

-- images have what lasts
at_number : (d image : Directory) (name : List ℕ) (names : Names) (contents : Contents) (number : Option ℕ) → IsImage d image → CanBeLeft d.names names → get names name ≡ number → StandsFor d.files contents number
    → IsAmong contents (option_map (λ file. file.bytes) (option_and_then (λ n. slice_get image.files n) number))
at_number d image name names contents None is can same stands = stands
at_number d image name names contents (Some n) is can same stands =
    let left = is.files n _ stands.2 in
    let has_name : MayHaveName d.names n = record { name = name; names = names; left = can; stands = same } in
    subst (λ (o : Option FileState). IsAmong contents (option_map (λ file. file.bytes) o)) (sym left.1) (subst (λ bytes. IsAmong contents (Some bytes)) (sym (left.2.bytes has_name refl)) stands.1)

pub image_has : (d image : Directory) (name : List ℕ) (contents : Contents) → LastsAmong d name contents → IsImage d image → HasAmong name contents image
image_has d image name contents lasts is =
    let left = is.names.each name in
    at_number d image name left.0 contents (get (names_of image) name) is left.1 (sym left.2) (subst (λ number. StandsFor d.files contents number) (sym left.2) (lasts.each left.0 left.1))

-- synced files stay
same_files : (files : List FileState) → KeepsSynced files files
same_files files = record { each = λ n file is synced. is }

slice_get-push : (files : List FileState) (new file : FileState) (n : ℕ) → slice_get files n ≡ Some file → slice_get (files ++ new ∷ []) n ≡ Some file
slice_get-push [] new file n is = absurd (cc)
slice_get-push (f ∷ files) new file zero is = is
slice_get-push (f ∷ files) new file (suc n) is = slice_get-push files new file n is

more_files : (files : List FileState) (new : FileState) → KeepsSynced files (files ++ new ∷ [])
more_files files new = record { each = λ n file is synced. slice_get-push files new file n is }

-- a change of files that lets synced ones be
pub record SparesSynced (change : FileState → FileState) : Type 0 where
  pub each : (file : FileState) → file.synced ≡ true → change file ≡ file

one_changed : (change : FileState → FileState) (files : List FileState) (k n : ℕ) (file : FileState) → SparesSynced change → slice_get files n ≡ Some file → file.synced ≡ true → slice_get (with_file change k files) n ≡ Some file
one_changed change [] k n file spares is synced = absurd (cc)
one_changed change (x ∷ files) zero zero file spares is synced = let same : x ≡ file = cc in ap (λ (f : FileState). Some (change f)) same ∙ ap Some (spares.each file synced)
one_changed change (x ∷ files) zero (suc n) file spares is synced = is
one_changed change (x ∷ files) (suc k) zero file spares is synced = is
one_changed change (x ∷ files) (suc k) (suc n) file spares is synced = one_changed change files k n file spares is synced

pub rewritten_spares : (bytes : FileState → List ℕ) → SparesSynced (λ file. rewritten file (bytes file))
rewritten_spares bytes = record { each = λ file synced. ap (λ s. record { bytes = if s then file.bytes else bytes file; synced = file.synced }) synced }

pub lasting_spares : SparesSynced lasting
lasting_spares = record { each = λ file synced. ap (λ s. record { bytes = file.bytes; synced = s }) (sym synced) }

scratch_changed : (change : FileState → FileState) (d : Directory) (scratch : Option ℕ) → SparesSynced change → KeepsSynced d.files (with_scratch change scratch d).files
scratch_changed change d None spares = same_files d.files
scratch_changed change d (Some k) spares = record { each = λ n file is synced. one_changed change d.files k n file spares is synced }

scratch_named : (change : FileState → FileState) (d : Directory) (scratch : Option ℕ) → (with_scratch change scratch d).names ≡ d.names
scratch_named change d None = refl
scratch_named change d (Some k) = refl

-- No call changes a synced file.
pub after_keeps : (call : Call) (d : Directory) → KeepsSynced d.files (after call d).files
after_keeps (makes name) d = more_files d.files _
after_keeps (renews name) d = more_files d.files _
after_keeps (appends piece) d = scratch_changed (longer piece) d d.scratch (rewritten_spares (λ file. file.bytes ++ piece))
after_keeps (patches position bytes) d = scratch_changed (patched position bytes) d d.scratch (rewritten_spares _)
after_keeps syncs d = scratch_changed lasting d d.scratch lasting_spares
after_keeps (renames from to) d = by (number_of d from)
  where
    by : (number : Option ℕ) → KeepsSynced d.files (moved d from to number).files
    by None = same_files d.files
    by (Some n) = chosen (is_number n (number_of d to))
      where
        chosen : (s : Bool) → KeepsSynced d.files (if s then d else with_names d (push d.names (moves from to n))).files
        chosen true = same_files d.files
        chosen false = same_files d.files
after_keeps settles d = same_files d.files

either : (call : Call) (d state : Directory) → (state ≡ d) ⊎ (state ≡ after call d) → KeepsSynced d.files state.files
either call d state (inl is) = subst (λ (s : Directory). KeepsSynced d.files s.files) (sym is) (same_files d.files)
either call d state (inr is) = subst (λ (s : Directory). KeepsSynced d.files s.files) (sym is) (after_keeps call d)

passes_keeps : (call : Call) (d state : Directory) → Passes call d state → KeepsSynced d.files state.files
passes_keeps (makes name) d state (inl is) = subst (λ (s : Directory). KeepsSynced d.files s.files) (sym is) (same_files d.files)
passes_keeps (makes name) d state (inr (inl is)) = subst (λ (s : Directory). KeepsSynced d.files s.files) (sym is) (same_files d.files)
passes_keeps (makes name) d state (inr (inr is)) = subst (λ (s : Directory). KeepsSynced d.files s.files) (sym is) (after_keeps (makes name) d)
passes_keeps (renews name) d state (inl is) = subst (λ (s : Directory). KeepsSynced d.files s.files) (sym is) (same_files d.files)
passes_keeps (renews name) d state (inr (inl is)) = subst (λ (s : Directory). KeepsSynced d.files s.files) (sym is) (same_files d.files)
passes_keeps (renews name) d state (inr (inr (inl is))) = subst (λ (s : Directory). KeepsSynced d.files s.files) (sym is) (same_files d.files)
passes_keeps (renews name) d state (inr (inr (inr is))) = subst (λ (s : Directory). KeepsSynced d.files s.files) (sym is) (after_keeps (renews name) d)
passes_keeps (appends piece) d state passes = either (appends piece) d state passes
passes_keeps (patches position bytes) d state passes = either (patches position bytes) d state passes
passes_keeps syncs d state passes = either syncs d state passes
passes_keeps (renames from to) d state passes = either (renames from to) d state passes
passes_keeps settles d state passes = either settles d state passes

-- while a call is made, whatever names a stop leaves, one of these contents stands under a name
pub record CallKeeps (call : Call) (d : Directory) (name : List ℕ) (contents : List (Option (List ℕ))) : Type 0 where
  pub numbers : (state : Directory) → Passes call d state → (names : Names) → CanBeLeft state.names names → StandsFor d.files contents (get names name)

pub passes_lasts : (call : Call) (d state : Directory) (name : List ℕ) (contents : Contents) → CallKeeps call d name contents → Passes call d state → LastsAmong state name contents
passes_lasts call d state name contents keeps passes = record { each = λ names left. stays d.files state.files contents _ (passes_keeps call d state passes) (keeps.numbers state passes names left) }

-- what a stop leaves after a call that failed, it could leave within the call
failed_left : (call : Call) (d : Directory) (table : NameTable) (names : Names) → LeavesNames call d table → CanBeLeft table names → (state : Directory) × Passes call d state × CanBeLeft state.names names
failed_left settles d table names leaves left = (d, passes_start settles d, left_some d.names table names leaves left)
failed_left (makes name) d table names leaves left = (leaves.0, leaves.1, subst (λ (t : NameTable). CanBeLeft t names) leaves.2 left)
failed_left (renews name) d table names (inl leaves) left = (leaves.0, leaves.1, subst (λ (t : NameTable). CanBeLeft t names) leaves.2 left)
failed_left (renews name) d table names (inr some) left = (without d name, inr (inl refl), left_some (without d name).names table names some left)
failed_left (appends piece) d table names leaves left = (leaves.0, leaves.1, subst (λ (t : NameTable). CanBeLeft t names) leaves.2 left)
failed_left (patches position bytes) d table names leaves left = (leaves.0, leaves.1, subst (λ (t : NameTable). CanBeLeft t names) leaves.2 left)
failed_left syncs d table names leaves left = (leaves.0, leaves.1, subst (λ (t : NameTable). CanBeLeft t names) leaves.2 left)
failed_left (renames from to) d table names leaves left = (leaves.0, leaves.1, subst (λ (t : NameTable). CanBeLeft t names) leaves.2 left)

pub fails_lasts : (call : Call) (d e : Directory) (name : List ℕ) (contents : Contents) → CallKeeps call d name contents → Fails call d e → LastsAmong e name contents
fails_lasts call d e name contents keeps fails = record {
  each = λ names left. stays d.files e.files contents _ fails.files (let was = failed_left call d e.names names fails.names left in keeps.numbers was.0 was.1 names was.2);
}

pub left_has : (call : Call) (d e image : Directory) (name : List ℕ) (contents : Contents) → CallKeeps call d name contents → LastsAmong e name contents → LeftBy call d e image → HasAmong name contents image
left_has call d e image name contents keeps lasts (inl within) = image_has within.0 image name contents (passes_lasts call d within.0 name contents keeps within.1) within.2
left_has call d e image name contents keeps lasts (inr now) = image_has e image name contents lasts now

-- what lasts once a call has answered
pub does_lasts : {T : Type 0} (done : T → Call) (whole : Call) (d e : Directory) (outcome : Result T DirFault) (name : List ℕ) (contents : Contents)
    → Does done whole d e outcome → CallKeeps whole d name contents → ((x : T) → CallKeeps (done x) d name contents) → LastsAmong e name contents
does_lasts done whole d e (Ok x) name contents does keeps part = subst (λ s. LastsAmong s name contents) (sym does) (passes_lasts (done x) d (after (done x) d) name contents (part x) (passes_end (done x) d))
does_lasts done whole d e (Err Device) name contents does keeps part = fails_lasts whole d e name contents keeps does
does_lasts done whole d e (Err NoScratch) name contents does keeps part = subst (λ s. LastsAmong s name contents) (sym does) (passes_lasts whole d d name contents keeps (passes_start whole d))
does_lasts done whole d e (Err NoName) name contents does keeps part = subst (λ s. LastsAmong s name contents) (sym does) (passes_lasts whole d d name contents keeps (passes_start whole d))
does_lasts done whole d e (Err OutOfMemory) name contents does keeps part = subst (λ s. LastsAmong s name contents) (sym does) (passes_lasts whole d d name contents keeps (passes_start whole d))

-- each call keeps what lasts under a name that it does not change
module _ (d : Directory) (name : List ℕ) (contents : List (Option (List ℕ))) (lasts : LastsAmong d name contents) where
  same_names : (t : NameTable) → t ≡ d.names → (names : Names) → CanBeLeft t names → StandsFor d.files contents (get names name)
  same_names t same names left = lasts.each names (subst (λ (u : NameTable). CanBeLeft u names) same left)

  -- one change more
  one_more : (t : NameTable) (c : NameChange) → ((names : Names) → CanBeLeft t names → StandsFor d.files contents (get names name)) → StandsFor d.files contents (get (after_change (current t) c) name)
      → (names : Names) → CanBeLeft (push t c) names → StandsFor d.files contents (get names name)
  one_more t c before new names left = ⊎_elim (before names) (λ is. subst (λ (m : Names). StandsFor d.files contents (get m name)) (sym is) new) (left_push t c names left)

  now : StandsFor d.files contents (number_of d name)
  now = lasts.each (names_of d) (left_current d.names)

  pub makes_keeps : (other : List ℕ) → name ≢ other → CallKeeps (makes other) d name contents
  makes_keeps other differ = record { numbers = numbers }
    where
      gone : (o : Option ℕ) (names : Names) → CanBeLeft (taken_from d.names other o) names → StandsFor d.files contents (get names name)
      gone None names left = lasts.each names left
      gone (Some n) names left = one_more d.names (takes other) lasts.each (subst (λ number. StandsFor d.files contents number) (sym (get-remove_other (names_of d) name other differ)) now) names left

      gone_now : (o : Option ℕ) → get (current (taken_from d.names other o)) name ≡ number_of d name
      gone_now None = refl
      gone_now (Some n) = ap (λ (m : Names). get m name) (current-push d.names (takes other)) ∙ get-remove_other (names_of d) name other differ

      new : (names : Names) → CanBeLeft (push (without d other).names (puts other (length d.files))) names → StandsFor d.files contents (get names name)
      new = one_more (without d other).names (puts other (length d.files)) (gone (number_of d other))
          (subst (λ number. StandsFor d.files contents number) (sym (get-insert_other (current (without d other).names) name other (length d.files) differ ∙ gone_now (number_of d other))) now)

      numbers : (s : Directory) → Passes (makes other) d s → (names : Names) → CanBeLeft s.names names → StandsFor d.files contents (get names name)
      numbers s (inl is) names left = same_names s.names (ap (λ e. e.names) is) names left
      numbers s (inr (inl is)) names left = gone (number_of d other) names (subst (λ (e : Directory). CanBeLeft e.names names) is left)
      numbers s (inr (inr is)) names left = new names (subst (λ (e : Directory). CanBeLeft e.names names) is left)

  scratch_keeps : (change : FileState → FileState) (s : Directory) → (s ≡ d) ⊎ (s ≡ with_scratch change d.scratch d) → (names : Names) → CanBeLeft s.names names → StandsFor d.files contents (get names name)
  scratch_keeps change s (inl is) = same_names s.names (ap (λ e. e.names) is)
  scratch_keeps change s (inr is) = same_names s.names (ap (λ e. e.names) is ∙ scratch_named change d d.scratch)

  pub appends_keeps : (piece : List ℕ) → CallKeeps (appends piece) d name contents
  appends_keeps piece = record { numbers = scratch_keeps (longer piece) }

  pub patches_keeps : (position : ℕ) (bytes : List ℕ) → CallKeeps (patches position bytes) d name contents
  patches_keeps position bytes = record { numbers = scratch_keeps (patched position bytes) }

  pub syncs_keeps : CallKeeps syncs d name contents
  syncs_keeps = record { numbers = numbers }
    where
      numbers : (s : Directory) → Passes syncs d s → (names : Names) → CanBeLeft s.names names → StandsFor d.files contents (get names name)
      numbers s (inl is) = same_names s.names (ap (λ e. e.names) is)
      numbers s (inr is) = same_names s.names (ap (λ e. e.names) is ∙ scratch_named lasting d d.scratch)

  pub settles_keeps : CallKeeps settles d name contents
  settles_keeps = record { numbers = numbers }
    where
      numbers : (s : Directory) → Passes settles d s → (names : Names) → CanBeLeft s.names names → StandsFor d.files contents (get names name)
      numbers s (inl is) names left = same_names s.names (ap (λ e. e.names) is) names left
      numbers s (inr is) names left = subst (λ (m : Names). StandsFor d.files contents (get m name)) (sym (left_settled d.names names (subst (λ (e : Directory). CanBeLeft e.names names) is left))) now

-- more may stand there
pub stands_more : (files : List FileState) (contents more : Contents) (number : Option ℕ) → ((w : Option (List ℕ)) → IsAmong contents w → IsAmong more w) → StandsFor files contents number → StandsFor files more number
stands_more files contents more None to stands = to None stands
stands_more files contents more (Some n) to stands = (stands.0, to (Some stands.0) stands.1, stands.2)

pub lasts_more : (d : Directory) (name : List ℕ) (contents more : Contents) → ((w : Option (List ℕ)) → IsAmong contents w → IsAmong more w) → LastsAmong d name contents → LastsAmong d name more
lasts_more d name contents more to lasts = record { each = λ names left. stands_more d.files contents more _ to (lasts.each names left) }

-- a synced file is moved onto a name
module _ (d : Directory) (from to : List ℕ) (n : ℕ) (bytes : List ℕ) (number : number_of d from ≡ Some n) (file : slice_get d.files n ≡ Some (record { bytes = bytes; synced = true })) where
  pub renames_keeps : (contents : List (Option (List ℕ))) → LastsAmong d to contents → CallKeeps (renames from to) d to (Some bytes ∷ contents)
  renames_keeps contents lasts = record { numbers = numbers }
    where
      more : LastsAmong d to (Some bytes ∷ contents)
      more = lasts_more d to contents (Some bytes ∷ contents) (λ w among. inr among) lasts

      chosen : (same : Bool) (names : Names) → CanBeLeft (if same then d else with_names d (push d.names (moves from to n))).names names → StandsFor d.files (Some bytes ∷ contents) (get names to)
      chosen true names left = more.each names left
      chosen false names left = one_more d to (Some bytes ∷ contents) more d.names (moves from to n) more.each
          (subst (λ o. StandsFor d.files (Some bytes ∷ contents) o) (sym (get-insert_same (remove (names_of d) from) to n)) (bytes, inl refl, file)) names left

      numbers : (s : Directory) → Passes (renames from to) d s → (names : Names) → CanBeLeft s.names names → StandsFor d.files (Some bytes ∷ contents) (get names to)
      numbers s (inl is) names left = same_names d to (Some bytes ∷ contents) more s.names (ap (λ e. e.names) is) names left
      numbers s (inr is) names left = chosen (is_number n (number_of d to)) names (subst (λ (e : Directory). CanBeLeft e.names names) (is ∙ ap (moved d from to) number) left)

-- once the names are settled, what stands under a name lasts alone
pub settled_lasts : (d : Directory) (name : List ℕ) (contents : Contents) → StandsFor d.files contents (number_of d name) → LastsAmong (after settles d) name contents
settled_lasts d name contents stands = record { each = λ names left. subst (λ (m : Names). StandsFor d.files contents (get m name)) (sym (left_settled d.names names left)) stands }
