-- What the calls of a directory, and a stop, do to the texts that stand there.
use Rattle.std.proofs.Common.{◌≡◌, ◌≢◌, ◌⊎◌, inl, inr, ⊎_elim, Bool, ℕ, ◌-◌, true, false, List, [], ◌∷◌, ◌++◌, length, take, refl, sym, ◌∙◌, ap, subst, arith}
use Rattle.std.specs.Prelude.{slice_get, map, Option, None, Some, option_and_then, if◌then◌else◌}
use Rattle.std.specs.Option.{option_map}
use Rattle.std.specs.FinMap.{get, remove}
use Rattle.std.proofs.lemmas.List.{length-append, take_all, take-append-le}
use Rattle.std.proofs.lemmas.List.Sums.{fold-append}
use Rattle.std.proofs.lemmas.Option.{slice_get-map, slice_get_within}
use Rattle.dir_calls.specs.declared.choice.Choice.{Choice}
use Rattle.dir_calls.specs.declared.choice.Choice.TheVariants.{Kept, Empty, Junk}
use Rattle.dir_calls.specs.NameTable.{Names, NameTable, NameChange, takes, puts, moves, after_change as names_after, after_changes, current, push}
use Rattle.dir_calls.specs.Directory.{Directory, FileState, KeepsSynced, names_of, number_of, file_at}
use Rattle.dir_calls.specs.Calls.{Call, makes, appends, patches, syncs, renames, settles, after, lasting, longer, patched, taken_from, with_scratch, with_names, is_number, moved}
use Rattle.dir_calls.specs.Stop.{chosen_bytes, chosen_changes, stopped_file, stopped as after_stop}
use Rattle.dir_calls.proofs.Lasting.{after_keeps}
use Rattle.dir_calls.proofs.NamesOf.{get-remove_other, get-insert_same, get-insert_other, get-remove_same}
use Rattle.dir_calls.proofs.NameTables.{current-push}
use Rattle.dir_calls.proofs.Renames.{number_is}
use Rattle.rules_install.specs.Filled.{whole_file}
use Rattle.rules_install.specs.Installing.{Installing, synced_file}
use Rattle.rules_install.specs.Steps.{IsCallOf}
use Rattle.dir_calls.specs.declared.phase.Phase.{Phase}
use Rattle.dir_calls.specs.declared.phase.Phase.TheVariants.{Fresh, Filling, Synced, Named, Done}
use Rattle.rules_install.proofs.StepFits.{Numbered, numbered}
use Rattle.script_tool.specs.Kept.{HasTexts, IsFileOf, Shows, sim_names}
use Rattle.script_tool.specs.Texts.{Change, Texts, after_change, at_phase, changed, left_by, stopped}

-- ---- what is shown

-- the scratch file has another name
apart : sim_names.cdb ≢ sim_names.tmp
apart is = absurd (omega (arith, ap length is))

-- synced files are shown as before
shows_kept : (names : Names) (files later : List FileState) (text : Option (List ℕ)) → KeepsSynced files later → Shows names files text → Shows names later text
shows_kept names files later None keeps shows = shows
shows_kept names files later (Some text) keeps shows =
    let at = numbered files (get names (sim_names.cdb)) _ shows.1 in
    (shows.0, ap (option_and_then (λ n. slice_get later n)) at.is ∙ keeps.each at.n _ at.there refl, shows.2, shows.3)

-- the scratch file's name stands for the file that it stood for, or for none
abbrev HasTmpOf : Names → Names → Type 0
HasTmpOf names other = (get other (sim_names.tmp) ≡ get names (sim_names.tmp)) ⊎ (get other (sim_names.tmp) ≡ None)

-- names that agree at the rules file's, and at the scratch file's or have none, show the same
shows_same : (names other : Names) (files : List FileState) (text : Option (List ℕ)) → get other (sim_names.cdb) ≡ get names (sim_names.cdb) → HasTmpOf names other → Shows names files text → Shows other files text
shows_same names other files None same tmp shows = same ∙ shows
shows_same names other files (Some text) same tmp shows =
    (shows.0, ap (option_and_then (λ n. slice_get files n)) same ∙ shows.1, shows.2, λ one. ⊎_elim (λ there. shows.3 (sym same ∙ one ∙ there)) (λ none. absurd (some_none (sym at.is ∙ sym same ∙ one ∙ none))) tmp)
  where
    at : Numbered files (get names (sim_names.cdb)) (record { bytes = shows.0; synced = true })
    at = numbered files (get names (sim_names.cdb)) _ shows.1

    some_none : ◌≡◌ {A = Option ℕ} (Some at.n) None → ⊥
    some_none is = cc

-- a scratch file's name for a new file
shows_fresh : (names other : Names) (files : List FileState) (text : Option (List ℕ)) → get other (sim_names.cdb) ≡ get names (sim_names.cdb) → get other (sim_names.tmp) ≡ Some (length files) → Shows names files text → Shows other files text
shows_fresh names other files None same tmp shows = same ∙ shows
shows_fresh names other files (Some text) same tmp shows =
    (shows.0, ap (option_and_then (λ n. slice_get files n)) same ∙ shows.1, shows.2, λ one. newer (sym at.is ∙ sym same ∙ one ∙ tmp))
  where
    at : Numbered files (get names (sim_names.cdb)) (record { bytes = shows.0; synced = true })
    at = numbered files (get names (sim_names.cdb)) _ shows.1

    newer : ◌≡◌ {A = Option ℕ} (Some at.n) (Some (length files)) → ⊥
    newer is = let same : at.n ≡ length files = cc in omega (arith, same, slice_get_within files at.n _ at.there)

-- so the rules file's name is none for the scratch file
two_files : (names : Names) (files : List FileState) (text : Option (List ℕ)) (n : ℕ) → Shows names files text → get names (sim_names.tmp) ≡ Some n → is_number n (get names (sim_names.cdb)) ≡ false
two_files names files None n shows tmp = ap (is_number n) shows
two_files names files (Some text) n shows tmp = by (is_number n (get names (sim_names.cdb))) refl
  where
    by : (same : Bool) → same ≡ is_number n (get names (sim_names.cdb)) → is_number n (get names (sim_names.cdb)) ≡ false
    by true is = absurd (shows.3 (number_is n (get names (sim_names.cdb)) (sym is) ∙ sym tmp))
    by false is = sym is

-- ---- files alone are changed

files_kept : (d : Directory) (files : List FileState) (scratch : Option ℕ) (t : Texts) → KeepsSynced d.files files → HasTexts d t → HasTexts (record { names = d.names; files = files; scratch = scratch }) t
files_kept d files scratch t keeps has = record {
  standing = shows_kept (names_of d) d.files files t.standing keeps has.standing;
  left = λ choice. shows_kept (after_changes d.names.settled (chosen_changes choice d.names.pending)) d.files files (left_by choice t) keeps (has.left choice);
}

same_names : (d new : Directory) (t : Texts) → new.names ≡ d.names → KeepsSynced d.files new.files → HasTexts d t → HasTexts new t
same_names d new t same keeps has =
    subst (λ (n : NameTable). HasTexts (record { names = n; files = new.files; scratch = new.scratch }) t) (sym same) (files_kept d new.files new.scratch t keeps has)

scratch_names : (change : FileState → FileState) (scratch : Option ℕ) (d : Directory) → (with_scratch change scratch d).names ≡ d.names
scratch_names change None d = refl
scratch_names change (Some number) d = refl

-- ---- one change of names more

-- what stands before the last
all_but_last : {A : Type 0} (xs : List A) (x : A) → take (length (xs ++ x ∷ []) - 1) (xs ++ x ∷ []) ≡ xs
all_but_last xs x =
    let count : length (xs ++ x ∷ []) - 1 ≡ length xs = omega (arith, length-append xs (x ∷ [])) in
    ap (λ n. take n (xs ++ x ∷ [])) count ∙ take-append-le (length xs) xs (x ∷ []) (omega arith) ∙ take_all (length xs) xs (omega arith)

-- the texts after a change of the text that stands
abbrev with_change : Change → Texts → Texts
with_change change t = record { standing = after_change t.standing change; settled = t.settled; changes = t.changes ++ change ∷ [] }

-- the names so far show what they did, and the last change makes them show what the change of texts makes of it
module _ (d : Directory) (base : NameTable) (last : NameChange) (files : List FileState) (t : Texts) (change : Change) (settled : base.settled ≡ d.names.settled)
    (same : get (current base) (sim_names.cdb) ≡ get (names_of d) (sim_names.cdb)) (tmp : HasTmpOf (names_of d) (current base)) (keeps : KeepsSynced d.files files)
    (shown : (text : Option (List ℕ)) → Shows (names_of d) d.files text → Shows (names_after (current base) last) files (after_change text change)) (has : HasTexts d t) where
  left_more : (choice : Choice) → Shows (after_changes base.settled (chosen_changes choice (base.pending ++ last ∷ []))) files (left_by choice (with_change change t))
  left_more Kept =
      subst (λ (n : Names). Shows n files (left_by Kept (with_change change t))) (sym (current-push base last))
      (subst (λ o. Shows (names_after (current base) last) files o) (sym (fold-append after_change t.settled t.changes (change ∷ []))) (shown (left_by Kept t) (has.left Kept)))
  left_more Empty =
      subst (λ (n : Names). Shows n files t.settled) (sym settled) (shows_kept d.names.settled d.files files t.settled keeps (has.left Empty))
  left_more Junk =
      subst (λ (l : List NameChange). Shows (after_changes base.settled l) files (left_by Junk (with_change change t))) (sym (all_but_last base.pending last))
      (subst (λ (l : List Change). Shows (current base) files (left_by Kept (record { standing = t.standing; settled = t.settled; changes = l }))) (sym (all_but_last t.changes change))
      (shows_same (names_of d) (current base) files (left_by Kept t) same tmp (shows_kept (names_of d) d.files files (left_by Kept t) keeps (has.left Kept))))

  changed_once : (scratch : Option ℕ) → HasTexts (record { names = push base last; files = files; scratch = scratch }) (with_change change t)
  changed_once scratch = record {
    standing = subst (λ (n : Names). Shows n files (after_change t.standing change)) (sym (current-push base last)) (shown t.standing has.standing);
    left = left_more;
  }

-- ---- the scratch file is made

-- the names without the scratch file's
untaken : (table : NameTable) (number : Option ℕ) → ((taken_from table (sim_names.tmp) number).settled ≡ table.settled)
    × (get (current (taken_from table (sim_names.tmp) number)) (sim_names.cdb) ≡ get (current table) (sim_names.cdb))
    × HasTmpOf (current table) (current (taken_from table (sim_names.tmp) number))
untaken table None = (refl, refl, inl refl)
untaken table (Some number) = (
  refl,
  ap (λ (n : Names). get n (sim_names.cdb)) (current-push table (takes (sim_names.tmp))) ∙ get-remove_other (current table) (sim_names.cdb) (sim_names.tmp) apart,
  inr (ap (λ (n : Names). get n (sim_names.tmp)) (current-push table (takes (sim_names.tmp))) ∙ get-remove_same (current table) (sim_names.tmp)),
)

makes_texts : (d : Directory) (t : Texts) → HasTexts d t → HasTexts (after (makes (sim_names.tmp)) d) (changed None t)
makes_texts d t has =
    changed_once d base (puts (sim_names.tmp) (length d.files)) _ t None less.0 less.1 less.2 keeps shown has (Some (length d.files))
  where
    base : NameTable
    base = taken_from d.names (sim_names.tmp) (number_of d (sim_names.tmp))

    less : (base.settled ≡ d.names.settled) × (get (current base) (sim_names.cdb) ≡ get (names_of d) (sim_names.cdb)) × HasTmpOf (names_of d) (current base)
    less = untaken d.names (number_of d (sim_names.tmp))

    keeps : KeepsSynced d.files (after (makes (sim_names.tmp)) d).files
    keeps = after_keeps (makes (sim_names.tmp)) d

    shown : (text : Option (List ℕ)) → Shows (names_of d) d.files text → Shows (names_after (current base) (puts (sim_names.tmp) (length d.files))) (after (makes (sim_names.tmp)) d).files text
    shown text shows =
        shows_kept _ d.files _ text keeps
        (shows_fresh (names_of d) _ d.files text (get-insert_other (current base) (sim_names.cdb) (sim_names.tmp) (length d.files) apart ∙ less.1) (get-insert_same (current base) (sim_names.tmp) (length d.files)) shows)

-- ---- it is moved onto the name of the rules file

renames_texts : (d : Directory) (t : Texts) (text file : List ℕ) → file_at d (sim_names.tmp) ≡ Some (record { bytes = file; synced = true }) → IsFileOf text file → HasTexts d t
    → HasTexts (after (renames (sim_names.tmp) (sim_names.cdb)) d) (at_phase text t Named)
renames_texts d t text file there is has = subst (λ e. HasTexts e (at_phase text t Named)) (sym moved_is) (changed_once d d.names last d.files t (Some text) refl refl (inl refl) (record { each = λ n file is synced. is }) shown has d.scratch)
  where
    at : Numbered d.files (number_of d (sim_names.tmp)) (record { bytes = file; synced = true })
    at = numbered d.files (number_of d (sim_names.tmp)) _ there

    last : NameChange
    last = moves (sim_names.tmp) (sim_names.cdb) at.n

    new : Directory
    new = with_names d (push d.names last)

    moved_is : after (renames (sim_names.tmp) (sim_names.cdb)) d ≡ new
    moved_is =
        ap (moved d (sim_names.tmp) (sim_names.cdb)) at.is ∙ ap (λ s. if s then d else new) (two_files (names_of d) d.files t.standing at.n has.standing at.is)

    shown : (old : Option (List ℕ)) → Shows (names_of d) d.files old → Shows (names_after (names_of d) last) d.files (Some text)
    shown old shows =
        (file, ap (option_and_then (λ n. slice_get d.files n)) cdb ∙ at.there, is, λ one. absurd (some_none (sym cdb ∙ one ∙ tmp)))
      where
        some_none : ◌≡◌ {A = Option ℕ} (Some at.n) None → ⊥
        some_none is = cc

        cdb : get (names_after (names_of d) last) (sim_names.cdb) ≡ Some at.n
        cdb = get-insert_same (remove (names_of d) (sim_names.tmp)) (sim_names.cdb) at.n

        tmp : get (names_after (names_of d) last) (sim_names.tmp) ≡ None
        tmp = get-insert_other (remove (names_of d) (sim_names.tmp)) (sim_names.tmp) (sim_names.cdb) at.n (λ same. apart (sym same)) ∙ get-remove_same (names_of d) (sim_names.tmp)

-- ---- the names are settled, or the machine stops

settles_texts : (d : Directory) (t : Texts) (text : List ℕ) → HasTexts d t → HasTexts (after settles d) (at_phase text t Done)
settles_texts d t text has = record { standing = has.standing; left = left }
  where
    left : (choice : Choice) → Shows (after_changes (names_of d) (chosen_changes choice [])) d.files (left_by choice (at_phase text t Done))
    left Kept = has.standing
    left Empty = has.standing
    left Junk = has.standing

stopped_spares : (choice : Choice) (file : FileState) → file.synced ≡ true → stopped_file choice file ≡ file
stopped_spares choice file synced =
    ap (λ s. record { bytes = if s then file.bytes else chosen_bytes choice file.bytes; synced = true }) synced ∙ ap (λ s. record { bytes = file.bytes; synced = s }) (sym synced)

stopped_keeps : (choice : Choice) (files : List FileState) → KeepsSynced files (map (stopped_file choice) files)
stopped_keeps choice files = record { each = λ n file is synced. slice_get-map (stopped_file choice) files n ∙ ap (option_map (stopped_file choice)) is ∙ ap Some (stopped_spares choice file synced) }

pub stop_texts : (choice : Choice) (d : Directory) (t : Texts) → HasTexts d t → HasTexts (after_stop choice d) (stopped choice t)
stop_texts choice d t has = record { standing = shown; left = left }
  where
    shown : Shows (after_changes d.names.settled (chosen_changes choice d.names.pending)) (map (stopped_file choice) d.files) (left_by choice t)
    shown = shows_kept _ d.files (map (stopped_file choice) d.files) (left_by choice t) (stopped_keeps choice d.files) (has.left choice)

    left : (later : Choice) → Shows (after_changes (after_stop choice d).names.settled (chosen_changes later [])) (map (stopped_file choice) d.files) (left_by later (stopped choice t))
    left Kept = shown
    left Empty = shown
    left Junk = shown

-- ---- a step of an installation

pub step_texts : (s : Installing) (next : Phase) (d new : Directory) (t : Texts) (text : List ℕ) (call : Call) → s.names ≡ sim_names → IsFileOf text (whole_file s.rules)
    → (next ≡ Named → file_at d (s.names.tmp) ≡ Some (synced_file s.rules)) → IsCallOf s next call → new ≡ after call d → HasTexts d t → HasTexts new (at_phase text t next)
step_texts s next d new t text call names is there of_step new_is has = subst (λ e. HasTexts e (at_phase text t next)) (sym new_is) (by next there of_step)
  where
    by : (phase : Phase) → (phase ≡ Named → file_at d (s.names.tmp) ≡ Some (synced_file s.rules)) → IsCallOf s phase call → HasTexts (after call d) (at_phase text t phase)
    by Fresh there makes_it =
        subst (λ (c : Call). HasTexts (after c d) (changed None t)) (sym (makes_it ∙ ap (λ n. makes (n.tmp)) names)) (makes_texts d t has)
    by Filling there (inl fills) =
        subst (λ (c : Call). HasTexts (after c d) t) (sym fills.1) (same_names d (after (appends fills.0) d) t (scratch_names (longer fills.0) d.scratch d) (after_keeps (appends fills.0) d) has)
    by Filling there (inr fills) =
        subst (λ (c : Call). HasTexts (after c d) t) (sym fills.2) (same_names d (after (patches fills.0 fills.1) d) t (scratch_names (patched fills.0 fills.1) d.scratch d) (after_keeps (patches fills.0 fills.1) d) has)
    by Synced there closes =
        subst (λ (c : Call). HasTexts (after c d) t) (sym closes) (same_names d (after syncs d) t (scratch_names lasting d.scratch d) (after_keeps syncs d) has)
    by Named there moves_it =
        let call_is : call ≡ renames (sim_names.tmp) (sim_names.cdb) = moves_it ∙ ap (λ n. renames n.tmp n.cdb) names in
        let stands : file_at d (sim_names.tmp) ≡ Some (synced_file s.rules) = subst (λ n. file_at d (n.tmp) ≡ Some (synced_file s.rules)) names (there refl) in
        subst (λ (c : Call). HasTexts (after c d) (at_phase text t Named)) (sym call_is) (renames_texts d t text (whole_file s.rules) stands is has)
    by Done there settles_it =
        subst (λ (c : Call). HasTexts (after c d) (at_phase text t Done)) (sym settles_it) (settles_texts d t text has)
