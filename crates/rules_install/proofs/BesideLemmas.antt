-- Runs beside each other: each has its own file, and what stands under the rules name is whole.
use Rattle.std.proofs.Common.{◌≡◌, ◌≢◌, ◌⊎◌, inl, inr, ⊎_elim, Bool, true, false, ℕ, List, refl, sym, ◌∙◌, ap, subst, arith}
use Rattle.std.proofs.lemmas.Option.{same_Some}
use Rattle.std.specs.Prelude.{slice_get, Option, None, Some, option_and_then, Result, Ok, Err, if◌then◌else◌}
use Rattle.std.specs.Option.{option_map}
use Rattle.std.specs.FinMap.{get, remove}
use Rattle.dir_calls.specs.NameTable.{NameTable, Names, current, moves, push}
use Rattle.dir_calls.specs.Directory.{Directory, FileState, KeepsSynced, content, names_of, number_of}
use Rattle.dir_calls.specs.Calls.{Call, appends, patches, syncs, renames, after, is_number, lasting, longer, moved, patched, with_file, with_names, with_scratch}
use Rattle.dir_calls.specs.Clearing.{LeavesBefore}
use Rattle.dir_calls.specs.Images.{IsImage, MayHaveName}
use Rattle.dir_calls.specs.Lasting.{IsAmong, LastsAmong, StandsFor}
use Rattle.dir_calls.specs.Outcomes.{Fails}
use Rattle.dir_calls.specs.Torn.{StoodThere}
use Rattle.dir_calls.specs.declared.fault.DirFault.TheVariants.{NoScratch, NoName, Device, OutOfMemory as NoMemory}
use Rattle.dir_calls.proofs.Clearing.{fails_spares, makes_spares, settles_stays, unsettled_stays}
use Rattle.dir_calls.proofs.Lasting.{after_keeps}
use Rattle.dir_calls.proofs.NamesOf.{get-insert_same}
use Rattle.dir_calls.proofs.NameTables.{left_current, left_push}
use Rattle.dir_calls.proofs.WithFiles.{names_kept, scratch_kept}
use Rattle.rules_install.specs.Beside.{AreBegun, Beside, IsCompiledOf, IsFilled, IsItsFile, IsLeftAlone, IsWhole, MakesOwn, OthersChange, Run, RunSteps, Shared, SparesFile, made_after, view, none, run, others}
use Rattle.rules_install.specs.Filled.{filled_file, whole_file}
use Rattle.rules_install.specs.Installing.{FitsPhase, Installing, IsConsistent, next_phase, synced_file}
use Rattle.rules_install.specs.Steps.{Changes, IsCallOf, IsSame}
use Rattle.dir_calls.specs.declared.phase.Phase.{Phase}
use Rattle.dir_calls.specs.declared.phase.Phase.TheVariants.{Fresh, Filling, Synced, Named, Done}
use Rattle.rules_install.specs.declared.fault.InstallFault.{InstallFault}
use Rattle.rules_install.specs.declared.fault.InstallFault.TheVariants.{Line, TooLarge, Disk, Over, OutOfMemory}
use Rattle.rule_lookup.specs.Pairs.{Rule}
use Rattle.rules_install.proofs.FillSteps.{is_filling}
use Rattle.rules_install.proofs.StepFits.{named_next, numbered, synced_next, with_file_at}

-- ---- synced files stay

step_synced : (s : Installing) (next : Phase) (d e : Directory) (result : Result Phase InstallFault) → Changes s next d e result → KeepsSynced d.files e.files
step_synced s next d e (Ok phase) changes = subst (λ (x : Directory). KeepsSynced d.files x.files) (sym changes.2) (after_keeps changes.0 d)
step_synced s next d e (Err (Disk Device phase)) changes = changes.2.files
step_synced s next d e (Err (Disk NoScratch phase)) changes = subst (λ (x : Directory). KeepsSynced d.files x.files) (sym changes) (record { each = λ n file there synced. there })
step_synced s next d e (Err (Disk NoName phase)) changes = subst (λ (x : Directory). KeepsSynced d.files x.files) (sym changes) (record { each = λ n file there synced. there })
step_synced s next d e (Err (Disk NoMemory phase)) changes = subst (λ (x : Directory). KeepsSynced d.files x.files) (sym changes) (record { each = λ n file there synced. there })
step_synced s next d e (Err (Line fault)) changes = subst (λ (x : Directory). KeepsSynced d.files x.files) (sym changes) (record { each = λ n file there synced. there })
step_synced s next d e (Err TooLarge) changes = subst (λ (x : Directory). KeepsSynced d.files x.files) (sym changes) (record { each = λ n file there synced. there })
step_synced s next d e (Err Over) changes = subst (λ (x : Directory). KeepsSynced d.files x.files) (sym changes) (record { each = λ n file there synced. there })
step_synced s next d e (Err OutOfMemory) changes = subst (λ (x : Directory). KeepsSynced d.files x.files) (sym changes) (record { each = λ n file there synced. there })

-- a directory as the steps left it has the scratch file so
pub fits_filled : (s : Installing) (d : Directory) (reached : Option Phase) → FitsPhase s d reached → IsFilled s d reached
fits_filled s d None fits = tt
fits_filled s d (Some Fresh) fits = fits.1
fits_filled s d (Some Filling) fits = fits.1
fits_filled s d (Some Synced) fits = tt
fits_filled s d (Some Named) fits = tt
fits_filled s d (Some Done) fits = tt

-- ---- the file that a run made

abbrev file_of_number : List FileState → Option ℕ → Option FileState
file_of_number files number = option_and_then (λ n. slice_get files n) number

abbrev filled_state : Installing → FileState
filled_state s = record { bytes = filled_file s.rules s.filled s.patched; synced = false }

-- it is filled so far, and may still be written; or it is whole and synced, until it is moved
abbrev OwnPhase : Run → List FileState → Option Phase → Type 0
OwnPhase r files None = Unit {0}
OwnPhase r files (Some Fresh) = (r.scratch ≡ r.made) × (file_of_number files r.made ≡ Some (filled_state r.install))
OwnPhase r files (Some Filling) = (r.scratch ≡ r.made) × (file_of_number files r.made ≡ Some (filled_state r.install))
OwnPhase r files (Some Synced) = file_of_number files r.made ≡ Some (synced_file r.install.rules)
OwnPhase r files (Some Named) = Unit {0}
OwnPhase r files (Some Done) = Unit {0}

abbrev HasOwn : Run → List FileState → Type 0
HasOwn r files = r.install.over ≡ false → OwnPhase r files r.install.reached

-- others leave it alone
spared_at : (old new : List FileState) (made : Option ℕ) → ((number : ℕ) → made ≡ Some number → slice_get new number ≡ slice_get old number)
    → file_of_number new made ≡ file_of_number old made
spared_at old new None spares = refl
spared_at old new (Some n) spares = spares n refl

spared_phase : (r : Run) (old new : List FileState) (reached : Option Phase) → SparesFile r old new → OwnPhase r old reached → OwnPhase r new reached
spared_phase r old new None spares has = tt
spared_phase r old new (Some Fresh) spares has = (has.0, spared_at old new r.made spares ∙ has.1)
spared_phase r old new (Some Filling) spares has = (has.0, spared_at old new r.made spares ∙ has.1)
spared_phase r old new (Some Synced) spares has = spared_at old new r.made spares ∙ has
spared_phase r old new (Some Named) spares has = tt
spared_phase r old new (Some Done) spares has = tt

spared_has : (r s : Run) (old new : List FileState) → IsLeftAlone r s old new → HasOwn r old → HasOwn s new
spared_has r s old new (inl same) has =
    subst (λ (t : Run). HasOwn t new) (sym same.0) (λ is_open. spared_phase r old new r.install.reached same.1 (has is_open))
spared_has r s old new (inr over) has = subst (λ (t : Run). HasOwn t new) (sym over) (λ is_open. absurd (cc))

-- while it is filled
filling_own : (r : Run) (files : List FileState) (reached : Option Phase) → (reached ≡ Some Fresh) ⊎ (reached ≡ Some Filling) → OwnPhase r files reached
    → (r.scratch ≡ r.made) × (file_of_number files r.made ≡ Some (filled_state r.install))
filling_own r files reached (inl is) has = subst (λ p. OwnPhase r files p) is has
filling_own r files reached (inr is) has = subst (λ p. OwnPhase r files p) is has

fill_scratch : (s : Installing) (call : Call) (d : Directory) → IsCallOf s Filling call → (after call d).scratch ≡ d.scratch
fill_scratch s call d (inl (piece, is)) = subst (λ (k : Call). (after k d).scratch ≡ d.scratch) (sym is) (scratch_kept (longer piece) d.scratch d)
fill_scratch s call d (inr (position, bytes, is)) = subst (λ (k : Call). (after k d).scratch ≡ d.scratch) (sym is) (scratch_kept (patched position bytes) d.scratch d)

module _ (w v : Shared) (i : ℕ) (has : HasOwn (w.run i) w.files) where
  abbrev r : Run
  r = w.run i

  abbrev s : Run
  s = v.run i

  abbrev d : Directory
  d = view w i

  abbrev e : Directory
  e = view v i

  -- a step that came to a phase
  by_phase : (next phase : Phase) → next_phase r.install ≡ next → r.install.over ≡ false → IsSame r.install s.install → phase ≡ next
      → Changes r.install next d e (Ok phase) → IsFilled s.install e (Some next) → s.made ≡ made_after (Ok phase) r.made e.scratch
      → OwnPhase s v.files (Some next)
  by_phase Fresh phase is is_open same phase_is changes filled made =
      let made_is : s.made ≡ s.scratch = made ∙ ap (λ (p : Phase). made_after (Ok p) r.made e.scratch) phase_is in
      (sym made_is, ap (file_of_number v.files) made_is ∙ filled)
  by_phase Filling phase is is_open same phase_is changes filled made =
      let own = filling_own r w.files r.install.reached (is_filling r.install.reached r.install.patched is).0 (has is_open) in
      let made_is : s.made ≡ r.made = made ∙ ap (λ (p : Phase). made_after (Ok p) r.made e.scratch) phase_is in
      let scratch_is : s.scratch ≡ r.scratch = ap (λ (x : Directory). x.scratch) changes.2 ∙ fill_scratch r.install changes.0 d changes.1 in
      let same_file : s.scratch ≡ s.made = scratch_is ∙ own.0 ∙ sym made_is in
      (same_file, ap (file_of_number v.files) (sym same_file) ∙ filled)
  by_phase Synced phase is is_open same phase_is changes filled made =
      let before = synced_next r.install.reached r.install.patched is in
      let own = filling_own r w.files r.install.reached before.0 (has is_open) in
      let at = numbered w.files r.made (filled_state r.install) own.1 in
      let made_is : s.made ≡ Some at.n = made ∙ ap (λ (p : Phase). made_after (Ok p) r.made e.scratch) phase_is ∙ at.is in
      let files_are : v.files ≡ with_file lasting at.n w.files =
      ap (λ (x : Directory). x.files) (changes.2 ∙ ap (λ (k : Call). after k d) changes.1) ∙ ap (λ o. (with_scratch lasting o d).files) (own.0 ∙ at.is) in
      let whole : lasting (filled_state r.install) ≡ synced_file s.install.rules =
      ap (λ p. record { bytes = filled_file r.install.rules r.install.filled p; synced = true }) before.1
      ∙ ap (λ (rules : List Rule). synced_file rules) (sym same.rules) in
      ap (file_of_number v.files) made_is ∙ ap (λ (files : List FileState). slice_get files at.n) files_are
      ∙ with_file_at lasting w.files at.n (filled_state r.install) at.there ∙ ap Some whole
  by_phase Named phase is is_open same phase_is changes filled made = tt
  by_phase Done phase is is_open same phase_is changes filled made = tt

  pub own_keeps : (result : Result Phase InstallFault) → MakesOwn r s d e result → HasOwn s v.files
  own_keeps (Ok phase) step is_open =
      subst (λ p. OwnPhase s v.files p) (sym step.goes.1)
      (by_phase (next_phase r.install) phase refl step.may.is_open step.same step.goes.0 step.changes
      (subst (λ p. IsFilled s.install e p) step.goes.1 (step.fills is_open)) step.made)
  own_keeps (Err (Disk fault phase)) step is_open = (let over = step.goes.2 in absurd (cc))
  own_keeps (Err OutOfMemory) step is_open = still step.goes step.changes step.made
    where
      still : s.install ≡ r.install → e ≡ d → s.made ≡ r.made → OwnPhase s v.files s.install.reached
      still same_install same_view same_made =
          let t : Run = record { install = s.install; scratch = s.scratch; made = s.made } in
          let scratch_is : s.scratch ≡ r.scratch = ap (λ (x : Directory). x.scratch) same_view in
          let files_are : v.files ≡ w.files = ap (λ (x : Directory). x.files) same_view in
          let same : s ≡ r = (λ k. record { install = same_install k; scratch = scratch_is k; made = same_made k }) in
          subst (λ (files : List FileState). OwnPhase s files s.install.reached) (sym files_are)
          (subst (λ (x : Run). OwnPhase x w.files x.install.reached) (sym same) (has (ap (λ (x : Installing). x.over) (sym same_install) ∙ is_open)))
  own_keeps (Err (Line fault)) step is_open = absurd step.goes
  own_keeps (Err TooLarge) step is_open = absurd step.goes
  own_keeps (Err Over) step is_open = absurd step.goes

-- ---- what a step puts under the rules name

stood_before : (name : List ℕ) (old new : NameTable) (number : ℕ) → LeavesBefore name old new → StoodThere new name (Some number) → StoodThere old name (Some number)
stood_before name old new number before stood = let was = before stood.0 stood.1 in (was.0, was.1, stood.2 ∙ was.2)

same_before : (name : List ℕ) (old new : NameTable) → new ≡ old → LeavesBefore name old new
same_before name old new is = subst (λ (t : NameTable). LeavesBefore name old t) (sym is) (λ names left. (names, left, refl))

-- a call that changes no name
abbrev Ends : Call → Directory → Directory → Type 0
Ends call d e = (e ≡ after call d) ⊎ Fails call d e

quiet_fills : (s : Installing) (call : Call) (d : Directory) → IsCallOf s Filling call → (after call d).names ≡ d.names
quiet_fills s call d (inl (piece, is)) = subst (λ (k : Call). (after k d).names ≡ d.names) (sym is) (names_kept (longer piece) d.scratch d)
quiet_fills s call d (inr (position, bytes, is)) = subst (λ (k : Call). (after k d).names ≡ d.names) (sym is) (names_kept (patched position bytes) d.scratch d)

-- the names within a call that is one step
abbrev TwoNames : Call → Directory → Directory → Type 0
TwoNames call d e = (e.names ≡ d.names) ⊎ (e.names ≡ (after call d).names)

two_names : (call : Call) (d e state : Directory) → (state ≡ d) ⊎ (state ≡ after call d) → e.names ≡ state.names → TwoNames call d e
two_names call d e state (inl is) names = inl (names ∙ ap (λ (x : Directory). x.names) is)
two_names call d e state (inr is) names = inr (names ∙ ap (λ (x : Directory). x.names) is)

fill_names : (s : Installing) (call : Call) (d e : Directory) → IsCallOf s Filling call → Ends call d e → TwoNames call d e
fill_names s call d e is_call (inl is) = inr (ap (λ (x : Directory). x.names) is)
fill_names s call d e (inl (piece, is)) (inr fails) =
    subst (λ (k : Call). TwoNames k d e) (sym is)
    (let names = (subst (λ (k : Call). Fails k d e) is fails).names in two_names (appends piece) d e names.0 names.1 names.2)
fill_names s call d e (inr (position, bytes, is)) (inr fails) =
    subst (λ (k : Call). TwoNames k d e) (sym is)
    (let names = (subst (λ (k : Call). Fails k d e) is fails).names in two_names (patches position bytes) d e names.0 names.1 names.2)

abbrev NotNamed : Phase → Type 0
NotNamed Named = ⊥
NotNamed phase = Unit {0}

unnamed_before : (s : Installing) (next : Phase) (call : Call) (name : List ℕ) (d e : Directory) → NotNamed next → s.names.tmp ≢ name → IsCallOf s next call → Ends call d e
    → LeavesBefore name d.names e.names
unnamed_before s Fresh call name d e unnamed differ is_call (inl is) = (makes_spares s.names.tmp d e (is ∙ ap (λ (k : Call). after k d) is_call) name differ).left
unnamed_before s Fresh call name d e unnamed differ is_call (inr fails) = (fails_spares s.names.tmp d e (subst (λ (k : Call). Fails k d e) is_call fails) name differ).left
unnamed_before s Filling call name d e unnamed differ is_call ends =
    ⊎_elim (same_before name d.names e.names) (λ is. same_before name d.names e.names (is ∙ quiet_fills s call d is_call)) (fill_names s call d e is_call ends)
unnamed_before s Synced call name d e unnamed differ is_call (inl is) =
    same_before name d.names e.names (ap (λ (x : Directory). x.names) (is ∙ ap (λ (k : Call). after k d) is_call) ∙ names_kept lasting d.scratch d)
unnamed_before s Synced call name d e unnamed differ is_call (inr fails) =
    let names = (subst (λ (k : Call). Fails k d e) is_call fails).names in
    same_before name d.names e.names
    (⊎_elim (λ is. is) (λ is. is ∙ names_kept lasting d.scratch d) (two_names syncs d e names.0 names.1 names.2))
unnamed_before s Named call name d e unnamed differ is_call ends = absurd unnamed
unnamed_before s Done call name d e unnamed differ is_call (inl is) = (settles_stays name d e (is ∙ ap (λ (k : Call). after k d) is_call)).left
unnamed_before s Done call name d e unnamed differ is_call (inr fails) = (unsettled_stays name d e (subst (λ (k : Call). Fails k d e) is_call fails)).left

-- the rename puts the file there that had the scratch name
moved_there : (d : Directory) (from to : List ℕ) (n number : ℕ) → number_of d from ≡ Some n → StoodThere (after (renames from to) d).names to (Some number)
    → StoodThere d.names to (Some number) ⊎ (number ≡ n)
moved_there d from to n number is stood = chosen (is_number n (number_of d to)) (subst (λ o. StoodThere (moved d from to o).names to (Some number)) is stood)
  where
    chosen : (same : Bool) → StoodThere (if same then d else with_names d (push d.names (moves from to n))).names to (Some number)
        → StoodThere d.names to (Some number) ⊎ (number ≡ n)
    chosen true there = inl there
    chosen false there = ⊎_elim
        (λ left. inl (there.0, left, there.2))
        (λ are. inr (same_Some number n (there.2 ∙ ap (λ (m : Names). get m to) are ∙ get-insert_same (remove (names_of d) from) to n)))
        (left_push d.names (moves from to n) there.0 there.1)

abbrev StoodOrOwn : Run → Directory → NameTable → List ℕ → ℕ → Type 0
StoodOrOwn r d table name number = StoodThere table name (Some number) ⊎ IsItsFile r d.files number

module _ (r : Run) (d e : Directory) (name : List ℕ) (of_name : r.install.names.cdb ≡ name) (differ : r.install.names.cdb ≢ r.install.names.tmp) where
  -- its rename moves the file that it made
  named_own : r.install.reached ≡ Some Synced → OwnPhase r d.files r.install.reached → (number_of d r.install.names.tmp ≡ r.made)
      → (number : ℕ) → TwoNames (renames r.install.names.tmp r.install.names.cdb) d e → StoodThere e.names name (Some number) → StoodOrOwn r d d.names name number
  named_own reached has own number (inl same) stood = inl (subst (λ (t : NameTable). StoodThere t name (Some number)) same stood)
  named_own reached has own number (inr moved) stood =
      let at = numbered d.files r.made (synced_file r.install.rules) (subst (λ p. OwnPhase r d.files p) reached has) in
      ⊎_elim (λ was. inl (subst (λ (n : List ℕ). StoodThere d.names n (Some number)) of_name was))
      (λ is. inr (record { made = at.is ∙ ap Some (sym is); file = ap (slice_get d.files) is ∙ at.there }))
      (moved_there d r.install.names.tmp r.install.names.cdb at.n number (own ∙ at.is)
      (subst (λ (n : List ℕ). StoodThere (after (renames r.install.names.tmp r.install.names.cdb) d).names n (Some number)) (sym of_name)
      (subst (λ (t : NameTable). StoodThere t name (Some number)) moved stood)))

  other_name : r.install.names.tmp ≢ name
  other_name same = differ (of_name ∙ sym same)

  -- whatever call it was
  by_next : (next : Phase) (call : Call) → next_phase r.install ≡ next → OwnPhase r d.files r.install.reached → IsCallOf r.install next call → Ends call d e
      → (next ≡ Named → (number_of d r.install.names.tmp ≡ r.made) ⊎ (e.names ≡ d.names))
      → (number : ℕ) → StoodThere e.names name (Some number) → StoodOrOwn r d d.names name number
  by_next Fresh call is has is_call ends own number stood = inl (stood_before name d.names e.names number (unnamed_before r.install Fresh call name d e tt other_name is_call ends) stood)
  by_next Filling call is has is_call ends own number stood = inl (stood_before name d.names e.names number (unnamed_before r.install Filling call name d e tt other_name is_call ends) stood)
  by_next Synced call is has is_call ends own number stood = inl (stood_before name d.names e.names number (unnamed_before r.install Synced call name d e tt other_name is_call ends) stood)
  by_next Done call is has is_call ends own number stood = inl (stood_before name d.names e.names number (unnamed_before r.install Done call name d e tt other_name is_call ends) stood)
  by_next Named call is has is_call ends own number stood = ⊎_elim
      (λ there. named_own (named_next r.install.reached r.install.patched is) has there number (names_of_call ends) stood)
      (λ same. inl (subst (λ (t : NameTable). StoodThere t name (Some number)) same stood))
      (own refl)
    where
      names_of_call : Ends call d e → TwoNames (renames r.install.names.tmp r.install.names.cdb) d e
      names_of_call (inl done) = inr (ap (λ (x : Directory). x.names) (done ∙ ap (λ (k : Call). after k d) is_call))
      names_of_call (inr fails) =
          let names = (subst (λ (k : Call). Fails k d e) is_call fails).names in
          two_names (renames r.install.names.tmp r.install.names.cdb) d e names.0 names.1 names.2

  same_view : e ≡ d → (number : ℕ) → StoodThere e.names name (Some number) → StoodOrOwn r d d.names name number
  same_view is number stood = inl (subst (λ (x : Directory). StoodThere x.names name (Some number)) is stood)

  pub own_puts : (s : Run) (result : Result Phase InstallFault) → OwnPhase r d.files r.install.reached → MakesOwn r s d e result
      → (number : ℕ) → StoodThere e.names name (Some number) → StoodOrOwn r d d.names name number
  own_puts s (Ok phase) has step = by_next (next_phase r.install) step.changes.0 refl has step.changes.1 (inl step.changes.2) step.own
  own_puts s (Err (Disk Device phase)) has step = by_next (next_phase r.install) step.changes.0 refl has step.changes.1 (inr step.changes.2) step.own
  own_puts s (Err (Disk NoScratch phase)) has step = same_view step.changes
  own_puts s (Err (Disk NoName phase)) has step = same_view step.changes
  own_puts s (Err (Disk NoMemory phase)) has step = same_view step.changes
  own_puts s (Err (Line fault)) has step = same_view step.changes
  own_puts s (Err TooLarge) has step = same_view step.changes
  own_puts s (Err Over) has step = same_view step.changes
  own_puts s (Err OutOfMemory) has step = same_view step.changes

pub step_puts : (name : List ℕ) (i : ℕ) (w v : Shared) → HasOwn (w.run i) w.files → RunSteps name i w v
    → (number : ℕ) → StoodThere v.names name (Some number) → StoodThere w.names name (Some number) ⊎ IsItsFile (w.run i) w.files number
step_puts name i w v has steps =
    own_puts (w.run i) (view w i) (view v i) name steps.of_name steps.step.may.consistent.names (v.run i) steps.result (has steps.step.may.is_open) steps.step

-- ---- each run has its own file

abbrev AllOwn : Shared → Type 0
AllOwn w = (i : ℕ) → HasOwn (w.run i) w.files

is_or_not : (i j : ℕ) → (i ≡ j) ⊎ (i ≢ j)
is_or_not i j = grind arith

begun_own : (w : Shared) → AreBegun w → AllOwn w
begun_own w begun i is_open = subst (λ p. OwnPhase (w.run i) w.files p) (sym (begun.each i).0) tt

-- the run that made a step has it, and any other one
own_of : (v : Shared) (i j : ℕ) → HasOwn (v.run i) v.files → (j ≢ i → HasOwn (v.run j) v.files) → (j ≡ i) ⊎ (j ≢ i) → HasOwn (v.run j) v.files
own_of v i j own rest (inl is) = subst (λ k. HasOwn (v.run k) v.files) (sym is) own
own_of v i j own rest (inr other) = rest other

steps_own : (name : List ℕ) (i : ℕ) (w v : Shared) → AllOwn w → RunSteps name i w v → AllOwn v
steps_own name i w v all steps j =
    own_of v i j (own_keeps w v i (all i) steps.result steps.step)
    (λ other. spared_has (w.run j) (v.run j) w.files v.files (steps.others j other) (all j)) (is_or_not j i)

pub beside_own : (name : List ℕ) (u w : Shared) → AreBegun u → Beside name u w → AllOwn w
beside_own name u w begun none = begun_own u begun
beside_own name u w begun (run {v = v} {i = i} so_far steps) = steps_own name i v w (beside_own name u v begun so_far) steps
beside_own name u w begun (others {v = v} so_far change) = λ j. spared_has (v.run j) (w.run j) v.files w.files (change.runs j) (beside_own name u v begun so_far j)

-- ---- what stands under the rules name

-- the file of this number is one of these, or the whole one of a run
abbrev OfRun : Shared → List ℕ → Type 0
OfRun w bytes = (i : ℕ) × IsCompiledOf (w.run i).install.rules (Some bytes)

record GoodFile (olds : List (Option (List ℕ))) (w : Shared) (number : ℕ) : Type 0 where
  pub bytes : List ℕ
  pub file : slice_get w.files number ≡ Some (record { bytes = bytes; synced = true })
  pub whole : IsAmong olds (Some bytes) ⊎ OfRun w bytes

abbrev AllGood : List ℕ → List (Option (List ℕ)) → Shared → Type 0
AllGood name olds w = (number : ℕ) → StoodThere w.names name (Some number) → GoodFile olds w number

-- each run has the rules that it had
abbrev SameRules : Shared → Shared → Type 0
SameRules w v = (i : ℕ) → (v.run i).install.rules ≡ (w.run i).install.rules

good_file : (olds : List (Option (List ℕ))) (w v : Shared) (number : ℕ) → SameRules w v
    → ((bytes : List ℕ) → slice_get w.files number ≡ Some (record { bytes = bytes; synced = true }) → slice_get v.files number ≡ Some (record { bytes = bytes; synced = true }))
    → GoodFile olds w number → GoodFile olds v number
good_file olds w v number same stays good = record {
  bytes = good.bytes;
  file = stays good.bytes good.file;
  whole = ⊎_elim (λ old. inl old) (λ of. inr (of.0, subst (λ (rules : List Rule). IsCompiledOf rules (Some good.bytes)) (sym (same of.0)) of.1)) good.whole;
}

lasting_good : (name : List ℕ) (olds : List (Option (List ℕ))) (u : Shared) (i : ℕ) → LastsAmong (view u i) name olds → AllGood name olds u
lasting_good name olds u i lasts number stood =
    let stands = subst (λ o. StandsFor u.files olds o) (sym stood.2) (lasts.each stood.0 stood.1) in
    record { bytes = stands.0; file = stands.2; whole = inl stands.1 }

same_run : (w v : Shared) (i : ℕ) → IsLeftAlone (w.run i) (v.run i) w.files v.files → (v.run i).install.rules ≡ (w.run i).install.rules
same_run w v i alone = ⊎_elim (λ same. ap (λ (r : Run). r.install.rules) same.0) (λ over. ap (λ (r : Run). r.install.rules) over) alone

steps_rules : (name : List ℕ) (i : ℕ) (w v : Shared) → RunSteps name i w v → SameRules w v
steps_rules name i w v steps j = ⊎_elim
    (λ is. subst (λ k. (v.run k).install.rules ≡ (w.run k).install.rules) (sym is) steps.step.same.rules)
    (λ other. same_run w v j (steps.others j other))
    (is_or_not j i)

-- the file that a run made is good
own_good : (olds : List (Option (List ℕ))) (w : Shared) (i number : ℕ) → IsConsistent (w.run i).install → IsItsFile (w.run i) w.files number → GoodFile olds w number
own_good olds w i number consistent its = record {
  bytes = whole_file (w.run i).install.rules;
  file = its.file;
  whole = inr (i, (consistent.of_text, consistent.written, refl));
}

steps_good : (name : List ℕ) (olds : List (Option (List ℕ))) (i : ℕ) (w v : Shared) → AllOwn w → AllGood name olds w → RunSteps name i w v → AllGood name olds v
steps_good name olds i w v all good steps number stood =
    let kept = step_synced (w.run i).install (next_phase (w.run i).install) (view w i) (view v i) steps.result steps.step.changes in
    good_file olds w v number (steps_rules name i w v steps) (λ bytes there. kept.each number _ there refl)
    (⊎_elim (good number) (own_good olds w i number steps.step.may.consistent) (step_puts name i w v (all i) steps number stood))

change_good : (name : List ℕ) (olds : List (Option (List ℕ))) (w v : Shared) → AllGood name olds w → OthersChange name w v → AllGood name olds v
change_good name olds w v good change number stood =
    let before = change.puts_none number stood in
    good_file olds w v number (λ i. same_run w v i (change.runs i)) (λ bytes there. before.1 ∙ there) (good number before.0)

beside_good : (name : List ℕ) (olds : List (Option (List ℕ))) (u w : Shared) (i : ℕ) → AreBegun u → LastsAmong (view u i) name olds → Beside name u w → AllGood name olds w
beside_good name olds u w i begun lasts none = lasting_good name olds u i lasts
beside_good name olds u w i begun lasts (run {v = v} {i = j} so_far steps) =
    steps_good name olds j v w (beside_own name u v begun so_far) (beside_good name olds u v i begun lasts so_far) steps
beside_good name olds u w i begun lasts (others {v = v} so_far change) = change_good name olds v w (beside_good name olds u v i begun lasts so_far) change

-- ---- now, and after a stop

whole_at : (name : List ℕ) (olds : List (Option (List ℕ))) (w : Shared) (files : List FileState) (names : Names) (o : Option ℕ) → get names name ≡ o
    → ((number : ℕ) (file : FileState) → get names name ≡ Some number → GoodFile olds w number
    → (left : FileState) × (slice_get files number ≡ Some left) × ((bytes : List ℕ) → slice_get w.files number ≡ Some (record { bytes = bytes; synced = true }) → left.bytes ≡ bytes))
    → ((number : ℕ) → get names name ≡ Some number → GoodFile olds w number)
    → IsWhole olds w (option_map (λ file. file.bytes) (option_and_then (λ n. slice_get files n) o))
whole_at name olds w files names None is stays good = inl refl
whole_at name olds w files names (Some n) is stays good =
    let has = good n is in
    let left = stays n (record { bytes = has.bytes; synced = true }) is has in
    subst (λ (content : Option (List ℕ)). IsWhole olds w content) (sym (ap (option_map (λ (file : FileState). file.bytes)) left.1 ∙ ap Some (left.2 has.bytes has.file)))
    (inr has.whole)

pub whole_now : (name : List ℕ) (olds : List (Option (List ℕ))) (u w : Shared) (i : ℕ) → AreBegun u → LastsAmong (view u i) name olds → Beside name u w
    → IsWhole olds w (content (view w i) name)
whole_now name olds u w i begun lasts beside =
    let names = current w.names in
    whole_at name olds w w.files names (get names name) refl
    (λ number file is good. (record { bytes = good.bytes; synced = true }, good.file, λ bytes there. ap (λ (f : FileState). f.bytes) (same_Some _ _ (sym good.file ∙ there))))
    (λ number is. beside_good name olds u w i begun lasts beside number (names, left_current w.names, sym is))

pub whole_stopped : (name : List ℕ) (olds : List (Option (List ℕ))) (u w : Shared) (i : ℕ) (image : Directory) → AreBegun u → LastsAmong (view u i) name olds → Beside name u w
    → IsImage (view w i) image → IsWhole olds w (content image name)
whole_stopped name olds u w i image begun lasts beside is_image =
    let left = is_image.names.each name in
    subst (λ o. IsWhole olds w (option_map (λ file. file.bytes) (option_and_then (λ n. slice_get image.files n) o))) (sym left.2)
    (whole_at name olds w image.files left.0 (get left.0 name) refl
    (λ number file is good.
    (let found = is_image.files number _ good.file in
    let has_name : MayHaveName w.names number = record { name = name; names = left.0; left = left.1; stands = is } in
    (found.0, found.1, λ bytes there. found.2.bytes has_name refl ∙ ap (λ (f : FileState). f.bytes) (same_Some _ _ (sym good.file ∙ there)))))
    (λ number is. beside_good name olds u w i begun lasts beside number (left.0, left.1, sym is)))
