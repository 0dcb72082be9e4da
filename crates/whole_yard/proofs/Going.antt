-- The installation that a yard keeps, after a step of it.
use Rattle.std.proofs.Common.{◌≡◌, ◌≢◌, ℕ, List, [], ◌∷◌, ◌++◌, map, Bool, true, false, Option, None, Some, refl, sym, ap, subst, ◌∙◌}
use Rattle.std.specs.Prelude.{◌<◌, ◌^◌, IfSome, Result, Ok, Err, option_map, if◌then◌else◌}
use Rattle.dir_calls.specs.Directory.{Directory}
use Rattle.dir_calls.specs.declared.fault.DirFault.TheVariants.{NoScratch, NoName, Device, OutOfMemory as NoMemory}
use Rattle.server_events.specs.Journals.{Books}
use Rattle.whole_yard.specs.UnderWay as way
use Rattle.whole_yard.specs.UnderWay.{IsUnderWay}
use Rattle.rule_lookup.specs.Pairs.{Rule}
use Rattle.rules_install.specs.Installing.{Installing, next_of, next_phase}
use Rattle.rules_install.specs.NamePair.{NamePair}
use Rattle.rules_install.specs.Steps.{Goes, IsOfDevice, IsSame}
use Rattle.dir_calls.specs.declared.phase.Phase.{Phase}
use Rattle.dir_calls.specs.declared.phase.Phase.TheVariants.{Fresh, Filling, Synced, Named, Done}
use Rattle.rules_install.specs.declared.fault.InstallFault.{InstallFault}
use Rattle.rules_install.specs.declared.fault.InstallFault.TheVariants.{Line, TooLarge, Disk, Over, OutOfMemory}
use Rattle.server_events.specs.ServerState.{ServerState, after, phase_after}
use Rattle.headline.specs.Steps.{Advances}
use Rattle.headline.specs.Worlds.{RulesName, World}
use Rattle.server_events.specs.declared.event.Event.{Event}
use Rattle.server_events.specs.declared.event.Event.TheVariants.{Stepped, StepFailed}
use Rattle.whole_yard.specs.Installed.{KeepsHistory}
use Rattle.whole_yard.specs.Kept.{IsGoing, phase_of}
use Rattle.server_yard.specs.Rolls.{NotesSome, Roll}
use Rattle.whole_yard.specs.Standing.{HasUnderWay, YardState}
use Rattle.whole_yard.specs.Stepping.{is_kept_after, kept_after_step, kept_then, step_event}
use Rattle.server_yard.proofs.Histories.{OneMore, history_on}
use Rattle.whole_yard.proofs.Installs.{fail_phases, installed_on, step_phases, texts_more, texts_same}
use Rattle.whole_yard.proofs.Keeping.{kept_quiet, none_not_some, one_more_of, same_some}
use Rattle.whole_yard.proofs.Stepped.{StepsTo, accepted_failed, accepted_fresh, accepted_other, step_failed, stepped}

-- a phase that was reached is not none
pub reached_some : (o : Option Phase) (p : Phase) → o ≡ Some p → o ≢ None
reached_some o p is none = none_not_some p (sym none ∙ is)

-- the one that is kept is the one that was stepped
pub kept_is : (t s' : Installing) (result : Result Phase InstallFault) → kept_then t result ≡ Some s' → t ≡ s'
kept_is t s' (Ok Fresh) is = same_some t s' is
kept_is t s' (Ok Filling) is = same_some t s' is
kept_is t s' (Ok Synced) is = same_some t s' is
kept_is t s' (Ok Named) is = same_some t s' is
kept_is t s' (Ok Done) is = absurd (none_not_some s' is)
kept_is t s' (Err (Line fault)) is = same_some t s' is
kept_is t s' (Err TooLarge) is = same_some t s' is
kept_is t s' (Err (Disk fault phase)) is = absurd (none_not_some s' is)
kept_is t s' (Err Over) is = same_some t s' is
kept_is t s' (Err OutOfMemory) is = same_some t s' is

-- an installation goes on: it was not done, and met no fault
pub going_at : (s t : Installing) (rules : Option RulesName) (p : Phase) → p ≢ Done → IsSame s t
    → ((r : RulesName) → rules ≡ Some r → s.names.cdb ≡ r.name) → rules ≢ None → t.over ≡ false → t.reached ≡ Some p → IsGoing t rules
going_at s t rules p undone same named follows is_open reached = record {
  is_open = is_open;
  begun = reached_some t.reached p reached;
  undone = λ done. undone (same_some p Done (sym reached ∙ done));
  for_rules = λ r is. ap (λ (n : NamePair). n.cdb) same.names ∙ named r is;
  follows = follows;
}

pub going_then : (s t : Installing) (next : Phase) (result : Result Phase InstallFault) (rules : Option RulesName) → IsSame s t
    → ((r : RulesName) → rules ≡ Some r → s.names.cdb ≡ r.name) → rules ≢ None → (step_event result ≡ None → IsGoing s rules)
    → Goes next s t result → (s' : Installing) → kept_then t result ≡ Some s' → IsGoing s' rules
going_then s t next (Ok Fresh) rules same named follows still goes s' is = subst (λ (x : Installing). IsGoing x rules) (same_some t s' is) (going_at s t rules Fresh (λ e. absurd (cc)) same named follows goes.2 (goes.1 ∙ ap (λ (q : Phase). Some q) (sym goes.0)))
going_then s t next (Ok Filling) rules same named follows still goes s' is = subst (λ (x : Installing). IsGoing x rules) (same_some t s' is) (going_at s t rules Filling (λ e. absurd (cc)) same named follows goes.2 (goes.1 ∙ ap (λ (q : Phase). Some q) (sym goes.0)))
going_then s t next (Ok Synced) rules same named follows still goes s' is = subst (λ (x : Installing). IsGoing x rules) (same_some t s' is) (going_at s t rules Synced (λ e. absurd (cc)) same named follows goes.2 (goes.1 ∙ ap (λ (q : Phase). Some q) (sym goes.0)))
going_then s t next (Ok Named) rules same named follows still goes s' is = subst (λ (x : Installing). IsGoing x rules) (same_some t s' is) (going_at s t rules Named (λ e. absurd (cc)) same named follows goes.2 (goes.1 ∙ ap (λ (q : Phase). Some q) (sym goes.0)))
going_then s t next (Ok Done) rules same named follows still goes s' is = absurd (none_not_some s' is)
going_then s t next (Err (Line fault)) rules same named follows still goes s' is = absurd goes
going_then s t next (Err TooLarge) rules same named follows still goes s' is = absurd goes
going_then s t next (Err (Disk fault phase)) rules same named follows still goes s' is = absurd (none_not_some s' is)
going_then s t next (Err Over) rules same named follows still goes s' is = absurd goes
going_then s t next (Err OutOfMemory) rules same named follows still goes s' is =
    subst (λ (x : Installing). IsGoing x rules) (sym goes ∙ same_some t s' is) (still refl)

-- the phase is that of the one that is kept
phase_ok : (t : Installing) (p : Phase) → t.reached ≡ Some p → phase_of (kept_then t (Ok p)) ≡ phase_after p
phase_ok t Fresh is = is
phase_ok t Filling is = is
phase_ok t Synced is = is
phase_ok t Named is = is
phase_ok t Done is = refl

pub phase_then : (s t : Installing) (next : Phase) (result : Result Phase InstallFault) (old new : Roll)
    → NotesSome (step_event result) old new → Goes next s t result → s.reached ≡ old.server.phase
    → phase_of (kept_then t result) ≡ new.server.phase
phase_then s t next (Ok p) old new noted goes was =
    phase_ok t p (goes.1 ∙ ap (λ (q : Phase). Some q) (sym goes.0)) ∙ sym (ap (λ (u : ServerState). u.phase) noted.happens)
phase_then s t next (Err (Disk fault phase)) old new noted goes was = sym (ap (λ (u : ServerState). u.phase) noted.happens)
phase_then s t next (Err (Line fault)) old new noted goes was = absurd goes
phase_then s t next (Err TooLarge) old new noted goes was = absurd goes
phase_then s t next (Err Over) old new noted goes was = absurd goes
phase_then s t next (Err OutOfMemory) old new noted goes was =
    ap (λ (x : Installing). x.reached) goes ∙ was ∙ sym (ap (λ (u : ServerState). u.phase) noted.stays)

-- ---- what the installations left

-- one step more of a history
module _ {b b' : Books} {lists lists' : Option (List (List Rule))} (y : YardState) (server : ServerState) (e : Directory) (s t : Installing) (next : Phase)
    (k : KeepsHistory b lists y) (under : IsUnderWay k.installed.world s y.directory) (goes_reached : (p : Phase) → Goes next s t (Ok p) → t.reached ≡ Some p) where
  pub kept_stepped : (p : Phase) (caller : ℕ) → OneMore b y.server (Stepped p) caller b' server → Goes next s t (Ok p)
      → way.StepLeads s t y.directory e (Ok p)
      → ((p ≡ Fresh → lists' ≡ option_map (λ (all : List (List Rule)). all ++ t.rules ∷ []) lists) × (p ≢ Fresh → lists' ≡ lists))
      → KeepsHistory b' lists' (record { directory = e; rules = y.rules; server = server; installing = kept_then t (Ok p) })
  kept_stepped p caller more goes leads texts =
      let moved = stepped k.installed.world s t y.directory e under p goes.2 (goes_reached p goes) leads in
      record {
        history = k.history ++ Stepped p ∷ [];
        is_history = history_on more k.history k.is_history;
        installed = installed_on lists lists' y (record { directory = e; rules = y.rules; server = server; installing = kept_then t (Ok p) }) k.history (Stepped p) refl refl more.happens (step_phases p) k.installed moved.0 moved.1 (by p moved.0 moved.1.step.moves moved.1.under texts);
      }
    where
      by : (p : Phase) (v : World) → Advances p k.installed.world v → HasUnderWay v (kept_then t (Ok p)) → ((p ≡ Fresh → lists' ≡ option_map (λ (all : List (List Rule)). all ++ t.rules ∷ []) lists) × (p ≢ Fresh → lists' ≡ lists)) → IfSome lists' (λ all. v.accepted ≡ k.installed.first.accepted ++ map Some all)
      by Fresh v moves has which = subst (λ (o : Option (List (List Rule))). IfSome o (λ all. v.accepted ≡ k.installed.first.accepted ++ map Some all)) (sym (which.0 refl)) (texts_more lists k.installed.world v k.installed.first.accepted t.rules (accepted_fresh k.installed.world v t moves has) k.installed.accepted)
      by Filling v moves has which = subst (λ (o : Option (List (List Rule))). IfSome o (λ all. v.accepted ≡ k.installed.first.accepted ++ map Some all)) (sym (which.1 (λ x. absurd (cc)))) (texts_same lists k.installed.world v k.installed.first.accepted (accepted_other Filling k.installed.world v (λ x. absurd (cc)) moves) k.installed.accepted)
      by Synced v moves has which = subst (λ (o : Option (List (List Rule))). IfSome o (λ all. v.accepted ≡ k.installed.first.accepted ++ map Some all)) (sym (which.1 (λ x. absurd (cc)))) (texts_same lists k.installed.world v k.installed.first.accepted (accepted_other Synced k.installed.world v (λ x. absurd (cc)) moves) k.installed.accepted)
      by Named v moves has which = subst (λ (o : Option (List (List Rule))). IfSome o (λ all. v.accepted ≡ k.installed.first.accepted ++ map Some all)) (sym (which.1 (λ x. absurd (cc)))) (texts_same lists k.installed.world v k.installed.first.accepted (accepted_other Named k.installed.world v (λ x. absurd (cc)) moves) k.installed.accepted)
      by Done v moves has which = subst (λ (o : Option (List (List Rule))). IfSome o (λ all. v.accepted ≡ k.installed.first.accepted ++ map Some all)) (sym (which.1 (λ x. absurd (cc)))) (texts_same lists k.installed.world v k.installed.first.accepted (accepted_other Done k.installed.world v (λ x. absurd (cc)) moves) k.installed.accepted)

  pub kept_failed : (p : Phase) (caller : ℕ) → OneMore b y.server (StepFailed p) caller b' server → lists' ≡ lists
      → way.StepLeads s t y.directory e (Err (Disk Device p))
      → KeepsHistory b' lists' (record { directory = e; rules = y.rules; server = server; installing = None })
  kept_failed p caller more same leads =
      let moved = step_failed k.installed.world s t y.directory e under p leads in
      record {
        history = k.history ++ StepFailed p ∷ [];
        is_history = history_on more k.history k.is_history;
        installed = installed_on lists lists' y (record { directory = e; rules = y.rules; server = server; installing = None }) k.history (StepFailed p) refl refl more.happens (fail_phases p) k.installed moved.0 moved.1 (subst (λ (o : Option (List (List Rule))). IfSome o (λ all. moved.0.accepted ≡ k.installed.first.accepted ++ map Some all)) (sym same) (texts_same lists k.installed.world moved.0 k.installed.first.accepted (accepted_failed p k.installed.world moved.0 moved.1.step.moves) k.installed.accepted));
      }

-- by the answer of a step
pub kept_result : (d e : Directory) (rules : Option RulesName) (installing : Option Installing) (s t : Installing) (next : Phase) (result : Result Phase InstallFault) (old new : Roll)
    (lists : Option (List (List Rule))) (k : KeepsHistory old.books lists (record { directory = d; rules = rules; server = old.server; installing = installing })) → installing ≡ Some s → IsUnderWay k.installed.world s d → old.server.limit < 2 ^ 64 → NotesSome (step_event result) old new → Goes next s t result → IsOfDevice result
    → way.StepLeads s t d e result → (step_event result ≡ None → e ≡ d) → next ≢ Fresh
    → KeepsHistory new.books lists (record { directory = e; rules = rules; server = new.server; installing = kept_then t result })
kept_result d e rules installing s t next (Ok p) old new lists k kept under small noted goes device leads still later =
    kept_stepped (record { directory = d; rules = rules; server = old.server; installing = installing }) new.server e s t next k under (λ q g. g.1 ∙ ap (λ (x : Phase). Some x) (sym g.0)) p old.speaker (one_more_of (Stepped p) old new small tt noted) goes leads ((λ is. absurd (later (sym goes.0 ∙ is))), λ other. refl)
kept_result d e rules installing s t next (Err (Disk Device p)) old new lists k kept under small noted goes device leads still later =
    kept_failed (record { directory = d; rules = rules; server = old.server; installing = installing }) new.server e s t next k under (λ q g. g.1 ∙ ap (λ (x : Phase). Some x) (sym g.0)) p old.speaker (one_more_of (StepFailed p) old new small tt noted) refl leads
kept_result d e rules installing s t next (Err (Disk NoScratch p)) old new lists k kept under small noted goes device leads still later = absurd (cc)
kept_result d e rules installing s t next (Err (Disk NoName p)) old new lists k kept under small noted goes device leads still later = absurd (cc)
kept_result d e rules installing s t next (Err (Disk NoMemory p)) old new lists k kept under small noted goes device leads still later = absurd (cc)
kept_result d e rules installing s t next (Err (Line fault)) old new lists k kept under small noted goes device leads still later = absurd goes
kept_result d e rules installing s t next (Err TooLarge) old new lists k kept under small noted goes device leads still later = absurd goes
kept_result d e rules installing s t next (Err Over) old new lists k kept under small noted goes device leads still later = absurd goes
kept_result d e rules installing s t next (Err OutOfMemory) old new lists k kept under small noted goes device leads still later =
    kept_quiet noted.tells noted.counts noted.stores refl noted.stays (still refl) refl (ap (λ (x : Installing). Some x) goes ∙ sym kept) k

-- an installation that was begun comes to no first phase again
later_at : (o : Option Phase) (patched : Bool) → o ≢ None → next_of o patched ≢ Fresh
later_at None patched begun is = begun refl
later_at (Some Fresh) true begun is = absurd (cc)
later_at (Some Fresh) false begun is = absurd (cc)
later_at (Some Filling) true begun is = absurd (cc)
later_at (Some Filling) false begun is = absurd (cc)
later_at (Some Synced) patched begun is = absurd (cc)
later_at (Some Named) patched begun is = absurd (cc)
later_at (Some Done) patched begun is = absurd (cc)

pub later : (s : Installing) → s.reached ≢ None → next_phase s ≢ Fresh
later s begun = later_at s.reached s.patched begun

pub some_rules : (o : Option RulesName) → o ≢ None → (r : RulesName) × (o ≡ Some r)
some_rules None follows = absurd (follows refl)
some_rules (Some r) follows = (r, refl)

-- what a yard has after a step that is an event
pub steps_to : (t : Installing) (y z : YardState) (result : Result Phase InstallFault) (old new : Roll)
    → NotesSome (step_event result) old new → y.server ≡ old.server → z.server ≡ new.server → z.rules ≡ y.rules
    → z.installing ≡ kept_then t result
    → (event : Event) → step_event result ≡ Some event → StepsTo y z event (kept_then t result)
steps_to t y z (Ok p) old new noted was is rules kept event same = record { happens = is ∙ noted.happens ∙ ap (λ (u : ServerState). after u (Stepped p)) (sym was) ∙ ap (λ (x : Event). after y.server x) (same_some (Stepped p) event same); rules = rules; installing = kept }
steps_to t y z (Err (Disk fault p)) old new noted was is rules kept event same = record { happens = is ∙ noted.happens ∙ ap (λ (u : ServerState). after u (StepFailed p)) (sym was) ∙ ap (λ (x : Event). after y.server x) (same_some (StepFailed p) event same); rules = rules; installing = kept }
steps_to t y z (Err (Line fault)) old new noted was is rules kept event same = absurd (none_not_some event same)
steps_to t y z (Err TooLarge) old new noted was is rules kept event same = absurd (none_not_some event same)
steps_to t y z (Err Over) old new noted was is rules kept event same = absurd (none_not_some event same)
steps_to t y z (Err OutOfMemory) old new noted was is rules kept event same = absurd (none_not_some event same)

-- and after one that is none
pub states : (y z : YardState) → z.directory ≡ y.directory → z.rules ≡ y.rules → z.server ≡ y.server → z.installing ≡ y.installing → z ≡ y
states y z d r s i =
    ap (λ (x : Directory). record z { directory = x }) d
    ∙ ap (λ (x : Option RulesName). record { directory = y.directory; rules = x; server = z.server; installing = z.installing }) r
    ∙ ap (λ (x : ServerState). record { directory = y.directory; rules = y.rules; server = x; installing = z.installing }) s
    ∙ ap (λ (x : Option Installing). record { directory = y.directory; rules = y.rules; server = y.server; installing = x }) i

pub still_state : (s t : Installing) (next : Phase) (y z : YardState) (result : Result Phase InstallFault) (old new : Roll)
    → NotesSome (step_event result) old new → Goes next s t result → y.server ≡ old.server → z.server ≡ new.server → z.rules ≡ y.rules
    → y.installing ≡ Some s → z.installing ≡ kept_then t result
    → (step_event result ≡ None → z.directory ≡ y.directory) → step_event result ≡ None → z ≡ y
still_state s t next y z (Ok p) old new noted goes was is rules kept after_it still none = absurd (none_not_some (Stepped p) (sym none))
still_state s t next y z (Err (Disk fault p)) old new noted goes was is rules kept after_it still none =
    absurd (none_not_some (StepFailed p) (sym none))
still_state s t next y z (Err (Line fault)) old new noted goes was is rules kept after_it still none = absurd goes
still_state s t next y z (Err TooLarge) old new noted goes was is rules kept after_it still none = absurd goes
still_state s t next y z (Err Over) old new noted goes was is rules kept after_it still none = absurd goes
still_state s t next y z (Err OutOfMemory) old new noted goes was is rules kept after_it still none =
    states y z (still refl) rules (is ∙ noted.stays ∙ sym was) (after_it ∙ ap (λ (x : Installing). Some x) goes ∙ sym kept)

-- a step is never refused as over
pub not_over : (s t : Installing) (next : Phase) (result : Result Phase InstallFault) → Goes next s t result → result ≡ Err Over → ⊥
not_over s t next result goes is = subst (λ (r : Result Phase InstallFault). Goes next s t r) is goes

-- which installation is kept, after a step
pub kept_numbers : (result : Result Phase InstallFault) (number : ℕ)
    → (if is_kept_after result then Some number else None) ≡ kept_after_step result (Some number)
kept_numbers (Ok p) number = refl
kept_numbers (Err (Disk fault p)) number = refl
kept_numbers (Err (Line fault)) number = refl
kept_numbers (Err TooLarge) number = refl
kept_numbers (Err Over) number = refl
kept_numbers (Err OutOfMemory) number = refl
