-- The stage that a connection had before each effect, and that the rules of the table are its functions.
use Rattle.std.proofs.Common.{◌≡◌, ℕ, ◌+◌, ◌≤◌, ◌==◌, ◌&&◌, Bool, true, false, Option, Some, None, refl, ap, arith, List, [], ◌∷◌, sym, ◌∙◌}
use Rattle.std.specs.Prelude.{⊤}
use Rattle.rule_lookup.specs.declared.instr.Verdict.TheVariants.{Allow, Deny}
use Rattle.server_events.specs.declared.event.Stage.{Stage}
use Rattle.server_events.specs.declared.event.Event.{Event}
use Rattle.server_events.specs.declared.event.Event.TheVariants.{Admitted, Opened, Decided, Started, StartFailed, Ended, Retired, Dropped, Stepped, StepFailed, Stop}
use Rattle.server_events.specs.ServerState.{ends, retires, Effect, lets_in, opens, decides, brings, lets_go, comes_to, fails_at, ends_all, effect, is_admitted, is_opened, is_allowed, is_started, is_unstarted, is_retired, IsUnstarted, not_opened as unopened, not_decided, not_started, Follows, fresh, filling, filling_on, synced, named, done, Happens, admitted, opened, decided, started, start_failed, ended, retired, dropped, stepped, failed, stop, Runs, none, more, ServerState, after, may_come, may_happen, is_legal, state_after}
use Rattle.dir_calls.specs.declared.phase.Phase.{Phase}
use Rattle.dir_calls.specs.declared.phase.Phase.TheVariants.{Fresh, Filling, Synced, Named, Done}
use Rattle.server_events.proofs.History.{and_true, both_true, room_for, has_room}
use Rattle.server_events.specs.declared.event.Stage.TheVariants as stage

-- what a test tells of a stage
pub is_admitted-true : (s : Option Stage) → is_admitted s ≡ true → s ≡ Some stage.Admitted
is_admitted-true None e = cc
is_admitted-true (Some stage.Admitted) e = refl
is_admitted-true (Some stage.Opened) e = cc
is_admitted-true (Some (stage.Decided v)) e = cc
is_admitted-true (Some stage.Started) e = cc
is_admitted-true (Some stage.Retired) e = cc

pub is_opened-true : (s : Option Stage) → is_opened s ≡ true → s ≡ Some stage.Opened
is_opened-true None e = cc
is_opened-true (Some stage.Admitted) e = cc
is_opened-true (Some stage.Opened) e = refl
is_opened-true (Some (stage.Decided v)) e = cc
is_opened-true (Some stage.Started) e = cc
is_opened-true (Some stage.Retired) e = cc

pub is_allowed-true : (s : Option Stage) → is_allowed s ≡ true → s ≡ Some (stage.Decided Allow)
is_allowed-true None e = cc
is_allowed-true (Some stage.Admitted) e = cc
is_allowed-true (Some stage.Opened) e = cc
is_allowed-true (Some (stage.Decided Allow)) e = refl
is_allowed-true (Some (stage.Decided Deny)) e = cc
is_allowed-true (Some stage.Started) e = cc
is_allowed-true (Some stage.Retired) e = cc

pub is_started-true : (s : Option Stage) → is_started s ≡ true → s ≡ Some stage.Started
is_started-true None e = cc
is_started-true (Some stage.Admitted) e = cc
is_started-true (Some stage.Opened) e = cc
is_started-true (Some (stage.Decided v)) e = cc
is_started-true (Some stage.Started) e = refl
is_started-true (Some stage.Retired) e = cc

-- a connection that no child was started for has a stage before that
pub is_unstarted-true : (s : Option Stage) → is_unstarted s ≡ true → (t : Stage) × (s ≡ Some t) × IsUnstarted t
is_unstarted-true None e = cc
is_unstarted-true (Some stage.Admitted) e = (stage.Admitted, refl, unopened)
is_unstarted-true (Some stage.Opened) e = (stage.Opened, refl, not_decided)
is_unstarted-true (Some (stage.Decided v)) e = (stage.Decided v, refl, not_started)
is_unstarted-true (Some stage.Started) e = cc
is_unstarted-true (Some stage.Retired) e = cc

-- how many stages stand before one
abbrev pub rank : Stage → ℕ
rank stage.Admitted = 0
rank stage.Opened = 1
rank (stage.Decided v) = 2
rank stage.Started = 3
rank stage.Retired = 4

-- the stage is not that of a newcomer, nor that of one that opened the rules
pub not_admitted : (s : Stage) → 2 ≤ rank s → s ≡ stage.Admitted → ⊥
not_admitted s late is = let low = ap rank is in absurd (omega (arith, low, late))

pub not_opened : (s : Stage) → 2 ≤ rank s → s ≡ stage.Opened → ⊥
not_opened s late is = let low = ap rank is in absurd (omega (arith, low, late))

-- a connection has the stage just before the one that it is brought to, which comes after its opening
pub record Brings (from : Option Stage → Bool) (to : Stage) : Type 0 where
  pub late : 2 ≤ rank to
  pub had : (s : Option Stage) → from s ≡ true → (t : Stage) × (s ≡ Some t) × (rank to ≡ rank t + 1)

-- a connection that is let go was there, and not retired
pub record LetsGo (from : Option Stage → Bool) : Type 0 where
  pub had : (s : Option Stage) → from s ≡ true → (t : Stage) × (s ≡ Some t) × (is_retired t ≡ false)

abbrev pub Sound : Effect → Type 0
Sound (brings n from to) = Brings from to
Sound (lets_go n from) = LetsGo from
Sound _ = ⊤

-- a connection that no child was started for was there, and isn't retired
unstarted_stays : {t : Stage} → IsUnstarted t → is_retired t ≡ false
unstarted_stays unopened = refl
unstarted_stays not_decided = refl
unstarted_stays not_started = refl

unstarted_had : (s : Option Stage) → is_unstarted s ≡ true → (t : Stage) × (s ≡ Some t) × (is_retired t ≡ false)
unstarted_had s at = let u = is_unstarted-true s at in (u.0, u.1, unstarted_stays u.2)

pub sound : (e : Event) → Sound (effect e)
sound (Admitted n peer) = tt
sound (Opened n there) = tt
sound (Decided n decision) = tt
sound (Started n) = record { late = omega arith; had = λ s at. (stage.Decided Allow, is_allowed-true s at, refl) }
sound (StartFailed n fault) = record { had = λ s at. (stage.Decided Allow, is_allowed-true s at, refl) }
sound (Ended n status) = record { had = λ s at. (stage.Started, is_started-true s at, refl) }
sound (Retired n) = record { late = omega arith; had = λ s at. (stage.Started, is_started-true s at, refl) }
sound (Dropped n cause) = record { had = unstarted_had }
sound (Stepped phase) = tt
sound (StepFailed phase) = tt
sound Stop = tt

-- what comes before a stage is not the last
pub before_retired : (t u : Stage) → rank u ≡ rank t + 1 → is_retired t ≡ false
before_retired stage.Admitted u e = refl
before_retired stage.Opened u e = refl
before_retired (stage.Decided v) u e = refl
before_retired stage.Started u e = refl
before_retired stage.Retired stage.Admitted e = absurd (omega (arith, e))
before_retired stage.Retired stage.Opened e = absurd (omega (arith, e))
before_retired stage.Retired (stage.Decided v) e = absurd (omega (arith, e))
before_retired stage.Retired stage.Started e = absurd (omega (arith, e))
before_retired stage.Retired stage.Retired e = absurd (omega (arith, e))

-- all effects but those by which a connection is brought somewhere or let go are of one event each
abbrev pub IsEventOf : Effect → Event → Type 0
IsEventOf (lets_in n peer) e = e ≡ Admitted n peer
IsEventOf (opens n there) e = e ≡ Opened n there
IsEventOf (decides n decision) e = e ≡ Decided n decision
IsEventOf (comes_to phase) e = e ≡ Stepped phase
IsEventOf (fails_at phase) e = e ≡ StepFailed phase
IsEventOf ends_all e = e ≡ Stop
IsEventOf _ e = ⊤

pub its_event : (e : Event) → IsEventOf (effect e) e
its_event (Admitted n peer) = refl
its_event (Opened n there) = refl
its_event (Decided n decision) = refl
its_event (Started n) = tt
its_event (StartFailed n fault) = tt
its_event (Ended n status) = tt
its_event (Retired n) = tt
its_event (Dropped n cause) = tt
its_event (Stepped phase) = refl
its_event (StepFailed phase) = refl
its_event Stop = refl

-- who is gone by an event, and who is retired by it, is so by its effect
abbrev pub ends_by : ℕ → Effect → Bool
ends_by n (lets_go m from) = n == m
ends_by n _ = false

abbrev pub retires_by : ℕ → Effect → Bool
retires_by n (brings m from to) = is_retired to && (n == m)
retires_by n _ = false

pub ends_as : (n : ℕ) (e : Event) → ends n e ≡ ends_by n (effect e)
ends_as n (Admitted m peer) = refl
ends_as n (Opened m there) = refl
ends_as n (Decided m decision) = refl
ends_as n (Started m) = refl
ends_as n (StartFailed m fault) = refl
ends_as n (Ended m status) = refl
ends_as n (Retired m) = refl
ends_as n (Dropped m cause) = refl
ends_as n (Stepped phase) = refl
ends_as n (StepFailed phase) = refl
ends_as n Stop = refl

pub retires_as : (n : ℕ) (e : Event) → retires n e ≡ retires_by n (effect e)
retires_as n (Admitted m peer) = refl
retires_as n (Opened m there) = refl
retires_as n (Decided m decision) = refl
retires_as n (Started m) = refl
retires_as n (StartFailed m fault) = refl
retires_as n (Ended m status) = refl
retires_as n (Retired m) = refl
retires_as n (Dropped m cause) = refl
retires_as n (Stepped phase) = refl
retires_as n (StepFailed phase) = refl
retires_as n Stop = refl

pub follows_may_come : {before : Option Phase} {p : Phase} → Follows before p → may_come before p ≡ true
follows_may_come fresh = refl
follows_may_come filling = refl
follows_may_come filling_on = refl
follows_may_come synced = refl
follows_may_come named = refl
follows_may_come done = refl

pub may_come_follows : (before : Option Phase) (p : Phase) → may_come before p ≡ true → Follows before p
may_come_follows before Fresh e = fresh
may_come_follows None Filling e = cc
may_come_follows None Synced e = cc
may_come_follows None Named e = cc
may_come_follows None Done e = cc
may_come_follows (Some Fresh) Filling e = filling
may_come_follows (Some Fresh) Synced e = cc
may_come_follows (Some Fresh) Named e = cc
may_come_follows (Some Fresh) Done e = cc
may_come_follows (Some Filling) Filling e = filling_on
may_come_follows (Some Filling) Synced e = synced
may_come_follows (Some Filling) Named e = cc
may_come_follows (Some Filling) Done e = cc
may_come_follows (Some Synced) Filling e = cc
may_come_follows (Some Synced) Synced e = cc
may_come_follows (Some Synced) Named e = named
may_come_follows (Some Synced) Done e = cc
may_come_follows (Some Named) Filling e = cc
may_come_follows (Some Named) Synced e = cc
may_come_follows (Some Named) Named e = cc
may_come_follows (Some Named) Done e = done
may_come_follows (Some Done) Filling e = cc
may_come_follows (Some Done) Synced e = cc
may_come_follows (Some Done) Named e = cc
may_come_follows (Some Done) Done e = cc

pub unstarted_is : {s : Stage} → IsUnstarted s → is_unstarted (Some s) ≡ true
unstarted_is unopened = refl
unstarted_is not_decided = refl
unstarted_is not_started = refl

-- where the table has a step, the event may happen, and leads there
pub step_is : {w v : ServerState} {e : Event} → Happens w e v → (may_happen w e ≡ true) × (v ≡ after w e)
step_is {w = w} (admitted {n = n} {peer = peer} e l k) = (has_room w n peer (record { next = e; below = l; below_here = k }), refl)
step_is (opened h) = (ap is_admitted h, refl)
step_is (decided h) = (ap is_opened h, refl)
step_is (started h) = (ap is_allowed h, refl)
step_is (start_failed h) = (ap is_allowed h, refl)
step_is (ended h) = (ap is_started h, refl)
step_is (retired h) = (ap is_started h, refl)
step_is (dropped h u) = (ap is_unstarted h ∙ unstarted_is u, refl)
step_is (stepped h) = (follows_may_come h, refl)
step_is (failed h) = (follows_may_come h, refl)
step_is stop = (refl, refl)

-- where an event may happen, the table has its step
pub is_step : (w : ServerState) (e : Event) → may_happen w e ≡ true → Happens w e (after w e)
is_step w (Admitted n p) m =
    let r = room_for w n p m in
    admitted r.next r.below r.below_here
is_step w (Opened n t) m = opened (is_admitted-true _ m)
is_step w (Decided n d) m = decided (is_opened-true _ m)
is_step w (Started n) m = started (is_allowed-true _ m)
is_step w (StartFailed n f) m = start_failed (is_allowed-true _ m)
is_step w (Ended n s) m = ended (is_started-true _ m)
is_step w (Retired n) m = retired (is_started-true _ m)
is_step w (Dropped n c) m = let u = is_unstarted-true _ m in dropped u.1 u.2
is_step w (Stepped p) m = stepped (may_come_follows _ _ m)
is_step w (StepFailed p) m = failed (may_come_follows _ _ m)
is_step w Stop m = stop

pub runs_is : {w v : ServerState} {es : List Event} → Runs w es v → (is_legal w es ≡ true) × (v ≡ state_after w es)
runs_is none = (refl, refl)
runs_is (more {u = u} {e = e} {es = es} s r) =
    let a = step_is s in
    let b = runs_is r in (
      both_true _ _ a.0 (ap (λ (x : ServerState). is_legal x es) (sym a.1) ∙ b.0),
      b.1 ∙ ap (λ (x : ServerState). state_after x es) a.1,
    )

pub is_runs : (w : ServerState) (es : List Event) → is_legal w es ≡ true → Runs w es (state_after w es)
is_runs w [] m = none
is_runs w (e ∷ es) m = let p = and_true _ _ m in more (is_step w e p.0) (is_runs (after w e) es p.1)
