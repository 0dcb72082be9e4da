-- The room that the connections of a state still need, after an event.
use Rattle.std.proofs.Common.{◌≡◌, ℕ, ◌+◌, ◌-◌, ◌≤◌, List, [], ◌∷◌, ◌++◌, true, false, ◌==◌, Option, Some, refl, sym, ap, ◌∙◌, arith}
use Rattle.std.specs.Prelude.{if◌then◌else◌}
use Rattle.server_events.specs.declared.event.Event.{Event}
use Rattle.server_events.specs.declared.event.Stage.{Stage}
use Rattle.server_events.specs.declared.event.Stage.TheVariants as stage
use Rattle.server_events.specs.declared.state.Connection.{Connection}
use Rattle.server_events.specs.ServerState.{Effect, ServerState, lets_in, opens, decides, brings, lets_go, comes_to, fails_at, ends_all, after, effect, is_retired, may_happen, may_have, stage_of, with_effect, with_stage, without}
use Rattle.server_events.proofs.Effects.{Sound, is_admitted-true, is_opened-true, rank, sound}
use Rattle.server_yard.specs.Rooms.{events_left, room_needed, spare_events}
use Rattle.server_yard.specs.Seating.{goes_on, goes_on_by, leaver, leaver_by}

room-cons : (c : Connection) (cs : List Connection) → room_needed (c ∷ cs) ≡ events_left c.stage + room_needed cs
room-cons c cs = refl

some_stage : (x y : Stage) → ◌≡◌ {A = Option Stage} (Some x) (Some y) → x ≡ y
some_stage x y e = cc

pub room-with_stage : (n : ℕ) (s t : Stage) (cs : List Connection) → stage_of n cs ≡ Some t
    → room_needed (with_stage n s cs) + events_left t ≡ room_needed cs + events_left s
room-with_stage n s t [] e = cc
room-with_stage n s t (c ∷ cs) e =
    elim (c.serial == n) as (λ b. (if b then Some c.stage else stage_of n cs) ≡ Some t → room_needed (if b then ((record c { stage = s }) ∷ cs) else (c ∷ with_stage n s cs)) + events_left t ≡ room_needed (c ∷ cs) + events_left s) [
      | true ↦ λ here.
          let same = ap events_left (some_stage c.stage t here) in
          let all : room_needed ((record c { stage = s }) ∷ cs) + events_left t ≡ room_needed (c ∷ cs) + events_left s = omega (arith, room-cons c cs, room-cons (record c { stage = s }) cs) in
          all
      | false ↦ λ later.
          let rest = room-with_stage n s t cs later in
          let all : room_needed (c ∷ with_stage n s cs) + events_left t ≡ room_needed (c ∷ cs) + events_left s = omega (arith, room-cons c cs, room-cons c (with_stage n s cs)) in
          all
    ] e

pub room-without : (n : ℕ) (t : Stage) (cs : List Connection) → stage_of n cs ≡ Some t → room_needed (without n cs) + events_left t ≡ room_needed cs
room-without n t [] e = cc
room-without n t (c ∷ cs) e =
    elim (c.serial == n) as (λ b. (if b then Some c.stage else stage_of n cs) ≡ Some t → room_needed (if b then cs else (c ∷ without n cs)) + events_left t ≡ room_needed (c ∷ cs)) [
      | true ↦ λ here.
          let same = ap events_left (some_stage c.stage t here) in
          omega (arith, room-cons c cs)
      | false ↦ λ later.
          let rest = room-without n t cs later in
          let all : room_needed (c ∷ without n cs) + events_left t ≡ room_needed (c ∷ cs) = omega (arith, room-cons c cs, room-cons c (without n cs)) in
          all
    ] e

pub room-push : (cs : List Connection) (c : Connection) → room_needed (cs ++ c ∷ []) ≡ room_needed cs + events_left c.stage
room-push [] c = omega arith
room-push (d ∷ cs) c = let rest = room-push cs c in omega (arith, room-cons d (cs ++ c ∷ []), room-cons d cs)

-- each stage leaves one event less than the one before it
left : (s : Stage) → events_left s + rank s ≡ 4
left stage.Admitted = refl
left stage.Opened = refl
left (stage.Decided v) = refl
left stage.Started = refl
left stage.Retired = refl

some_left : (s : Stage) → is_retired s ≡ false → 1 ≤ events_left s
some_left stage.Admitted e = omega arith
some_left stage.Opened e = omega arith
some_left (stage.Decided v) e = omega arith
some_left stage.Started e = omega arith
some_left stage.Retired e = absurd (cc)

-- a connection that goes on needs room for one event less
room_with : (w : ServerState) (x : Effect) → Sound x → goes_on_by x ≡ true → may_have w x ≡ true
    → room_needed (with_effect w x).connections + 1 ≡ room_needed w.connections
room_with w (lets_in n peer) its k m = absurd (cc)
room_with w (opens n there) its k m = let sums = room-with_stage n stage.Opened stage.Admitted w.connections (is_admitted-true _ m) in omega arith
room_with w (decides n decision) its k m =
    let sums = room-with_stage n (stage.Decided decision.verdict) stage.Opened w.connections (is_opened-true _ m) in omega arith
room_with w (brings n from to) its k m =
    let had = its.had _ m in
    let sums = room-with_stage n to had.0 w.connections had.1 in
    let next = had.2 in
    omega (arith, sums, next, left to, left had.0)
room_with w (lets_go n from) its k m = absurd (cc)
room_with w (comes_to phase) its k m = absurd (cc)
room_with w (fails_at phase) its k m = absurd (cc)
room_with w ends_all its k m = absurd (cc)

pub room_goes_on : (w : ServerState) (e : Event) → goes_on e ≡ true → may_happen w e ≡ true
    → room_needed (after w e).connections + 1 ≡ room_needed w.connections
room_goes_on w e k m = room_with w (effect e) (sound e) k m

pub room_retired : (w : ServerState) (n : ℕ) → stage_of n w.connections ≡ Some stage.Started
    → room_needed (with_stage n stage.Retired w.connections) + 1 ≡ room_needed w.connections
room_retired w n at = let sums = room-with_stage n stage.Retired stage.Started w.connections at in omega arith

-- a connection that goes: it is taken out, and might have had one more event at least
pub record GoesOff (w : ServerState) (x : Effect) (n : ℕ) : Type 0 where
  pub is_without : with_effect w x ≡ record w { connections = without n w.connections }
  pub at : Stage
  pub has_stage : stage_of n w.connections ≡ Some at
  pub some_left : 1 ≤ events_left at

some_serial : (x y : ℕ) → ◌≡◌ {A = Option ℕ} (Some x) (Some y) → x ≡ y
some_serial x y e = cc

off_by : (w : ServerState) (x : Effect) (n : ℕ) → Sound x → leaver_by x ≡ Some n → may_have w x ≡ true → GoesOff w x n
off_by w (lets_in m peer) n its k may = absurd (cc)
off_by w (opens m there) n its k may = absurd (cc)
off_by w (decides m decision) n its k may = absurd (cc)
off_by w (brings m from to) n its k may = absurd (cc)
off_by w (lets_go m from) n its k may =
    let had = its.had _ may in
    let same = some_serial m n k in
    record {
      is_without = ap (λ (i : ℕ). record w { connections = without i w.connections }) same;
      at = had.0;
      has_stage = ap (λ (i : ℕ). stage_of i w.connections) (sym same) ∙ had.1;
      some_left = some_left had.0 had.2;
    }
off_by w (comes_to phase) n its k may = absurd (cc)
off_by w (fails_at phase) n its k may = absurd (cc)
off_by w ends_all n its k may = absurd (cc)

pub goes_off : (w : ServerState) (e : Event) (n : ℕ) → leaver e ≡ Some n → may_happen w e ≡ true → GoesOff w (effect e) n
goes_off w e n k may = off_by w (effect e) n (sound e) k may

-- what room a connection gives back when it goes
pub spare_is : (s : ServerState) (n : ℕ) (at : Stage) → stage_of n s.connections ≡ Some at
    → spare_events (stage_of n s.connections) ≡ events_left at - 1
spare_is s n at is = ap (λ (o : Option Stage). spare_events o) is
