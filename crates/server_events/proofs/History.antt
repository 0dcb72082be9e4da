-- A history, and one event more.
use Rattle.std.proofs.Common.{◌≡◌, ℕ, zero, suc, ◌+◌, ◌<◌, List, [], ◌∷◌, ◌++◌, length, Bool, true, false, ◌&&◌, ◌==◌, cond, refl, sym, ap, ◌∙◌, arith, rules, take, get_or, eq-eqb}
use Rattle.std.specs.Prelude.{is_some, nat_lt}
use Rattle.std.specs.List.{count_by}
use Rattle.std.proofs.lemmas.Bool.Decides.{nat_tests}
use Rattle.std.proofs.lemmas.List.{take_more}
use Rattle.std.proofs.lemmas.List.Sums.{sum_by-cons}
use Rattle.rule_lookup.specs.Peers.{Client}
use Rattle.server_events.specs.declared.event.Event.{Event}
use Rattle.server_events.specs.Live.{admission_by}
use Rattle.server_events.specs.Reports.{is_admission}
use Rattle.server_events.specs.ServerState.{ServerState, count_from, may_admit, may_happen, after, is_legal, state_after, Effect, lets_in, opens, decides, brings, lets_go, comes_to, fails_at, ends_all, effect, may_have, with_effect}

pub and_true : (a b : Bool) → (a && b) ≡ true → (a ≡ true) × (b ≡ true)
and_true true b e = (refl, e)
and_true false b e = cc

pub both_true : (a b : Bool) → a ≡ true → b ≡ true → (a && b) ≡ true
both_true a b p q = ap (λ x. x && b) p ∙ q

-- what it takes to let a connection in
pub record RoomFor (w : ServerState) (n : ℕ) (p : Client) : Type 0 where
  pub next : n ≡ w.last + 1
  pub below : length w.connections < w.limit
  pub below_here : count_from p.ip w.connections < w.per_address

pub room_for : (w : ServerState) (n : ℕ) (p : Client) → may_admit w n p ≡ true → RoomFor w n p
room_for w n p m =
    let first = n == w.last + 1 in
    let second = nat_lt (length w.connections) w.limit in
    let third = nat_lt (count_from p.ip w.connections) w.per_address in
    let outer = and_true (first && second) third m in
    let inner = and_true first second outer.0 in
    let a : (n == w.last + 1) ≡ true = inner.0 in
    let b : nat_lt (length w.connections) w.limit ≡ true = inner.1 in
    let c : nat_lt (count_from p.ip w.connections) w.per_address ≡ true = outer.1 in
    record { next = grind (arith, nat_tests, a); below = grind (arith, nat_tests, b); below_here = grind (arith, nat_tests, c) }

pub has_room : (w : ServerState) (n : ℕ) (p : Client) → RoomFor w n p → may_admit w n p ≡ true
has_room w n p r =
    let a : (n == w.last + 1) ≡ true = eq-eqb n (w.last + 1) r.next in
    let b : nat_lt (length w.connections) w.limit ≡ true = (let l = r.below in grind (arith, nat_tests, l)) in
    let c : nat_lt (count_from p.ip w.connections) w.per_address ≡ true = (let l = r.below_here in grind (arith, nat_tests, l)) in
    both_true ((n == w.last + 1) && nat_lt (length w.connections) w.limit) (nat_lt (count_from p.ip w.connections) w.per_address) (both_true (n == w.last + 1) (nat_lt (length w.connections) w.limit) a b) c

pub state_after-snoc : (w : ServerState) (es : List Event) (e : Event) → state_after w (es ++ e ∷ []) ≡ after (state_after w es) e
state_after-snoc w [] e = refl
state_after-snoc w (x ∷ es) e = state_after-snoc (after w x) es e

-- after a legal history, one event more is legal where it may happen
pub is_legal-snoc : (w : ServerState) (es : List Event) (e : Event) → is_legal w es ≡ true → is_legal w (es ++ e ∷ []) ≡ may_happen (state_after w es) e
is_legal-snoc w [] e h = grind rules
is_legal-snoc w (x ∷ es) e h =
    let p = and_true _ _ h in
    ap (λ b. b && is_legal (after w x) (es ++ e ∷ [])) p.0 ∙ is_legal-snoc (after w x) es e p.1

-- each front of a legal history is legal
pub is_legal-take : (w : ServerState) (es : List Event) (k : ℕ) → is_legal w es ≡ true → is_legal w (take k es) ≡ true
is_legal-take w es zero h = refl
is_legal-take w [] (suc k) h = refl
is_legal-take w (e ∷ es) (suc k) h =
    let p = and_true _ _ h in
    both_true _ _ p.0 (is_legal-take (after w e) es k p.1)

-- the last serial goes up by one at each admission
last_with : (w : ServerState) (x : Effect) → may_have w x ≡ true → (with_effect w x).last ≡ cond (is_some (admission_by x)) 1 0 + w.last
last_with w (lets_in n p) m =
    let next : n ≡ w.last + 1 = (room_for w n p m).next in
    omega arith
last_with w (opens n t) m = omega arith
last_with w (decides n t) m = omega arith
last_with w (brings n from to) m = omega arith
last_with w (lets_go n from) m = omega arith
last_with w (comes_to p) m = omega arith
last_with w (fails_at p) m = omega arith
last_with w ends_all m = omega arith

pub last_after : (w : ServerState) (e : Event) → may_happen w e ≡ true → (after w e).last ≡ cond (is_admission e) 1 0 + w.last
last_after w e m = last_with w (effect e) m

pub last_state_after : (w : ServerState) (es : List Event) → is_legal w es ≡ true → (state_after w es).last ≡ count_by is_admission es + w.last
last_state_after w [] h = omega arith
last_state_after w (e ∷ es) h =
    let p = and_true _ _ h in
    let here = last_after w e p.0 in
    let rest = last_state_after (after w e) es p.1 in
    let count = sum_by-cons (λ (x : Event). cond (is_admission x) 1 0) e es in
    omega arith

-- the events up to a position, and the one that stands there
module _ (w : ServerState) (es : List Event) (i : ℕ) (e : Event) (here : i < length es) (at : e ≡ get_or es i e) where
  pub take_next : take (i + 1) es ≡ take i es ++ e ∷ []
  take_next = take_more es i e here ∙ ap (λ (x : Event). take i es ++ x ∷ []) (sym at)

  pub legal_next : is_legal w (take i es) ≡ true → is_legal w (take (i + 1) es) ≡ may_happen (state_after w (take i es)) e
  legal_next legal = ap (is_legal w) take_next ∙ is_legal-snoc w (take i es) e legal

  pub state_next : state_after w (take (i + 1) es) ≡ after (state_after w (take i es)) e
  state_next = ap (state_after w) take_next ∙ state_after-snoc w (take i es) e
