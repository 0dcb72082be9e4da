-- The limits, kept by each event that may happen.
use Rattle.std.proofs.Common.{◌≡◌, ℕ, ◌+◌, ◌<◌, ◌≤◌, List, [], ◌∷◌, ◌++◌, length, true, false, ◌==◌, cond, refl, sym, ap, ◌∙◌, arith, length-append, bytes_eq}
use Rattle.std.specs.Prelude.{if◌then◌else◌}
use Rattle.std.proofs.lemmas.List.Sums.{sum_by-cons}
use Rattle.std.proofs.lemmas.Slice.Eq.{bytes_eq-Decides}
use Rattle.server_events.specs.declared.event.Stage.{Stage}
use Rattle.server_events.specs.declared.event.Stage.TheVariants as stage
use Rattle.server_events.specs.declared.event.Event.{Event}
use Rattle.server_events.specs.declared.state.Connection.{Connection}
use Rattle.server_events.specs.ServerState.{ServerState, with_stage, without, count_from, may_happen, after, is_legal, state_after, newcomer, Effect, lets_in, opens, decides, brings, lets_go, comes_to, fails_at, ends_all, effect, may_have, with_effect}
use Rattle.server_events.proofs.History.{and_true, room_for}

pub length-with_stage : (n : ℕ) (s : Stage) (cs : List Connection) → length (with_stage n s cs) ≡ length cs
length-with_stage n s [] = refl
length-with_stage n s (c ∷ cs) =
    let e = length-with_stage n s cs in
    elim (c.serial == n) as (λ b. length (if b then ((record c { stage = s }) ∷ cs) else (c ∷ with_stage n s cs)) ≡ length (c ∷ cs)) [ true ↦ refl | false ↦ omega arith ]

pub length-without : (n : ℕ) (cs : List Connection) → length (without n cs) ≤ length cs
length-without n [] = omega arith
length-without n (c ∷ cs) =
    let e = length-without n cs in
    elim (c.serial == n) as (λ b. length (if b then cs else (c ∷ without n cs)) ≤ length (c ∷ cs)) [ true ↦ omega arith | false ↦ omega arith ]

-- one for a connection from the address
abbrev pub one_from : List ℕ → Connection → ℕ
one_from ip c = cond (bytes_eq c.peer.ip ip) 1 0

pub count_from-cons : (ip : List ℕ) (c : Connection) (cs : List Connection) → count_from ip (c ∷ cs) ≡ one_from ip c + count_from ip cs
count_from-cons ip c cs = sum_by-cons (one_from ip) c cs

pub count_from-with_stage : (ip : List ℕ) (n : ℕ) (s : Stage) (cs : List Connection) → count_from ip (with_stage n s cs) ≡ count_from ip cs
count_from-with_stage ip n s [] = refl
count_from-with_stage ip n s (c ∷ cs) =
    let e = count_from-with_stage ip n s cs in
    let whole = count_from-cons ip c cs in
    elim (c.serial == n) as (λ b. count_from ip (if b then ((record c { stage = s }) ∷ cs) else (c ∷ with_stage n s cs)) ≡ count_from ip (c ∷ cs)) [
      | true ↦ count_from-cons ip (record c { stage = s }) cs ∙ sym whole
      | false ↦ count_from-cons ip c (with_stage n s cs) ∙ ap (λ k. one_from ip c + k) e ∙ sym whole
    ]

pub count_from-without : (ip : List ℕ) (n : ℕ) (cs : List Connection) → count_from ip (without n cs) ≤ count_from ip cs
count_from-without ip n [] = omega arith
count_from-without ip n (c ∷ cs) =
    let e = count_from-without ip n cs in
    let whole = count_from-cons ip c cs in
    let less = count_from-cons ip c (without n cs) in
    elim (c.serial == n) as (λ b. count_from ip (if b then cs else (c ∷ without n cs)) ≤ count_from ip (c ∷ cs)) [ true ↦ omega arith | false ↦ omega arith ]

pub count_from-push : (ip : List ℕ) (cs : List Connection) (c : Connection) → count_from ip (cs ++ c ∷ []) ≡ count_from ip cs + one_from ip c
count_from-push ip [] c = count_from-cons ip c [] ∙ omega arith
count_from-push ip (d ∷ cs) c =
    let e = count_from-push ip cs c in
    let whole = count_from-cons ip d cs in
    let longer = count_from-cons ip d (cs ++ c ∷ []) in
    omega arith

-- no more than the limit are alive, and of no address more than the limit per address
pub record WithinLimits (w : ServerState) : Type 0 where
  pub all : length w.connections ≤ w.limit
  pub each : (ip : List ℕ) → count_from ip w.connections ≤ w.per_address

limit_with : (w : ServerState) (x : Effect) → (with_effect w x).limit ≡ w.limit
limit_with w (lets_in n p) = refl
limit_with w (opens n t) = refl
limit_with w (decides n t) = refl
limit_with w (brings n from to) = refl
limit_with w (lets_go n from) = refl
limit_with w (comes_to p) = refl
limit_with w (fails_at p) = refl
limit_with w ends_all = refl

pub limit_after : (w : ServerState) (e : Event) → (after w e).limit ≡ w.limit
limit_after w e = limit_with w (effect e)

per_address_with : (w : ServerState) (x : Effect) → (with_effect w x).per_address ≡ w.per_address
per_address_with w (lets_in n p) = refl
per_address_with w (opens n t) = refl
per_address_with w (decides n t) = refl
per_address_with w (brings n from to) = refl
per_address_with w (lets_go n from) = refl
per_address_with w (comes_to p) = refl
per_address_with w (fails_at p) = refl
per_address_with w ends_all = refl

pub per_address_after : (w : ServerState) (e : Event) → (after w e).per_address ≡ w.per_address
per_address_after w e = per_address_with w (effect e)

pub limit_world_after : (w : ServerState) (es : List Event) → (state_after w es).limit ≡ w.limit
limit_world_after w [] = refl
limit_world_after w (e ∷ es) = limit_world_after (after w e) es ∙ limit_after w e

pub per_address_world_after : (w : ServerState) (es : List Event) → (state_after w es).per_address ≡ w.per_address
per_address_world_after w [] = refl
per_address_world_after w (e ∷ es) = per_address_world_after (after w e) es ∙ per_address_after w e

-- another stage changes no number
pub within_with_stage : (w : ServerState) (n : ℕ) (s : Stage) → WithinLimits w → WithinLimits (record w { connections = with_stage n s w.connections })
within_with_stage w n s h = record {
  all = omega (arith, length-with_stage n s w.connections, h.all);
  each = λ ip. omega (arith, count_from-with_stage ip n s w.connections, h.each ip);
}

-- a connection that goes lowers them
pub within_without : (w : ServerState) (n : ℕ) → WithinLimits w → WithinLimits (record w { connections = without n w.connections })
within_without w n h = record {
  all = omega (arith, length-without n w.connections, h.all);
  each = λ ip. omega (arith, count_from-without ip n w.connections, h.each ip);
}

-- one more of an address has room where the address had
pub each_push : (w : ServerState) (c : Connection) (ip : List ℕ) → count_from ip w.connections ≤ w.per_address → count_from c.peer.ip w.connections < w.per_address → count_from ip (w.connections ++ c ∷ []) ≤ w.per_address
each_push w c ip h room =
    let pushed = count_from-push ip w.connections c in
    elim (bytes_eq c.peer.ip ip) as (λ b. bytes_eq c.peer.ip ip ≡ b → count_from ip (w.connections ++ c ∷ []) ≤ w.per_address) [
      | true ↦ λ e.
          let same : c.peer.ip ≡ ip = (bytes_eq-Decides c.peer.ip ip).0 e in
          let here = ap (λ (a : List ℕ). count_from a w.connections) same in
          let one : one_from ip c ≡ 1 = ap (λ b. cond b 1 0) e in
          omega arith
      | false ↦ λ e.
          let none : one_from ip c ≡ 0 = ap (λ b. cond b 1 0) e in
          omega arith
    ] refl

pub within_push : (w : ServerState) (n : ℕ) (c : Connection) → length w.connections < w.limit → count_from c.peer.ip w.connections < w.per_address → WithinLimits w → WithinLimits (record w { last = n; connections = w.connections ++ c ∷ [] })
within_push w n c room here h = record {
  all = omega (arith, length-append w.connections (c ∷ []));
  each = λ ip. each_push w c ip (h.each ip) here;
}

within_effect : (w : ServerState) (x : Effect) → WithinLimits w → may_have w x ≡ true → WithinLimits (with_effect w x)
within_effect w (lets_in n p) h m =
    let r = room_for w n p m in
    within_push w n (newcomer n p) r.below r.below_here h
within_effect w (opens n t) h m = within_with_stage w n stage.Opened h
within_effect w (decides n d) h m = within_with_stage w n (stage.Decided d.verdict) h
within_effect w (brings n from to) h m = within_with_stage w n to h
within_effect w (lets_go n from) h m = within_without w n h
within_effect w (comes_to p) h m = record { all = h.all; each = h.each }
within_effect w (fails_at p) h m = record { all = h.all; each = h.each }
within_effect w ends_all h m = record { all = omega arith; each = λ ip. omega arith }

pub within_after : (w : ServerState) (e : Event) → WithinLimits w → may_happen w e ≡ true → WithinLimits (after w e)
within_after w e h m = within_effect w (effect e) h m

pub within : (w : ServerState) (es : List Event) → WithinLimits w → is_legal w es ≡ true → WithinLimits (state_after w es)
within w [] h m = h
within w (e ∷ es) h m = let p = and_true _ _ m in within (after w e) es (within_after w e h p.0) p.1
