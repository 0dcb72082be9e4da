-- The connections that an event retired, and their stages.
use Rattle.std.proofs.Common.{◌≡◌, ℕ, ◌+◌, ◌≤◌, List, [], ◌∷◌, ◌++◌, length, true, false, ◌==◌, cond, Some, refl, sym, ap, ◌∙◌, arith}
use Rattle.std.specs.Prelude.{if◌then◌else◌}
use Rattle.std.specs.List.{AllByRecursion, count_by, filter, list_any}
use Rattle.std.proofs.lemmas.Bool.Decides.{nat_tests}
use Rattle.std.proofs.lemmas.List.Sums.{sum_by-cons}
use Rattle.server_events.specs.declared.event.Stage.{Stage}
use Rattle.server_events.specs.declared.event.Event.{Event}
use Rattle.server_events.specs.declared.state.Connection.{Connection}
use Rattle.server_events.specs.Live.{Life, life_of, lives_of}
use Rattle.server_events.specs.ServerState.{stage_of, with_stage, without, is_retired, retires}
use Rattle.server_events.proofs.ListLemmas.{list_any-push, or_keeps, or_true}
use Rattle.server_events.proofs.Serials.{Rise}

-- a connection is at the stage of those retired where an event retired it
abbrev pub Marked : List Event → Connection → Type 0
Marked es c = is_retired c.stage ≡ list_any (retires c.serial) es

pub marked_after : (es : List Event) (e : Event) → ((n : ℕ) → retires n e ≡ false) → (cs : List Connection) → AllByRecursion (Marked es) cs → AllByRecursion (Marked (es ++ e ∷ [])) cs
marked_after es e none [] h = tt
marked_after es e none (c ∷ cs) h =
    let same : list_any (retires c.serial) (es ++ e ∷ []) ≡ list_any (retires c.serial) es = list_any-push (retires c.serial) es e ∙ or_keeps (list_any (retires c.serial) es) (retires c.serial e) (none c.serial) in
    (h.0 ∙ sym same, marked_after es e none cs h.1)

pub marked-push : (es : List Event) (cs : List Connection) (c : Connection) → AllByRecursion (Marked es) cs → Marked es c → AllByRecursion (Marked es) (cs ++ c ∷ [])
marked-push es [] c h m = (m, tt)
marked-push es (d ∷ cs) c h m = (h.0, marked-push es cs c h.1 m)

pub marked-without : (es : List Event) (n : ℕ) (cs : List Connection) → AllByRecursion (Marked es) cs → AllByRecursion (Marked es) (without n cs)
marked-without es n [] h = tt
marked-without es n (c ∷ cs) h =
    elim (c.serial == n) as (λ b. AllByRecursion (Marked es) (if b then cs else (c ∷ without n cs))) [
      | true ↦ h.1
      | false ↦ (h.0, marked-without es n cs h.1)
    ]

-- from a stage before retirement to another
pub marked-with_stage : (es : List Event) (n : ℕ) (s t : Stage) (cs : List Connection) → is_retired s ≡ false → is_retired t ≡ false → stage_of n cs ≡ Some t → AllByRecursion (Marked es) cs → AllByRecursion (Marked es) (with_stage n s cs)
marked-with_stage es n s t [] p q e h = tt
marked-with_stage es n s t (c ∷ cs) p q e h =
    elim (c.serial == n) as (λ b. (if b then Some c.stage else stage_of n cs) ≡ Some t → AllByRecursion (Marked es) (if b then ((record c { stage = s }) ∷ cs) else (c ∷ with_stage n s cs))) [
      | true ↦ λ here.
          let same : c.stage ≡ t = cc in
          (p ∙ sym q ∙ sym (ap is_retired same) ∙ h.0, h.1)
      | false ↦ λ later. (h.0, marked-with_stage es n s t cs p q later h.1)
    ] e

-- an event that retires the connection n, and no other
module _ (es : List Event) (e : Event) (n : ℕ) (one : (m : ℕ) → retires m e ≡ (m == n)) where
  -- it leaves a connection with another serial as it was
  marked-other : (c : Connection) → (c.serial == n) ≡ false → Marked es c → Marked (es ++ e ∷ []) c
  marked-other c other h =
      h ∙ sym (list_any-push (retires c.serial) es e ∙ or_keeps (list_any (retires c.serial) es) (retires c.serial e) (one c.serial ∙ other))

  marked-above : (low : ℕ) (cs : List Connection) (high : ℕ) → n ≤ low → Rise low cs high → AllByRecursion (Marked es) cs → AllByRecursion (Marked (es ++ e ∷ [])) cs
  marked-above low [] high l r h = tt
  marked-above low (c ∷ cs) high l r h =
      let above = r.0 in
      let other : (c.serial == n) ≡ false = grind (arith, nat_tests, above, l) in
      (marked-other c other h.0, marked-above c.serial cs high (omega (arith, above)) r.1 h.1)

  pub marked-retired : (to : Stage) → is_retired to ≡ true → (low : ℕ) (cs : List Connection) (high : ℕ) → Rise low cs high → AllByRecursion (Marked es) cs → AllByRecursion (Marked (es ++ e ∷ [])) (with_stage n to cs)
  marked-retired to last low [] high r h = tt
  marked-retired to last low (c ∷ cs) high r h =
      elim (c.serial == n) as (λ b. (c.serial == n) ≡ b → AllByRecursion (Marked (es ++ e ∷ [])) (if b then ((record c { stage = to }) ∷ cs) else (c ∷ with_stage n to cs))) [
        | true ↦ λ same.
            let below : n ≤ c.serial = grind (arith, nat_tests, same) in (
              last ∙ sym (list_any-push (retires c.serial) es e ∙ or_true (list_any (retires c.serial) es) (retires c.serial e) (one c.serial ∙ same)),
              marked-above c.serial cs high below r.1 h.1,
            )
        | false ↦ λ other. (marked-other c other h.0, marked-retired to last c.serial cs high r.1 h.1)
      ] refl

-- how many of those alive are retired
pub marked-count : (es : List Event) (cs : List Connection) → AllByRecursion (Marked es) cs → length (filter (λ (x : Life). list_any (retires x.serial) es) (lives_of cs)) ≡ count_by (λ (c : Connection). is_retired c.stage) cs
marked-count es [] h = refl
marked-count es (c ∷ cs) h =
    let rest = marked-count es cs h.1 in
    let kept = filter (λ (x : Life). list_any (retires x.serial) es) (lives_of cs) in
    let one = sum_by-cons (λ (d : Connection). cond (is_retired d.stage) 1 0) c cs in
    let step : length (cond (is_retired c.stage) (life_of c ∷ kept) kept) ≡ cond (is_retired c.stage) 1 0 + length kept = (elim (is_retired c.stage) as (λ b. length (cond b (life_of c ∷ kept) kept) ≡ cond b 1 0 + length kept) [ true ↦ omega arith | false ↦ omega arith ]) in
    ap (λ b. length (cond b (life_of c ∷ kept) kept)) (sym h.0) ∙ step ∙ ap (λ k. cond (is_retired c.stage) 1 0 + k) rest ∙ sym one
