-- The first event that may not happen.
use Rattle.std.proofs.Common.{◌≡◌, ℕ, zero, suc, ◌+◌, ◌-◌, List, [], ◌∷◌, true, false, ◌&&◌, Option, Some, None, refl, sym, ap, ◌∙◌, subst, arith, take}
use Rattle.std.specs.Prelude.{if◌then◌else◌, option_map}
use Rattle.server_events.specs.declared.event.Event.{Event}
use Rattle.server_events.specs.Reports.{first_illegal, IsFirstIllegal}
use Rattle.server_events.specs.ServerState.{ServerState, may_happen, after, is_legal}
use Rattle.server_events.proofs.History.{and_true, both_true}

-- the position after one that was found, if any was
abbrev next_position : Option ℕ → Option ℕ
next_position o = option_map (λ i. i + 1) o

no_position : (o : Option ℕ) → next_position o ≡ None → o ≡ None
no_position None e = refl
no_position (Some i) e = cc

position_before : (o : Option ℕ) (i : ℕ) → next_position o ≡ Some i → (j : ℕ) × (o ≡ Some j) × (i ≡ suc j)
position_before None i e = cc
position_before (Some j) i e = let next : j + 1 ≡ i = cc in (j, refl, omega arith)

pub none_legal : (w : ServerState) (es : List Event) → first_illegal w es ≡ None → is_legal w es ≡ true
none_legal w [] h = refl
none_legal w (e ∷ es) h =
    elim (may_happen w e) as (λ b. (if b then next_position (first_illegal (after w e) es) else Some 1) ≡ None → (b && is_legal (after w e) es) ≡ true) [
      | true ↦ λ rest. none_legal (after w e) es (no_position _ rest)
      | false ↦ λ here. cc
    ] h

pub legal_none : (w : ServerState) (es : List Event) → is_legal w es ≡ true → first_illegal w es ≡ None
legal_none w [] h = refl
legal_none w (e ∷ es) h =
    elim (may_happen w e) as (λ b. (b && is_legal (after w e) es) ≡ true → (if b then next_position (first_illegal (after w e) es) else Some 1) ≡ None) [
      | true ↦ λ rest. ap next_position (legal_none (after w e) es rest)
      | false ↦ λ here. cc
    ] h

module _ (w : ServerState) (e : Event) (es : List Event) where
  -- the first event may not happen
  at_once : may_happen w e ≡ false → IsFirstIllegal w (e ∷ es) 1
  at_once never = record { before = refl; with_it = ap (λ b. b && true) never }

  -- one after the first event may not happen
  later : may_happen w e ≡ true → (j : ℕ) → IsFirstIllegal (after w e) es j → IsFirstIllegal w (e ∷ es) (suc j)
  later first zero h = (let never = h.with_it in cc)
  later first (suc k) h =
      let front : suc (suc k) - 1 ≡ suc k = omega arith in
      let rest : suc k - 1 ≡ k = omega arith in
      let before : is_legal (after w e) (take k es) ≡ true = ap (λ i. is_legal (after w e) (take i es)) (sym rest) ∙ h.before in
      record {
        before = ap (λ i. is_legal w (take i (e ∷ es))) front ∙ both_true (may_happen w e) (is_legal (after w e) (take k es)) first before;
        with_it = ap (λ b. b && is_legal (after w e) (take (suc k) es)) first ∙ h.with_it;
      }

pub some_first : (w : ServerState) (es : List Event) (i : ℕ) → first_illegal w es ≡ Some i → IsFirstIllegal w es i
some_first w [] i h = cc
some_first w (e ∷ es) i h =
    elim (may_happen w e) as (λ b. may_happen w e ≡ b → (if b then next_position (first_illegal (after w e) es) else Some 1) ≡ Some i → IsFirstIllegal w (e ∷ es) i) [
      | true ↦ λ first rest.
          (let p = position_before (first_illegal (after w e) es) i rest in
          subst (λ k. IsFirstIllegal w (e ∷ es) k) (sym p.2) (later w e es first p.0 (some_first (after w e) es p.0 p.1)))
      | false ↦ λ never here.
          (let one : 1 ≡ i = cc in
          subst (λ k. IsFirstIllegal w (e ∷ es) k) one (at_once w e es never))
    ] refl h

pub first_some : (w : ServerState) (es : List Event) (i : ℕ) → IsFirstIllegal w es i → first_illegal w es ≡ Some i
first_some w es zero h = (let never = h.with_it in cc)
first_some w [] (suc i) h = (let never = h.with_it in cc)
first_some w (e ∷ es) (suc zero) h =
    elim (may_happen w e) as (λ b. (b && true) ≡ false → (if b then next_position (first_illegal (after w e) es) else Some 1) ≡ Some 1) [
      | true ↦ λ never. cc
      | false ↦ λ here. refl
    ] h.with_it
first_some w (e ∷ es) (suc (suc k)) h =
    let front : suc (suc k) - 1 ≡ suc k = omega arith in
    let rest : suc k - 1 ≡ k = omega arith in
    let p = and_true (may_happen w e) (is_legal (after w e) (take k es)) (ap (λ i. is_legal w (take i (e ∷ es))) (sym front) ∙ h.before) in
    let found = first_some (after w e) es (suc k) (record {
      before = ap (λ i. is_legal (after w e) (take i es)) rest ∙ p.1;
      with_it = ap (λ b. b && is_legal (after w e) (take (suc k) es)) (sym p.0) ∙ h.with_it;
    }) in
    let next : suc k + 1 ≡ suc (suc k) = omega arith in
    ap (λ b. if b then next_position (first_illegal (after w e) es) else Some 1) p.0 ∙ ap next_position found ∙ ap (λ i. Some i) next
