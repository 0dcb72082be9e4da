-- The connections of a map, as the list that they make in the order of their serials.
use Rattle.std.proofs.Common.{◌≡◌, ℕ, ◌<◌, ◌≤◌, List, [], ◌∷◌, ◌++◌, Bool, true, false, ◌==◌, cond, Some, None, refl, sym, ap, ◌∙◌, arith, Greater}
use Rattle.std.specs.Prelude.{if◌then◌else◌, All, option_map}
use Rattle.std.specs.BTreeMap.{insert_entry, is_at}
use Rattle.std.specs.Map.{values_of, lookup, remove_entry, set_value}
use Rattle.std.specs.Ordering.{nat_cmp, match_ordering}
use Rattle.std.specs.Cmp.{nat_cmp_is}
use Rattle.std.proofs.lemmas.Bool.Decides.{nat_tests}
use Rattle.std.proofs.lemmas.List.Elements.{All-head, All-tail, All-cons}
use Rattle.server_events.specs.declared.event.Stage.{Stage}
use Rattle.server_events.specs.declared.state.Connection.{Connection}
use Rattle.server_events.specs.Kept.{HasOwnSerial, IsUpTo}
use Rattle.server_events.specs.ServerState.{stage_of, with_stage, without, peer_of}

-- the test by which a map finds the serial n
pub finds_serial : (n k : ℕ) → is_at (nat_cmp n) k ≡ (k == n)
finds_serial n k = grind (arith, nat_tests)

above-Greater : (n k : ℕ) → k < n → nat_cmp n k ≡ Greater
above-Greater n k l = sym (nat_cmp_is n k Greater l)

-- a serial above all others goes to the end
pub insert_entry-above : (n : ℕ) (c : Connection) (last : ℕ) (es : List (ℕ × Connection)) → last < n → All (IsUpTo last) es → insert_entry nat_cmp es n c ≡ es ++ (n, c) ∷ []
insert_entry-above n c last [] l h = refl
insert_entry-above n c last (e ∷ es) l h =
    let here : e.0 ≤ last = All-head (IsUpTo last) e es h in
    let rest = insert_entry-above n c last es l (All-tail (IsUpTo last) e es h) in
    ap (λ r. match_ordering r ((n, c) ∷ e ∷ es) ((e.0, c) ∷ es) (e ∷ insert_entry nat_cmp es n c)) (above-Greater n e.0 (omega arith)) ∙ ap (λ (xs : List (ℕ × Connection)). e ∷ xs) rest

pub values_of-push : (n : ℕ) (c : Connection) (es : List (ℕ × Connection)) → values_of (es ++ (n, c) ∷ []) ≡ values_of es ++ c ∷ []
values_of-push n c [] = refl
values_of-push n c (e ∷ es) = ap (λ (cs : List Connection). e.1 ∷ cs) (values_of-push n c es)

-- a test of the keys that finds one serial
module _ (test : ℕ → Bool) (n : ℕ) (finds : (k : ℕ) → test k ≡ (k == n)) where
  finds_own : (e : ℕ × Connection) → HasOwnSerial e → test e.0 ≡ (e.1.serial == n)
  finds_own e h = finds e.0 ∙ ap (λ k. k == n) h

  pub lookup-stage_of : (es : List (ℕ × Connection)) → All HasOwnSerial es → option_map (λ (c : Connection). c.stage) (lookup test es) ≡ stage_of n (values_of es)
  lookup-stage_of [] h = refl
  lookup-stage_of (e ∷ es) h =
      let rest = lookup-stage_of es (All-tail HasOwnSerial e es h) in
      ap (λ b. option_map (λ (c : Connection). c.stage) (cond b (Some e.1) (lookup test es))) (finds_own e (All-head HasOwnSerial e es h))
      ∙ (elim (e.1.serial == n) as (λ b. option_map (λ (c : Connection). c.stage) (cond b (Some e.1) (lookup test es)) ≡ (if b then Some e.1.stage else stage_of n (values_of es))) [ true ↦ refl | false ↦ rest ])

  pub lookup-peer_of : (es : List (ℕ × Connection)) → All HasOwnSerial es → option_map (λ (c : Connection). c.peer) (lookup test es) ≡ peer_of n (values_of es)
  lookup-peer_of [] h = refl
  lookup-peer_of (e ∷ es) h =
      let rest = lookup-peer_of es (All-tail HasOwnSerial e es h) in
      ap (λ b. option_map (λ (c : Connection). c.peer) (cond b (Some e.1) (lookup test es))) (finds_own e (All-head HasOwnSerial e es h))
      ∙ (elim (e.1.serial == n) as (λ b. option_map (λ (c : Connection). c.peer) (cond b (Some e.1) (lookup test es)) ≡ (if b then Some e.1.peer else peer_of n (values_of es))) [ true ↦ refl | false ↦ rest ])

  pub values_of-remove_entry : (es : List (ℕ × Connection)) → All HasOwnSerial es → values_of (remove_entry test es) ≡ without n (values_of es)
  values_of-remove_entry [] h = refl
  values_of-remove_entry (e ∷ es) h =
      let rest = values_of-remove_entry es (All-tail HasOwnSerial e es h) in
      ap (λ b. values_of (cond b es (e ∷ remove_entry test es))) (finds_own e (All-head HasOwnSerial e es h))
      ∙ (elim (e.1.serial == n) as (λ b. values_of (cond b es (e ∷ remove_entry test es)) ≡ (if b then values_of es else (e.1 ∷ without n (values_of es)))) [ true ↦ refl | false ↦ ap (λ (cs : List Connection). e.1 ∷ cs) rest ])

  pub values_of-set_value : (s : Stage) (c : Connection) (es : List (ℕ × Connection)) → All HasOwnSerial es → lookup test es ≡ Some c → values_of (set_value test es (record c { stage = s })) ≡ with_stage n s (values_of es)
  values_of-set_value s c [] h found = cc
  values_of-set_value s c (e ∷ es) h found =
      let new = record c { stage = s } in
      let same = finds_own e (All-head HasOwnSerial e es h) in
      let rest = values_of-set_value s c es (All-tail HasOwnSerial e es h) in
      ap (λ b. values_of (cond b ((e.0, new) ∷ es) (e ∷ set_value test es new))) same
      ∙ (elim (e.1.serial == n) as (λ b. cond b (Some e.1) (lookup test es) ≡ Some c → values_of (cond b ((e.0, new) ∷ es) (e ∷ set_value test es new)) ≡ (if b then ((record e.1 { stage = s }) ∷ values_of es) else (e.1 ∷ with_stage n s (values_of es)))) [
        | true ↦ λ here. (let it : e.1 ≡ c = cc in ap (λ (d : Connection). record d { stage = s } ∷ values_of es) (sym it))
        | false ↦ λ later. ap (λ (cs : List Connection). e.1 ∷ cs) (rest later)
      ] (ap (λ b. cond b (Some e.1) (lookup test es)) (sym same) ∙ found))

  pub with_stage-absent : (s : Stage) (es : List (ℕ × Connection)) → All HasOwnSerial es → lookup test es ≡ None → with_stage n s (values_of es) ≡ values_of es
  with_stage-absent s [] h none = refl
  with_stage-absent s (e ∷ es) h none =
      let same = finds_own e (All-head HasOwnSerial e es h) in
      let rest = with_stage-absent s es (All-tail HasOwnSerial e es h) in
      elim (e.1.serial == n) as (λ b. cond b (Some e.1) (lookup test es) ≡ None → (if b then ((record e.1 { stage = s }) ∷ values_of es) else (e.1 ∷ with_stage n s (values_of es))) ≡ e.1 ∷ values_of es) [
        | true ↦ λ here. cc
        | false ↦ λ later. ap (λ (cs : List Connection). e.1 ∷ cs) (rest later)
      ] (ap (λ b. cond b (Some e.1) (lookup test es)) (sym same) ∙ none)

-- what holds of each entry holds without one of them
pub All-remove_entry : (P : ℕ × Connection → Type 0) (test : ℕ → Bool) (es : List (ℕ × Connection)) → All P es → All P (remove_entry test es)
All-remove_entry P test [] h = h
All-remove_entry P test (e ∷ es) h =
    let rest = All-remove_entry P test es (All-tail P e es h) in
    elim (test e.0) as (λ b. All P (cond b es (e ∷ remove_entry test es))) [
      | true ↦ All-tail P e es h
      | false ↦ All-cons P e (remove_entry test es) (All-head P e es h) rest
    ]

-- what holds of each entry holds with another value at one of them, where it holds of that value too
pub All-set_value : (P : ℕ × Connection → Type 0) (test : ℕ → Bool) (x y : Connection) (es : List (ℕ × Connection)) → ((e : ℕ × Connection) → e.1 ≡ x → P e → P (e.0, y)) → lookup test es ≡ Some x → All P es → All P (set_value test es y)
All-set_value P test x y [] also found h = h
All-set_value P test x y (e ∷ es) also found h =
    let here = All-head P e es h in
    let rest = All-tail P e es h in
    elim (test e.0) as (λ b. cond b (Some e.1) (lookup test es) ≡ Some x → All P (cond b ((e.0, y) ∷ es) (e ∷ set_value test es y))) [
      | true ↦ λ it. (let same : e.1 ≡ x = cc in All-cons P (e.0, y) es (also e same here) rest)
      | false ↦ λ later. All-cons P e (set_value test es y) here (All-set_value P test x y es also later rest)
    ] found
