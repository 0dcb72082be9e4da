-- Receipts that are right: their positions rise, no position comes twice, and where they are as many as the events they are the history.
use Rattle.std.proofs.Common.{◌≡◌, ◌≢◌, ◌<◌, ◌≤◌, ◌+◌, ◌-◌, ◌==◌, ℕ, Bool, true, false, cond, inl, inr, zero, suc, List, [], ◌∷◌, length, length-drop, map, take, drop, get_or, refl, sym, ap, subst, ◌∙◌, arith}
use Rattle.std.specs.Prelude.{IfSome, IsPermutation, None, Option, Some, slice_get}
use Rattle.std.proofs.Math.Seq.{take-nil}
use Rattle.std.proofs.lemmas.Bool.{cases_order}
use Rattle.std.proofs.lemmas.Bool.Decides.{nat_tests}
use Rattle.std.proofs.lemmas.Option.{get_or_from_slice_get, none-some, same_Some, slice_get-get_or, slice_get_within}
use Rattle.server_events.specs.declared.journal.Noted.{Noted}
use Rattle.whole_yard.specs.Audits.{AreOthersUpTo, AreRight, IsAbove, Rise, StandsAtItsPosition, note_at, note_of}
use Rattle.whole_yard.specs.declared.receipt.Receipt.{Receipt}
use Rattle.whole_yard.proofs.Placed.{all_placed, placed_from}

if_some : {X : Type 0} (o : Option X) (x : X) (P : X → Type 0) → o ≡ Some x → IfSome o P → P x
if_some None x P is holds = absurd (none-some x is)
if_some (Some y) x P is holds = subst P (same_Some y x is) holds

slice_get-take : {X : Type 0} (xs : List X) (n i : ℕ) → i < n → slice_get (take n xs) i ≡ slice_get xs i
slice_get-take [] n i below = ap (λ (zs : List _). slice_get zs i) (take-nil n)
slice_get-take (x ∷ xs) zero i below = absurd (omega (arith, below))
slice_get-take (x ∷ xs) (suc n) zero below = refl
slice_get-take (x ∷ xs) (suc n) (suc i) below = slice_get-take xs n i (omega (arith, below))

slice_get-drop : {X : Type 0} (xs : List X) (n i : ℕ) → slice_get (drop n xs) i ≡ slice_get xs (n + i)
slice_get-drop xs zero i = ap (slice_get xs) (omega arith)
slice_get-drop [] (suc n) i = refl
slice_get-drop (x ∷ xs) (suc n) i =
    let next : suc (n + i) ≡ suc n + i = omega arith in
    slice_get-drop xs n i ∙ ap (slice_get (x ∷ xs)) next

-- the event at a position is one of the list
at_position : (notes : List Noted) (at : ℕ) (n : Noted) → note_at notes at ≡ Some n → (0 < at) × (slice_get notes (at - 1) ≡ Some n)
at_position notes at n is = go (at == 0) refl is
  where
    go : (b : Bool) → (at == 0) ≡ b → cond b None (slice_get notes (at - 1)) ≡ Some n → (0 < at) × (slice_get notes (at - 1) ≡ Some n)
    go true first none = absurd (none-some n none)
    go false later found = (grind (arith, nat_tests), found)

-- a receipt that is right, and is above an earlier one of its caller
right_at : (notes : List Noted) (receipts : List Receipt) → AreRight notes receipts → (i : ℕ) (r : Receipt) → slice_get receipts i ≡ Some r
    → StandsAtItsPosition notes r × IsAbove (take i receipts) r
right_at notes receipts right i r is =
    if_some (slice_get receipts i) r (λ r. StandsAtItsPosition notes r × IsAbove (take i receipts) r) is (right i (slice_get_within receipts i r is))

above_one : (receipts : List Receipt) (i j : ℕ) (r s : Receipt) → i < j → slice_get receipts i ≡ Some r → IsAbove (take j receipts) s
    → r.caller ≡ s.caller → r.at < s.at
above_one receipts i j r s below is above same =
    let here = slice_get-take receipts j i below ∙ is in
    let within = slice_get_within (take j receipts) i r here in
    let read = get_or_from_slice_get (take j receipts) i r r here in
    subst (λ (e : Receipt). e.caller ≡ s.caller → e.at < s.at) read (above i r within) same

-- no position comes twice
pub positions_apart : (notes : List Noted) (receipts : List Receipt) → AreRight notes receipts → (i j : ℕ) (r s : Receipt) → i < j
    → slice_get receipts i ≡ Some r → slice_get receipts j ≡ Some s → s.at ≢ r.at
positions_apart notes receipts right i j r s below is that same =
    let one = right_at notes receipts right i r is in
    let two = right_at notes receipts right j s that in
    let noted : note_of r ≡ note_of s = same_Some (note_of r) (note_of s) (sym one.0 ∙ ap (note_at notes) (sym same) ∙ two.0) in
    let rises = above_one receipts i j r s below is two.1 (ap (λ (n : Noted). n.caller) noted) in
    omega (arith, rises, same)

-- each receipt's position is behind the events that others made
since : (notes : List Noted) (receipts : List Receipt) (before : ℕ) → AreRight notes receipts → AreOthersUpTo before notes receipts
    → (i : ℕ) (r : Receipt) → slice_get receipts i ≡ Some r → (0 < r.at) × (before ≤ r.at - 1) × (slice_get notes (r.at - 1) ≡ Some (note_of r))
since notes receipts before right others i r is =
    let stands = at_position notes r.at (note_of r) (right_at notes receipts right i r is).0 in
    let within = slice_get_within receipts i r is in
    let read = get_or_from_slice_get receipts i r r is in
    let behind : (b : ℕ) → b ≡ before → (r.at - 1 < b → ⊥) → before ≤ r.at - 1 = λ b same never. omega (arith, same, never) in (
      stands.0,
      behind before refl (λ early. subst (λ (e : Receipt). e.caller ≢ r.caller) read (others (r.at - 1) (note_of r) early stands.1 i r within) refl),
      stands.1,
    )

-- where its event stands among those since then
abbrev position_since : ℕ → Receipt → ℕ
position_since before r = (r.at - 1) - before

pub whole_history : (notes : List Noted) (receipts : List Receipt) (before : ℕ) → AreRight notes receipts
    → length notes ≡ before + length receipts → AreOthersUpTo before notes receipts
    → IsPermutation (map note_of receipts) (drop before notes)
whole_history notes receipts before right as_many others =
    let stands : (i : ℕ) (r : Receipt) → slice_get receipts i ≡ Some r → slice_get (drop before notes) (position_since before r) ≡ Some (note_of r) =
    λ i r is. let s = since notes receipts before right others i r is in
    slice_get-drop notes before (position_since before r) ∙ ap (slice_get notes) (omega (arith, s.1)) ∙ s.2 in
    let apart : (i j : ℕ) (r s : Receipt) → i < j → slice_get receipts i ≡ Some r → slice_get receipts j ≡ Some s → position_since before s ≢ position_since before r =
    λ i j r s below is that same.
    let one = since notes receipts before right others i r is in
    let two = since notes receipts before right others j s that in
    positions_apart notes receipts right i j r s below is that (omega (arith, same, one.0, one.1, two.0, two.1)) in
    all_placed (position_since before) note_of (drop before notes) receipts
    (placed_from (position_since before) note_of (drop before notes) receipts stands apart)
    (omega (arith, as_many, length-drop before notes))

-- what is above the last earlier receipt of its caller is above all of them
pub above_last : (earlier : List Receipt) (i : ℕ) (e r : Receipt) → Rise earlier → i < length earlier → e ≡ get_or earlier i e → e.caller ≡ r.caller
    → ((k : ℕ) (d : Receipt) → i < k → k < length earlier → (get_or earlier k d).caller ≢ r.caller) → e.at < r.at → IsAbove earlier r
above_last earlier i e r rise within is own others below = λ k d inside same.
    let one = get_or earlier k d in
    let at_i : slice_get earlier i ≡ Some e = slice_get-get_or earlier i e within ∙ ap Some (sym is) in
    let at_k : slice_get earlier k ≡ Some one = slice_get-get_or earlier k d inside in
    let above = if_some (slice_get earlier i) e (IsAbove (take i earlier)) at_i (rise i within) in
    elim (cases_order k i) [
      | inl here ↦
          let equal : one ≡ e = get_or_from_slice_get earlier k e d (ap (slice_get earlier) here ∙ at_i) in
          omega (arith, ap (λ (x : Receipt). x.at) equal, below)
      | inr (inl lower) ↦
          let first = above_one earlier k i one e lower at_k above (same ∙ sym own) in
          omega (arith, first, below)
      | inr (inr higher) ↦ absurd (others k d higher inside same)
    ]

-- what is above all of them is above this one
pub above_at : (earlier : List Receipt) (i : ℕ) (e r : Receipt) → IsAbove earlier r → i < length earlier → e ≡ get_or earlier i e → e.caller ≡ r.caller → e.at < r.at
above_at earlier i e r above within is own =
    let first = above i e within (ap (λ (x : Receipt). x.caller) (sym is) ∙ own) in
    omega (arith, first, ap (λ (x : Receipt). x.at) is)
