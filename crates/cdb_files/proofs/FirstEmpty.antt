-- The probe of a table, position by position, and its first empty slot.
use Rattle.std.proofs.Common.{◌≡◌, ℕ, suc, ◌+◌, ◌-◌, ◌/◌, ◌%◌, ◌<◌, Bool, true, false, cond, List, [], ◌∷◌, length, get_or, take, drop, set, refl, sym, ap, ◌∙◌, inl, inr, arith, length-append, length-drop, length-take, length-set, mod-lt, mod-eq_of_lt}
use Rattle.std.proofs.Math.Nat.{mod-add-mod, mod-eq-sub-mod}
use Rattle.std.proofs.lemmas.Bool.{and_from, and_parts, and_right, cases_lt, eq-eqb, eqb-false, eqb-true, ne_eqb}
use Rattle.std.proofs.lemmas.List.{get_or_append_left, get_or-append_right, get_or-drop, get_or-take, get_or-set_other}
use Rattle.std.proofs.lemmas.List.Sums.{sum_by-append, sum_by-take-drop, sum_by-cons, fails_before_first, passes_at_first}
use Rattle.std.specs.List.{count_by, position_or_len}
use Rattle.cdb_files.specs.Slots.{is_empty, is_same, probe}
use Rattle.cdb_files.specs.Image.{free_slot}

-- the empty slot
abbrev pub empty : ℕ × ℕ
empty = (0, 0)

-- where the k-th slot of a probe stands in the table
abbrev pub nth : ℕ → ℕ → List (ℕ × ℕ) → ℕ
nth hash k slots = (hash / 256 + k) % length slots

-- a probe has all slots
pub length-probe : (hash : ℕ) (slots : List (ℕ × ℕ)) → length (probe hash slots) ≡ length slots
length-probe hash slots =
    let r = hash / 256 % length slots in
    let parts = length-append (drop r slots) (take r slots) in
    let back = length-drop r slots in
    let front = length-take r slots in
    elim (cases_lt 0 (length slots)) [
      | inl some ↦ let first : r < length slots = mod-lt (hash / 256) some in omega arith
      | inr none ↦ omega arith
    ]

-- the k-th slot of a probe
pub get_or-probe : (hash k : ℕ) (slots : List (ℕ × ℕ)) (d : ℕ × ℕ) → k < length slots
    → get_or (probe hash slots) k d ≡ get_or slots (nth hash k slots) d
get_or-probe hash k slots d h =
    let n = length slots in
    let r = hash / 256 % n in
    let first : r < n = mod-lt (hash / 256) (omega arith) in
    let position : (r + k) % n ≡ nth hash k slots = mod-add-mod (hash / 256) n k in
    let back = length-drop r slots in
    elim (cases_lt k (n - r)) [
      | inl upward ↦
          let here : (r + k) % n ≡ r + k = mod-eq_of_lt (omega arith) in
          get_or_append_left (drop r slots) (take r slots) d k (omega arith)
          ∙ get_or-drop r slots k d ∙ ap (λ (g : ℕ). get_or slots g d) (sym here ∙ position)
      | inr around ↦
          let less : (r + k) % n ≡ (r + k - n) % n = mod-eq-sub-mod (omega arith) in
          let here : (r + k - n) % n ≡ r + k - n = mod-eq_of_lt (omega arith) in
          let same : k - (n - r) ≡ r + k - n = omega arith in
          get_or-append_right (drop r slots) (take r slots) (n - r) k d (omega arith) around
          ∙ get_or-take r slots (k - (n - r)) d (omega arith)
          ∙ ap (λ (g : ℕ). get_or slots g d) (same ∙ sym here ∙ sym less ∙ position)
    ]

-- a count over a probe is the count over the table
pub count_by-probe : (p : ℕ × ℕ → Bool) (hash : ℕ) (slots : List (ℕ × ℕ)) → count_by p (probe hash slots) ≡ count_by p slots
count_by-probe p hash slots =
    let r = hash / 256 % length slots in
    let f : ℕ × ℕ → ℕ = λ s. cond (p s) 1 0 in
    omega (arith, sum_by-append f (drop r slots) (take r slots), sum_by-take-drop f slots r)

-- where no element passes, the count is 0
pub count_by-none : (p : ℕ × ℕ → Bool) (xs : List (ℕ × ℕ)) → ((k : ℕ) → k < length xs → p (get_or xs k empty) ≡ false) → count_by p xs ≡ 0
count_by-none p [] h = refl
count_by-none p (x ∷ xs) h =
    let first : p x ≡ false = h 0 (omega arith) in
    let rest = count_by-none p xs (λ k l. h (suc k) (omega arith)) in
    sum_by-cons (λ (s : ℕ × ℕ). cond (p s) 1 0) x xs ∙ rw first (omega arith)

-- where some element passes, the first that does stands inside
pub first_inside : (p : ℕ × ℕ → Bool) (xs : List (ℕ × ℕ)) → 0 < count_by p xs → position_or_len p xs < length xs
first_inside p xs h = elim (cases_lt (position_or_len p xs) (length xs)) [
  | inl inside ↦ inside
  | inr past ↦ absurd (omega (arith, count_by-none p xs (λ k l. fails_before_first p xs k empty (omega arith))))
]

-- where some slot is empty, the first empty one stands inside the probe
pub free_inside : (hash : ℕ) (slots : List (ℕ × ℕ)) → 0 < count_by is_empty slots → position_or_len is_empty (probe hash slots) < length slots
free_inside hash slots h =
    omega (arith, first_inside is_empty (probe hash slots) (omega (arith, count_by-probe is_empty hash slots)), length-probe hash slots)

-- the slot that a new entry takes stands inside the table
pub free_slot-lt : (hash : ℕ) (slots : List (ℕ × ℕ)) → 0 < length slots → free_slot hash slots < length slots
free_slot-lt hash slots h = mod-lt _ h

-- it is empty
pub free_slot-empty : (hash : ℕ) (slots : List (ℕ × ℕ)) → 0 < count_by is_empty slots → (get_or slots (free_slot hash slots) empty).1 ≡ 0
free_slot-empty hash slots h =
    let d = position_or_len is_empty (probe hash slots) in
    let inside = free_inside hash slots h in
    let passes = passes_at_first is_empty (probe hash slots) empty (omega (arith, length-probe hash slots)) in
    ap (λ (s : ℕ × ℕ). s.1) (sym (get_or-probe hash d slots empty inside)) ∙ eqb-true _ _ passes

-- no slot before it in the probe is
pub before_free : (hash k : ℕ) (slots : List (ℕ × ℕ)) → k < position_or_len is_empty (probe hash slots) → (get_or (probe hash slots) k empty).1 ≡ 0 → ⊥
before_free hash k slots h e = eqb-false _ _ (fails_before_first is_empty (probe hash slots) k empty h) e

-- a slot that is not empty stays where an empty one is written
pub probe-set : (hash k f : ℕ) (slots : List (ℕ × ℕ)) (e : ℕ × ℕ) → k < length slots → get_or slots f empty ≡ empty
    → 0 < (get_or (probe hash slots) k empty).1
    → get_or (probe hash (set slots f e)) k empty ≡ get_or (probe hash slots) k empty
probe-set hash k f slots e h was holds =
    let g = nth hash k slots in
    let old = get_or-probe hash k slots empty h in
    let len = length-set slots f e in
    let new = get_or-probe hash k (set slots f e) empty (omega arith) in
    let moved : nth hash k (set slots f e) ≡ g = ap (λ (n : ℕ). (hash / 256 + k) % n) len in
    let apart : g ≡ f → ⊥ = λ same. absurd (omega (arith, holds, ap (λ (s : ℕ × ℕ). s.1) (old ∙ ap (λ (i : ℕ). get_or slots i empty) same ∙ was))) in
    new ∙ ap (λ (i : ℕ). get_or (set slots f e) i empty) moved ∙ get_or-set_other slots f g e empty apart ∙ sym old

-- an entry is the same as itself
pub is_same-self : (e : ℕ × ℕ) → is_same e e ≡ true
is_same-self e = and_from _ _ (eq-eqb e.0 e.0 refl) (eq-eqb e.1 e.1 refl)

-- slots at other positions are not the same
pub is_same-other : (e s : ℕ × ℕ) → (s.1 ≡ e.1 → ⊥) → is_same e s ≡ false
is_same-other e s h = and_right _ _ (ne_eqb s.1 e.1 h)

-- the same slot is the entry
pub same_from_is_same : (e s : ℕ × ℕ) → is_same e s ≡ true → s ≡ e
same_from_is_same e s h =
    let parts = and_parts _ _ h in
    let hash = eqb-true s.0 e.0 parts.0 in
    let position = eqb-true s.1 e.1 parts.1 in
    λ i. (hash i, position i)
