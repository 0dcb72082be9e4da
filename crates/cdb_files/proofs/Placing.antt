-- Entries placed one after the other: what holds of the slots after each.
use Rattle.std.proofs.Common.{◌≡◌, ℕ, zero, suc, ◌+◌, ◌*◌, ◌/◌, ◌%◌, ◌<◌, ◌≤◌, ◌⊎◌, Bool, true, false, cond, List, length, get_or, take, set, replicate, sym, ap, ◌∙◌, subst, inl, inr, arith, add-one, length-set, mod-lt}
use Rattle.std.proofs.lemmas.Bool.{cases_eq, cases_lt, ne_eqb}
use Rattle.std.proofs.lemmas.List.{get_or-set_same, get_or-set_other, get_or-replicate, length-replicate, take_all}
use Rattle.std.proofs.lemmas.List.Sums.{fold_more, sum_by-set}
use Rattle.std.proofs.lemmas.List.Folds.{sum_by-replicate}
use Rattle.std.specs.List.{count_by, fold, position_or_len}
use Rattle.cdb_files.specs.Slots.{is_empty, is_same, probe}
use Rattle.cdb_files.specs.Image.{free_slot, slots_of, with_entry}
use Rattle.cdb_files.proofs.FirstEmpty.{before_free, count_by-none, empty, free_inside, free_slot-empty, free_slot-lt, get_or-probe, is_same-other, is_same-self, nth, probe-set}

-- the i-th entry
abbrev pub entry : List (ℕ × ℕ) → ℕ → ℕ × ℕ
entry es i = get_or es i empty

-- positions are not 0, and rise
pub record Rising (es : List (ℕ × ℕ)) : Type 0 where
  pub above : (j : ℕ) → j < length es → 0 < (entry es j).1
  pub rising : (j k : ℕ) → j < k → k < length es → (entry es j).1 < (entry es k).1

-- a slot holds one of the first i entries
abbrev pub IsBefore : List (ℕ × ℕ) → ℕ → ℕ × ℕ → Type 0
IsBefore es i s = (j : ℕ) × (j < i) × (s ≡ entry es j)

-- the i-th entry stands at some position of its probe, and earlier ones before it
pub record Found (es : List (ℕ × ℕ)) (i : ℕ) (slots : List (ℕ × ℕ)) : Type 0 where
  pub position : ℕ
  pub inside : position < length slots
  pub here : get_or (probe (entry es i).0 slots) position empty ≡ entry es i
  pub passed : (k : ℕ) → k < position → IsBefore es i (get_or (probe (entry es i).0 slots) k empty)

-- what holds of the slots once the first i entries are placed
pub record Placing (es : List (ℕ × ℕ)) (i : ℕ) (slots : List (ℕ × ℕ)) : Type 0 where
  pub size : length slots ≡ 2 * length es
  pub room : count_by is_empty slots + i ≡ 2 * length es
  pub holds : (k : ℕ) → k < length slots → (get_or slots k empty ≡ empty) ⊎ IsBefore es i (get_or slots k empty)
  pub once : (j : ℕ) → j < i → count_by (is_same (entry es j)) slots ≡ 1
  pub found : (j : ℕ) → j < i → Found es j slots

-- at first all slots are empty
placing_none : (es : List (ℕ × ℕ)) → Placing es 0 (replicate (2 * length es) empty)
placing_none es =
    let n = 2 * length es in
    let size = length-replicate n empty in
    record {
      size = size;
      room = omega (arith, sum_by-replicate (λ (s : ℕ × ℕ). cond (is_empty s) 1 0) n empty);
      holds = λ k l. inl (get_or-replicate n k empty empty (omega arith));
      once = λ j l. absurd (omega arith);
      found = λ j l. absurd (omega arith);
    }

-- the slot that the next entry takes is empty
free_was : (es : List (ℕ × ℕ)) (i : ℕ) (slots : List (ℕ × ℕ)) → Rising es → i < length es → Placing es i slots
    → (hash : ℕ) → get_or slots (free_slot hash slots) empty ≡ empty
free_was es i slots r h p hash =
    let zero_position = free_slot-empty hash slots (omega (arith, p.room)) in
    elim (p.holds (free_slot hash slots) (free_slot-lt hash slots (omega (arith, p.size)))) [
      | inl none ↦ none
      | inr held ↦ absurd (omega (arith, zero_position, r.above held.0 (omega (arith, held.1)), ap (λ (s : ℕ × ℕ). s.1) held.2))
    ]

-- one empty slot less
more_room : (es : List (ℕ × ℕ)) (i : ℕ) (slots : List (ℕ × ℕ)) → Rising es → i < length es → Placing es i slots
    → count_by is_empty (with_entry slots (entry es i)) + (i + 1) ≡ 2 * length es
more_room es i slots r h p =
    let e = entry es i in
    let f = free_slot e.0 slots in
    let count : ℕ × ℕ → ℕ = λ s. cond (is_empty s) 1 0 in
    let change = sum_by-set count slots f e empty (free_slot-lt e.0 slots (omega (arith, p.size))) in
    let was : count (get_or slots f empty) ≡ 1 = ap count (free_was es i slots r h p e.0) in
    let new : count e ≡ 0 = ap (λ (b : Bool). cond b 1 0) (ne_eqb e.1 0 (λ z. absurd (omega (arith, r.above i h, z)))) in
    omega (arith, change, was, new, p.room)

-- the slots hold one entry more
more_holds : (es : List (ℕ × ℕ)) (i : ℕ) (slots : List (ℕ × ℕ)) → Rising es → i < length es → Placing es i slots
    → (k : ℕ) → k < length slots → (get_or (with_entry slots (entry es i)) k empty ≡ empty) ⊎ IsBefore es (i + 1) (get_or (with_entry slots (entry es i)) k empty)
more_holds es i slots r h p k l =
    let e = entry es i in
    let f = free_slot e.0 slots in
    elim (cases_eq k f) [
      | inl same ↦ inr (i, (omega arith), ap (λ (g : ℕ). get_or (set slots f e) g empty) same ∙ get_or-set_same slots f e empty (omega (arith, same, l)))
      | inr other ↦
          let kept = get_or-set_other slots f k e empty other in
          elim (p.holds k l) [
            | inl none ↦ inl (kept ∙ none)
            | inr held ↦ inr (held.0, (omega (arith, held.1)), kept ∙ held.2)
          ]
    ]

-- a slot that holds an earlier entry is not the same as this one
other_entry : (es : List (ℕ × ℕ)) (i : ℕ) (s : ℕ × ℕ) → Rising es → i < length es → (s ≡ empty) ⊎ IsBefore es i s → is_same (entry es i) s ≡ false
other_entry es i s r h (inl none) =
    is_same-other (entry es i) s (λ z. absurd (omega (arith, r.above i h, z, ap (λ (t : ℕ × ℕ). t.1) none)))
other_entry es i s r h (inr held) =
    is_same-other (entry es i) s (λ z. absurd (omega (arith, r.rising held.0 i held.1 h, z, ap (λ (t : ℕ × ℕ). t.1) held.2)))

-- each entry stands once, the new one too
more_once : (es : List (ℕ × ℕ)) (i : ℕ) (slots : List (ℕ × ℕ)) → Rising es → i < length es → Placing es i slots
    → (j : ℕ) → j < i + 1 → count_by (is_same (entry es j)) (with_entry slots (entry es i)) ≡ 1
more_once es i slots r h p j l =
    let e = entry es i in
    let f = free_slot e.0 slots in
    let count : ℕ × ℕ → ℕ = λ s. cond (is_same (entry es j) s) 1 0 in
    let change = sum_by-set count slots f e empty (free_slot-lt e.0 slots (omega (arith, p.size))) in
    let free = free_was es i slots r h p e.0 in
    let was : count (get_or slots f empty) ≡ 0 =
    ap (λ (b : Bool). cond b 1 0) (other_entry es j (get_or slots f empty) r (omega arith) (inl free)) in
    elim (cases_lt j i) [
      | inl older ↦
          let apart : is_same (entry es j) e ≡ false = is_same-other (entry es j) e (λ z. absurd (omega (arith, r.rising j i older h, z))) in
          let new : count e ≡ 0 = ap (λ (b : Bool). cond b 1 0) apart in
          omega (arith, change, was, new, p.once j older)
      | inr last ↦
          let same : i ≡ j = omega arith in
          let self : is_same (entry es j) e ≡ true = ap (λ (m : ℕ). is_same (entry es j) (entry es m)) same ∙ is_same-self (entry es j) in
          let new : count e ≡ 1 = ap (λ (b : Bool). cond b 1 0) self in
          let before : count_by (is_same (entry es i)) slots ≡ 0 =
          count_by-none (is_same (entry es i)) slots (λ k m. other_entry es i (get_or slots k empty) r h (p.holds k m)) in
          let none : count_by (is_same (entry es j)) slots ≡ 0 = ap (λ (m : ℕ). count_by (is_same (entry es m)) slots) (sym same) ∙ before in
          omega (arith, change, was, new, none)
    ]

-- an entry that was found is found at the same position
still_found : (es : List (ℕ × ℕ)) (i : ℕ) (slots : List (ℕ × ℕ)) → Rising es → i < length es → Placing es i slots
    → (j : ℕ) → j < i → Found es j (with_entry slots (entry es i))
still_found es i slots r h p j l =
    let e = entry es i in
    let f = free_slot e.0 slots in
    let free = free_was es i slots r h p e.0 in
    let hash = (entry es j).0 in
    let old = p.found j l in
    let size = length-set slots f e in
    record {
      position = old.position;
      inside = omega (arith, old.inside, size);
      here = probe-set hash old.position f slots e old.inside free (omega (arith, r.above j (omega arith), ap (λ (s : ℕ × ℕ). s.1) old.here)) ∙ old.here;
      passed = λ k m.
          let held = old.passed k m in
          (held.0, held.1, probe-set hash k f slots e (omega (arith, old.inside)) free (omega (arith, r.above held.0 (omega (arith, held.1)), ap (λ (s : ℕ × ℕ). s.1) held.2)) ∙ held.2);
    }

-- the new entry is found in the slot that was free
new_found : (es : List (ℕ × ℕ)) (i : ℕ) (slots : List (ℕ × ℕ)) → Rising es → i < length es → Placing es i slots
    → Found es i (with_entry slots (entry es i))
new_found es i slots r h p =
    let e = entry es i in
    let f = free_slot e.0 slots in
    let free = free_was es i slots r h p e.0 in
    let d = position_or_len is_empty (probe e.0 slots) in
    let inside = free_inside e.0 slots (omega (arith, p.room)) in
    let size = length-set slots f e in
    let moved : nth e.0 d (set slots f e) ≡ f = ap (λ (n : ℕ). (e.0 / 256 + d) % n) size in
    record {
      position = d;
      inside = omega (arith, inside, size);
      here = get_or-probe e.0 d (set slots f e) empty (omega (arith, inside, size))
          ∙ ap (λ (g : ℕ). get_or (set slots f e) g empty) moved
          ∙ get_or-set_same slots f e empty (free_slot-lt e.0 slots (omega (arith, p.size)));
      passed = λ k m.
          let there : k < length slots = omega (arith, inside) in
          let at = get_or-probe e.0 k slots empty there in
          elim (p.holds (nth e.0 k slots) (mod-lt _ (omega (arith, p.size)))) [
            | inl none ↦ absurd (before_free e.0 k slots m (ap (λ (s : ℕ × ℕ). s.1) (at ∙ none)))
            | inr held ↦ (held.0, held.1, probe-set e.0 k f slots e there free (omega (arith, r.above held.0 (omega (arith, held.1)), ap (λ (s : ℕ × ℕ). s.1) (at ∙ held.2))) ∙ at ∙ held.2)
          ];
    }

-- one more entry
placing_more : (es : List (ℕ × ℕ)) (i : ℕ) (slots : List (ℕ × ℕ)) → Rising es → i < length es → Placing es i slots
    → Placing es (i + 1) (with_entry slots (entry es i))
placing_more es i slots r h p =
    let e = entry es i in
    let size = length-set slots (free_slot e.0 slots) e in
    record {
      size = size ∙ p.size;
      room = more_room es i slots r h p;
      holds = λ k l. more_holds es i slots r h p k (omega (arith, size));
      once = more_once es i slots r h p;
      found = λ j l. elim (cases_lt j i) [
        | inl older ↦ still_found es i slots r h p j older
        | inr last ↦
            let same : i ≡ j = omega arith in
            subst (λ (m : ℕ). Found es m (with_entry slots e)) same (new_found es i slots r h p)
      ];
    }

-- the first i entries
placing_to : (es : List (ℕ × ℕ)) (i : ℕ) → Rising es → i ≤ length es
    → Placing es i (fold with_entry (replicate (2 * length es) empty) (take i es))
placing_to es zero r h = placing_none es
placing_to es (suc i) r h =
    let start = replicate (2 * length es) empty in
    let more = fold_more with_entry start es i empty h in
    let next = placing_more es i (fold with_entry start (take i es)) r h (placing_to es i r (omega arith)) in
    subst (λ (m : ℕ). Placing es m (fold with_entry start (take m es))) (add-one i)
    (subst (Placing es (i + 1)) (sym more) next)

-- all entries
pub slots_placed : (es : List (ℕ × ℕ)) → Rising es → Placing es (length es) (slots_of es)
slots_placed es r =
    subst (λ (xs : List (ℕ × ℕ)). Placing es (length es) (fold with_entry (replicate (2 * length es) empty) xs))
    (take_all (length es) es (omega arith)) (placing_to es (length es) r (omega arith))
