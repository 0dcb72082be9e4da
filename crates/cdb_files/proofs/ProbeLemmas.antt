-- The slots of a table in the order in which they are probed.
use Rattle.std.proofs.Common.{◌≡◌, ◌≢◌, ℕ, ◌+◌, ◌-◌, ◌*◌, ◌/◌, ◌%◌, ◌<◌, ◌≤◌, Bool, true, false, not, eqb, cond, List, ◌∷◌, ◌++◌, length, take, drop, get_or, refl, arith, sym, ◌∙◌, ap, zero-add, inl, inr}
use Rattle.std.specs.Prelude.{◌==◌, if◌then◌else◌}
use Rattle.std.proofs.Math.Nat.{mod-eq_of_lt, mod-eq-sub-mod, mod-lt}
use Rattle.std.proofs.lemmas.Bool.{cases_lt, eq-eqb, ne_eqb, or_right}
use Rattle.std.proofs.lemmas.List.{at_drop_more, at_drop_all, get_or_append_left, get_or-append_right, get_or-drop, get_or-take, length-append, length-drop, length-take-le}
use Rattle.std.proofs.lemmas.List.FromFn.{get_or-map-range_with_len, length-map-range_with_len}
use Rattle.cdb_files.specs.Format.{hash_of, two_numbers_at}
use Rattle.cdb_files.specs.Slots.{pointer_at, probe, table_of}
use Rattle.cdb_files.specs.Reading.{has_other_key, lies_in, reading, value_at}
use Rattle.cdb_files.specs.Parts.{found_in_probe, found_in_slots, record_at, slots_from}
use Rattle.rule_lookup.specs.Lookups.{Finding}
use Rattle.rule_lookup.specs.Lookups.Finding.{Has, Absent, Broken}

-- a list turned round at a position, read at an index
get_or-turned : {X : Type 0} (xs : List X) (first k : ℕ) (d : X) → first < length xs → k < length xs → get_or (drop first xs ++ take first xs) k d ≡ get_or xs ((first + k) % length xs) d
get_or-turned xs first k d f h =
    elim (cases_lt (first + k) (length xs)) [
      | inl below ↦
          let e = mod-eq_of_lt below in
          let left = get_or_append_left (drop first xs) (take first xs) d k (omega (arith, length-drop first xs)) in
          rw (e, left, get_or-drop first xs k d) refl
      | inr above ↦
          let small : first + k - length xs < length xs = omega arith in
          let e = mod-eq-sub-mod above ∙ mod-eq_of_lt small in
          let right = get_or-append_right (drop first xs) (take first xs) (length xs - first) k d (length-drop first xs) (omega arith) in
          let same : k - (length xs - first) ≡ first + k - length xs = omega arith in
          rw (e, right, same, get_or-take first xs (first + k - length xs) d (omega arith)) refl
    ]

length-turned : {X : Type 0} (xs : List X) (first : ℕ) → first < length xs → length (drop first xs ++ take first xs) ≡ length xs
length-turned xs first f =
    omega (arith, length-append (drop first xs) (take first xs), length-drop first xs, length-take-le first xs (omega arith))

module _ (hash : ℕ) (file : List ℕ) (table slots : ℕ) (some : 0 < slots) where
  length-slots : length (slots_from file (table, slots)) ≡ slots
  length-slots = length-map-range_with_len (λ (i : ℕ). two_numbers_at file (table + 8 * i)) 0 slots

  first-below : hash / 256 % length (slots_from file (table, slots)) < length (slots_from file (table, slots))
  first-below = mod-lt (hash / 256) (omega (arith, length-slots))

  length-probe : length (probe hash (slots_from file (table, slots))) ≡ slots
  length-probe = length-turned (slots_from file (table, slots)) _ first-below ∙ length-slots

  -- the slot at an index of the probe
  get_or-probe : (k : ℕ) (d : ℕ × ℕ) → k < slots → get_or (probe hash (slots_from file (table, slots))) k d ≡ two_numbers_at file (table + 8 * ((hash / 256 % slots + k) % slots))
  get_or-probe k d h =
      let turned = get_or-turned (slots_from file (table, slots)) (hash / 256 % length (slots_from file (table, slots))) k d first-below (omega (arith, length-slots)) in
      let at = get_or-map-range_with_len (λ (i : ℕ). two_numbers_at file (table + 8 * i)) 0 slots ((hash / 256 % slots + k) % slots) ((hash / 256 % slots + k) % slots) d (mod-lt (hash / 256 % slots + k) some) (zero-add _) in
      turned
      ∙ ap (λ (n : ℕ). get_or (slots_from file (table, slots)) ((hash / 256 % n + k) % n) d) length-slots
      ∙ at

  -- the slot that is read next is the first of those that are left
  pub found_in_probe-drop : (key : List ℕ) (k position : ℕ) (slot : ℕ × ℕ) → k < slots → position ≡ table + 8 * ((hash / 256 % slots + k) % slots) → slot ≡ two_numbers_at file position → found_in_probe file key (drop k (probe hash (slots_from file (table, slots)))) ≡ found_in_probe file key (slot ∷ drop (k + 1) (probe hash (slots_from file (table, slots))))
  found_in_probe-drop key k position slot h at is =
      let here : get_or (probe hash (slots_from file (table, slots))) k slot ≡ slot = get_or-probe k slot h ∙ ap (two_numbers_at file) (sym at) ∙ sym is in
      at_drop_more (found_in_probe file key) (probe hash (slots_from file (table, slots))) k slot (omega (arith, length-probe))
      ∙ ap (λ (s : ℕ × ℕ). found_in_probe file key (s ∷ drop (k + 1) (probe hash (slots_from file (table, slots))))) here

  -- past the last slot there is nothing
  pub found_in_probe-drop_all : (key : List ℕ) (k : ℕ) → slots ≤ k → found_in_probe file key (drop k (probe hash (slots_from file (table, slots)))) ≡ Absent
  found_in_probe-drop_all key k h =
      at_drop_all (found_in_probe file key) (probe hash (slots_from file (table, slots))) k (omega (arith, length-probe))

-- the value of a record is not absence
Has-not_Absent : (b : Bool) (value : List ℕ) → cond b (Has value) Broken ≢ Absent
Has-not_Absent true value e = cc
Has-not_Absent false value e = cc

-- only another key is absence
other_key-from : (b : Bool) (found : Finding) → found ≢ Absent → cond b Absent found ≡ Absent → b ≡ true
other_key-from true found present e = refl
other_key-from false found present e = absurd (present e)

same_key-from : (b : Bool) (found : Finding) → cond b Absent found ≢ Absent → b ≡ false
same_key-from true found present = absurd (present refl)
same_key-from false found present = refl

-- what is found is what is found among a slot and those after it
pub record IsNext (file key : List ℕ) (slot : ℕ × ℕ) (rest : List (ℕ × ℕ)) (found : Finding) : Type 0 where
  pub is : found ≡ found_in_probe file key (slot ∷ rest)

module _ {file key : List ℕ} {slot : ℕ × ℕ} {rest : List (ℕ × ℕ)} {found : Finding} (next : IsNext file key slot rest found) where
  -- an empty slot ends the probe
  pub found-empty : slot.1 ≡ 0 → found ≡ Absent
  found-empty empty =
      let e : eqb slot.1 0 ≡ true = eq-eqb slot.1 0 empty in
      let first : found_in_probe file key (slot ∷ rest) ≡ Absent = rw (e, e) refl in
      next.is ∙ first

  -- a slot with another hash is passed
  pub found-other_hash : slot.1 ≢ 0 → slot.0 ≢ hash_of key → found_in_probe file key rest ≡ found
  found-other_hash some other =
      let e : eqb slot.1 0 ≡ false = ne_eqb slot.1 0 some in
      let f : eqb slot.0 (hash_of key) ≡ false = ne_eqb slot.0 (hash_of key) other in
      let passed : found_in_probe file key (slot ∷ rest) ≡ found_in_probe file key rest = rw (e, f) refl in
      sym (next.is ∙ passed)

  -- a slot of a record with another key is passed
  pub found-other_key : slot.1 ≢ 0 → record_at file key slot.1 ≡ Absent → found_in_probe file key rest ≡ found
  found-other_key some absent =
      let e : eqb slot.1 0 ≡ false = ne_eqb slot.1 0 some in
      let o : has_other_key file key slot.1 ≡ true = other_key-from (has_other_key file key slot.1) (value_at file key slot.1) (Has-not_Absent _ _) absent in
      let other = or_right (not (eqb slot.0 (hash_of key))) (has_other_key file key slot.1) o in
      let passed : found_in_probe file key (slot ∷ rest) ≡ found_in_probe file key rest = rw (e, other) refl in
      sym (next.is ∙ passed)

  -- any other slot decides
  pub found-record : (at : Finding) → slot.1 ≢ 0 → slot.0 ≡ hash_of key → at ≢ Absent → record_at file key slot.1 ≡ at → found ≡ at
  found-record at some same present decides =
      let e : eqb slot.1 0 ≡ false = ne_eqb slot.1 0 some in
      let f : eqb slot.0 (hash_of key) ≡ true = eq-eqb slot.0 (hash_of key) same in
      let o : has_other_key file key slot.1 ≡ false = same_key-from (has_other_key file key slot.1) (value_at file key slot.1) (λ absent. present (sym decides ∙ absent)) in
      let decided : found_in_probe file key (slot ∷ rest) ≡ record_at file key slot.1 = rw (e, f, o, e) refl in
      next.is ∙ decided ∙ decides

-- what the table of a key has for it, by its pointer
abbrev found_by : List ℕ → List ℕ → ℕ × ℕ → Finding
found_by file key pointer =
    if pointer.1 == 0 then Absent
    else (if lies_in file pointer.0 (8 * pointer.1) then found_in_slots file key pointer else Broken)

-- what is found among the slots that the pointer names is what is found in the file
pub found_in_slots-reading : (file key : List ℕ) (table slots : ℕ) → true ≡ lies_in file 0 2048 → (let p : ℕ × ℕ = (table, slots) in p ≡ pointer_at file (table_of (hash_of key))) → slots ≢ 0 → true ≡ lies_in file table (8 * slots) → found_in_slots file key (table, slots) ≡ reading file key
found_in_slots-reading file key table slots header pointer some inside =
    let e : eqb slots 0 ≡ false = ne_eqb slots 0 some in
    let here : found_by file key (table, slots) ≡ found_in_slots file key (table, slots) = rw (e, ← inside) refl in
    let there = ap (λ (p : ℕ × ℕ). found_by file key p) pointer in
    let whole : reading file key ≡ found_by file key (pointer_at file (table_of (hash_of key))) = rw (← header) refl in
    sym here ∙ there ∙ sym whole
