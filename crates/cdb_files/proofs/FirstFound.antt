-- A lookup in a compiled file finds the first pair with the key, and nothing where no pair has it.
use Rattle.std.proofs.Common.{◌≡◌, ◌≢◌, ◌⊎◌, ℕ, ◌+◌, ◌*◌, ◌<◌, ◌≤◌, ◌==◌, Bool, true, false, not, List, [], length, get_or, All, Option, Some, None, IfSome, find, bytes_eq, count_by, inl, inr, refl, sym, ap, ◌∙◌, subst, arith, mod-lt}
use Rattle.std.specs.List.{before_first, position_or_len}
use Rattle.std.proofs.lemmas.Bool.{cases_eq, cases_order, eq-eqb, le-leb, ne_eqb, not_from_false, not_from_true, not-true, both_ways}
use Rattle.std.proofs.lemmas.List.{get_or-take, get_or_default, length-take-le}
use Rattle.std.proofs.lemmas.List.Sums.{fails_before_first, passes_at_first}
use Rattle.rule_lookup.specs.Lookups.Finding.{Has, Absent}
use Rattle.cdb_files.specs.Format.{Pair, entries_of, hash_of}
use Rattle.cdb_files.specs.IsCdb.{IsCdb}
use Rattle.cdb_files.specs.Slots.{is_empty, is_same, pointer_at, probe_at, slots_at, table_of}
use Rattle.cdb_files.specs.Reading.{found_at, is_passed, lies_in, reading, value_at}
use Rattle.cdb_files.proofs.Passing.{is_empty-filled, is_passed-other, is_passed-same, value_at-same}
use Rattle.cdb_files.proofs.Probing.{All-probe, Contains-from_filter, IfSome-find, count_by-probe, find-first, is_same-itself, is_same-true, length-probe_at, position-below, position-le}
use Rattle.cdb_files.proofs.Records.{IsSlotOf, entry_is, length-entries_from}

-- what a read past the end would give
abbrev pub no_pair : Pair
no_pair = record { key = []; value = [] }

-- a pair, by its number
abbrev pub pair_at : List Pair → ℕ → Pair
pair_at pairs i = get_or pairs i no_pair

-- and its entry
abbrev pub entry_at : List Pair → ℕ → ℕ × ℕ
entry_at pairs i = get_or (entries_of pairs) i (0, 0)

-- the slots in the order in which a key is looked for
abbrev pub order_of : List ℕ → List ℕ → List (ℕ × ℕ)
order_of file key = probe_at file (hash_of key)

-- a slot that is not passed
abbrev pub stops : List ℕ → List ℕ → ℕ × ℕ → Bool
stops file key slot = not (is_passed file key slot)

-- a pair with a key
abbrev pub has_key : List ℕ → Pair → Bool
has_key key pair = bytes_eq pair.key key

-- a slot is empty, or it is the entry of a pair
abbrev pub IsKnown : List Pair → ℕ × ℕ → Type 0
IsKnown pairs slot = (slot.1 ≡ 0) ⊎ ((j : ℕ) × (j < length pairs) × (slot ≡ entry_at pairs j))

-- each slot that a probe meets is
known : (file : List ℕ) (pairs : List Pair) → IsCdb file pairs → (key : List ℕ) → All (IsKnown pairs) (order_of file key)
known file pairs cdb key =
    let table = table_of (hash_of key) in
    All-probe (IsKnown pairs) (hash_of key) (slots_at file table) (λ k d inside.
    elim (cdb.no_other table (mod-lt (hash_of key) (omega arith)) k d inside) [
      | inl empty ↦ inl empty
      | inr among ↦
          let slot = get_or (slots_at file table) k d in
          let (j, below, is) = Contains-from_filter (λ (e : ℕ × ℕ). table_of e.0 == table) (entries_of pairs) slot among in
          inr (j, omega (arith, length-entries_from pairs 2048), sym is ∙ get_or_default (entries_of pairs) j slot (0, 0) below)
    ])

-- where no pair has the key, a lookup stops at an empty slot alone
empty_where_stops : (file : List ℕ) (pairs : List Pair) → IsCdb file pairs → (key : List ℕ) → ((j : ℕ) → j < length pairs → (pair_at pairs j).key ≢ key)
    → All (λ slot. stops file key slot ≡ true → is_empty slot ≡ true) (order_of file key)
empty_where_stops file pairs cdb key other k d inside stopped =
    let slot = get_or (order_of file key) k d in
    elim (known file pairs cdb key k d inside) [
      | inl empty ↦ eq-eqb slot.1 0 empty
      | inr (j, below, is) ↦
          let of = subst (IsSlotOf file (pair_at pairs j)) (sym is) (entry_is file pairs cdb j no_pair (0, 0) below) in
          absurd (both_ways (is_passed file key slot) (not-true (is_passed file key slot) stopped) (is_passed-other file key slot (pair_at pairs j) of (other j below)))
    ]

-- so it finds none
found_at-empty : (file key : List ℕ) (found : Option (ℕ × ℕ)) → IfSome found (λ slot. is_empty slot ≡ true) → found_at file key found ≡ Absent
found_at-empty file key None empty = refl
found_at-empty file key (Some slot) empty = rw empty refl

-- a lookup in a compiled file looks in the table, if that has slots
reading-table : (file : List ℕ) (pairs : List Pair) → IsCdb file pairs → (key : List ℕ) → (pointer_at file (table_of (hash_of key))).1 ≢ 0
    → reading file key ≡ found_at file key (find (stops file key) (order_of file key))
reading-table file pairs cdb key filled =
    let table = table_of (hash_of key) in
    let pointer = pointer_at file table in
    let header : lies_in file 0 2048 ≡ true = le-leb 2048 (length file) cdb.header in
    let slots : (pointer.1 == 0) ≡ false = ne_eqb pointer.1 0 filled in
    let inside : lies_in file pointer.0 (8 * pointer.1) ≡ true =
    le-leb (pointer.0 + 8 * pointer.1) (length file) (cdb.inside table (mod-lt (hash_of key) (omega arith))) in
    rw (header, slots, inside) refl

-- and finds none if it has no slots
reading-no_table : (file : List ℕ) (pairs : List Pair) → IsCdb file pairs → (key : List ℕ) → (pointer_at file (table_of (hash_of key))).1 ≡ 0
    → reading file key ≡ Absent
reading-no_table file pairs cdb key empty =
    let table = table_of (hash_of key) in
    let pointer = pointer_at file table in
    let header : lies_in file 0 2048 ≡ true = le-leb 2048 (length file) cdb.header in
    let slots : (pointer.1 == 0) ≡ true = eq-eqb pointer.1 0 empty in
    rw (header, slots) refl

-- where no pair has the key, none is found
pub reading-absent : (file : List ℕ) (pairs : List Pair) → IsCdb file pairs → (key : List ℕ) → ((j : ℕ) → j < length pairs → (pair_at pairs j).key ≢ key)
    → reading file key ≡ Absent
reading-absent file pairs cdb key other = elim (cases_eq (pointer_at file (table_of (hash_of key))).1 0) [
  | inl empty ↦ reading-no_table file pairs cdb key empty
  | inr filled ↦
      reading-table file pairs cdb key filled
      ∙ found_at-empty file key (find (stops file key) (order_of file key))
      (IfSome-find (stops file key) (λ slot. is_empty slot ≡ true) (order_of file key) (empty_where_stops file pairs cdb key other))
]

-- the entry of a pair with a key has the hash of the key
entry-hash : (file : List ℕ) (pairs : List Pair) → IsCdb file pairs → (key : List ℕ) (i : ℕ) → i < length pairs → (pair_at pairs i).key ≡ key
    → (entry_at pairs i).0 ≡ hash_of key
entry-hash file pairs cdb key i inside same =
    let of = entry_is file pairs cdb i no_pair (0, 0) inside in
    of.hash ∙ ap hash_of same

-- where a probe for a key first meets an entry
abbrev pub met_at : List ℕ → List ℕ → ℕ × ℕ → ℕ
met_at file key entry = position_or_len (is_same entry) (order_of file key)

-- it meets the entry of a pair with the key
entry-met : (file : List ℕ) (pairs : List Pair) → IsCdb file pairs → (key : List ℕ) (i : ℕ) → i < length pairs → (pair_at pairs i).key ≡ key
    → met_at file key (entry_at pairs i) < length (order_of file key)
entry-met file pairs cdb key i inside same =
    let entry = entry_at pairs i in
    let hash = entry-hash file pairs cdb key i inside same in
    let once : count_by (is_same entry) (slots_at file (table_of entry.0)) ≡ 1 = cdb.one_slot i (0, 0) (omega (arith, length-entries_from pairs 2048)) in
    let here : count_by (is_same entry) (slots_at file (table_of (hash_of key))) ≡ 1 =
    subst (λ h. count_by (is_same entry) (slots_at file (table_of h)) ≡ 1) hash once in
    position-below (is_same entry) (order_of file key) (omega (arith, count_by-probe (is_same entry) (hash_of key) (slots_at file (table_of (hash_of key)))))

-- of two pairs with the key it meets the earlier first
entry-earlier : (file : List ℕ) (pairs : List Pair) → IsCdb file pairs → (key : List ℕ) (i j : ℕ) → i < j → j < length pairs
    → (pair_at pairs i).key ≡ key → (pair_at pairs j).key ≡ key → met_at file key (entry_at pairs i) < met_at file key (entry_at pairs j)
entry-earlier file pairs cdb key i j rising inside first second =
    let met = cdb.earlier_first i j no_pair (0, 0) rising inside (first ∙ sym second) in
    let left = entry-hash file pairs cdb key i (omega arith) first in
    let right = entry-hash file pairs cdb key j inside second in
    let moved = subst (λ h. position_or_len (is_same (entry_at pairs i)) (probe_at file h) < position_or_len (is_same (entry_at pairs j)) (probe_at file (entry_at pairs j).0)) left met in
    subst (λ h. met_at file key (entry_at pairs i) < position_or_len (is_same (entry_at pairs j)) (probe_at file h)) right moved

-- and no empty slot before
entry-no_gap : (file : List ℕ) (pairs : List Pair) → IsCdb file pairs → (key : List ℕ) (i : ℕ) → i < length pairs → (pair_at pairs i).key ≡ key
    → (k : ℕ) (d : ℕ × ℕ) → k < met_at file key (entry_at pairs i) → (get_or (order_of file key) k d).1 ≢ 0
entry-no_gap file pairs cdb key i inside same k d before =
    let entry = entry_at pairs i in
    let order = order_of file key in
    let hash = entry-hash file pairs cdb key i inside same in
    let all : All (λ s. s.1 ≢ 0) (before_first (is_same entry) (probe_at file entry.0)) = cdb.no_gap i (0, 0) (omega (arith, length-entries_from pairs 2048)) in
    let here : All (λ s. s.1 ≢ 0) (before_first (is_same entry) order) = subst (λ h. All (λ s. s.1 ≢ 0) (before_first (is_same entry) (probe_at file h))) hash all in
    let met = entry-met file pairs cdb key i inside same in
    let below : k < length (before_first (is_same entry) order) = omega (arith, length-take-le (met_at file key entry) order (omega arith)) in
    subst (λ s. s.1 ≢ 0) (get_or-take (met_at file key entry) order k d before) (here k d below)

-- the slots that a probe meets before the first pair with the key are of pairs with other keys
before_first-other : (file : List ℕ) (pairs : List Pair) → IsCdb file pairs → (key : List ℕ) (i : ℕ) → i < length pairs → (pair_at pairs i).key ≡ key
    → ((j : ℕ) → j < i → (pair_at pairs j).key ≢ key)
    → (k j : ℕ) (d : ℕ × ℕ) → k < met_at file key (entry_at pairs i) → j < length pairs → get_or (order_of file key) k d ≡ entry_at pairs j → (pair_at pairs j).key ≢ key
before_first-other file pairs cdb key i inside same first k j d before below is second =
    let order = order_of file key in
    let here : is_same (entry_at pairs j) (get_or order k d) ≡ true = subst (λ s. is_same (entry_at pairs j) s ≡ true) (sym is) (is_same-itself (entry_at pairs j)) in
    let late : met_at file key (entry_at pairs j) ≤ k = position-le (is_same (entry_at pairs j)) order k d here in
    elim (cases_order i j) [
      | inl one ↦
          let unmet = fails_before_first (is_same (entry_at pairs i)) order k d before in
          both_ways (is_same (entry_at pairs i) (get_or order k d)) unmet (subst (λ n. is_same (entry_at pairs n) (get_or order k d) ≡ true) (sym one) here)
      | inr (inl later) ↦
          let met = entry-earlier file pairs cdb key i j later below same second in
          absurd (omega arith)
      | inr (inr earlier) ↦ first j earlier second
    ]

-- so a lookup passes them
passes_before : (file : List ℕ) (pairs : List Pair) → IsCdb file pairs → (key : List ℕ) (i : ℕ) → i < length pairs → (pair_at pairs i).key ≡ key
    → ((j : ℕ) → j < i → (pair_at pairs j).key ≢ key)
    → (k : ℕ) → k < met_at file key (entry_at pairs i) → stops file key (get_or (order_of file key) k (0, 0)) ≡ false
passes_before file pairs cdb key i inside same first k before =
    let slot = get_or (order_of file key) k (0, 0) in
    let met = entry-met file pairs cdb key i inside same in
    elim (known file pairs cdb key k (0, 0) (omega arith)) [
      | inl empty ↦ absurd (entry-no_gap file pairs cdb key i inside same k (0, 0) before empty)
      | inr (j, below, is) ↦
          let of = subst (IsSlotOf file (pair_at pairs j)) (sym is) (entry_is file pairs cdb j no_pair (0, 0) below) in
          let other = before_first-other file pairs cdb key i inside same first k j (0, 0) before below is in
          not_from_true (is_passed file key slot) (is_passed-other file key slot (pair_at pairs j) of other)
    ]

-- and stops at the entry
find-entry : (file : List ℕ) (pairs : List Pair) → IsCdb file pairs → (key : List ℕ) (i : ℕ) → i < length pairs → (pair_at pairs i).key ≡ key
    → ((j : ℕ) → j < i → (pair_at pairs j).key ≢ key)
    → find (stops file key) (order_of file key) ≡ Some (entry_at pairs i)
find-entry file pairs cdb key i inside same first =
    let entry = entry_at pairs i in
    let order = order_of file key in
    let k = met_at file key entry in
    let met = entry-met file pairs cdb key i inside same in
    let is : get_or order k (0, 0) ≡ entry = is_same-true entry (get_or order k (0, 0)) (passes_at_first (is_same entry) order (0, 0) met) in
    let of = entry_is file pairs cdb i no_pair (0, 0) inside in
    let stopped : stops file key entry ≡ true = not_from_false (is_passed file key entry) (is_passed-same file key entry (pair_at pairs i) of same) in
    find-first (stops file key) order k (0, 0) met (passes_before file pairs cdb key i inside same first) (subst (λ s. stops file key s ≡ true) (sym is) stopped)
    ∙ ap Some is

-- the value of the first pair with the key is found
pub reading-first : (file : List ℕ) (pairs : List Pair) → IsCdb file pairs → (key : List ℕ) (i : ℕ) → i < length pairs → (pair_at pairs i).key ≡ key
    → ((j : ℕ) → j < i → (pair_at pairs j).key ≢ key)
    → reading file key ≡ Has (pair_at pairs i).value
reading-first file pairs cdb key i inside same first =
    let entry = entry_at pairs i in
    let of = entry_is file pairs cdb i no_pair (0, 0) inside in
    let met = entry-met file pairs cdb key i inside same in
    let filled : (pointer_at file (table_of (hash_of key))).1 ≢ 0 = λ none. absurd (omega (arith, length-probe_at file (hash_of key))) in
    let there : found_at file key (Some entry) ≡ value_at file key entry.1 = rw (is_empty-filled entry of.filled) refl in
    reading-table file pairs cdb key filled ∙ ap (found_at file key) (find-entry file pairs cdb key i inside same first) ∙ there
    ∙ value_at-same file key entry.1 (pair_at pairs i) of.read same
