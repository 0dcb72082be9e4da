-- Which slots of a compiled file a lookup passes, and what it finds at one that it does not pass.
use Rattle.std.proofs.Common.{◌≡◌, ◌≢◌, ℕ, ◌+◌, ◌==◌, ◌||◌, true, false, not, List, length, take, drop, bytes_eq, inl, inr, refl, sym, ap, ◌∙◌, arith}
use Rattle.std.proofs.lemmas.Bool.{and_from, and_right, or_from, or_right, not_from_true, not_from_false, cases_eq, eq-eqb, false_from_ne_true, le-leb, ne_eqb}
use Rattle.std.proofs.lemmas.Slice.Eq.{bytes_eq-Decides}
use Rattle.rule_lookup.specs.Lookups.Finding.{Has}
use Rattle.cdb_files.specs.Format.{Pair, hash_of, number_at}
use Rattle.cdb_files.specs.Slots.{is_empty}
use Rattle.cdb_files.specs.Reading.{has_other_key, holds_record, is_passed, lies_in, value_at}
use Rattle.cdb_files.proofs.Records.{IsReadAt, IsSlotOf}

-- the same bytes are equal
pub bytes_eq-same : (xs ys : List ℕ) → xs ≡ ys → bytes_eq xs ys ≡ true
bytes_eq-same xs ys same = (bytes_eq-Decides xs ys).1 same

-- and others are not
pub bytes_eq-other : (xs ys : List ℕ) → xs ≢ ys → bytes_eq xs ys ≡ false
bytes_eq-other xs ys other = false_from_ne_true (bytes_eq xs ys) (λ same. other ((bytes_eq-Decides xs ys).0 same))

-- a record that is read lies in the file
holds_record-read : (file : List ℕ) (position : ℕ) (pair : Pair) → IsReadAt file position pair → holds_record file position ≡ true
holds_record-read file position pair read =
    let in_front : lies_in file position 8 ≡ true = le-leb (position + 8) (length file) (omega (arith, read.inside)) in
    let all : lies_in file (position + 8 + number_at file position) (number_at file (position + 4)) ≡ true =
    le-leb (position + 8 + number_at file position + number_at file (position + 4)) (length file) (omega (arith, read.inside, read.key_length, read.value_length)) in
    rw (in_front, all) refl

-- a record with the key does not have another
has_other_key-same : (file key : List ℕ) (position : ℕ) (pair : Pair) → IsReadAt file position pair → pair.key ≡ key → has_other_key file key position ≡ false
has_other_key-same file key position pair read same =
    let held = holds_record-read file position pair read in
    let long : (number_at file position == length key) ≡ true = eq-eqb (number_at file position) (length key) (read.key_length ∙ ap length same) in
    let text : bytes_eq (take (length key) (drop (position + 8) file)) key ≡ true =
    bytes_eq-same (take (length key) (drop (position + 8) file)) key (ap (λ k. take (length k) (drop (position + 8) file)) (sym same) ∙ read.key ∙ same) in
    rw (held, long, text) refl

-- a record with another key has it
has_other_key-other : (file key : List ℕ) (position : ℕ) (pair : Pair) → IsReadAt file position pair → pair.key ≢ key → has_other_key file key position ≡ true
has_other_key-other file key position pair read other =
    let held = holds_record-read file position pair read in
    elim (cases_eq (length pair.key) (length key)) [
      | inl as_long ↦
          let long : (number_at file position == length key) ≡ true = eq-eqb (number_at file position) (length key) (read.key_length ∙ as_long) in
          let bytes : take (length key) (drop (position + 8) file) ≡ pair.key = ap (λ n. take n (drop (position + 8) file)) (sym as_long) ∙ read.key in
          let text : bytes_eq (take (length key) (drop (position + 8) file)) key ≡ false =
          bytes_eq-other (take (length key) (drop (position + 8) file)) key (λ same. other (sym bytes ∙ same)) in
          rw (held, long, text) refl
      | inr not_as_long ↦
          let long : (number_at file position == length key) ≡ false = ne_eqb (number_at file position) (length key) (λ same. not_as_long (sym read.key_length ∙ same)) in
          rw (held, long) refl
    ]

-- a filled slot is not empty
pub is_empty-filled : (slot : ℕ × ℕ) → slot.1 ≢ 0 → is_empty slot ≡ false
is_empty-filled slot filled = ne_eqb slot.1 0 filled

-- the slot of a pair with another key is passed
pub is_passed-other : (file key : List ℕ) (slot : ℕ × ℕ) (pair : Pair) → IsSlotOf file pair slot → pair.key ≢ key → is_passed file key slot ≡ true
is_passed-other file key slot pair of other =
    let filled = is_empty-filled slot of.filled in
    let seen = has_other_key-other file key slot.1 pair of.read other in
    and_from (not (is_empty slot)) (not (slot.0 == hash_of key) || has_other_key file key slot.1)
    (not_from_false (is_empty slot) filled) (or_right (not (slot.0 == hash_of key)) (has_other_key file key slot.1) seen)

-- the slot of a pair with the key is not passed
pub is_passed-same : (file key : List ℕ) (slot : ℕ × ℕ) (pair : Pair) → IsSlotOf file pair slot → pair.key ≡ key → is_passed file key slot ≡ false
is_passed-same file key slot pair of same =
    let hash = eq-eqb slot.0 (hash_of key) (of.hash ∙ ap hash_of same) in
    let seen = has_other_key-same file key slot.1 pair of.read same in
    and_right (not (is_empty slot)) (not (slot.0 == hash_of key) || has_other_key file key slot.1)
    (or_from (not (slot.0 == hash_of key)) (has_other_key file key slot.1) (not_from_true (slot.0 == hash_of key) hash) seen)

-- and there its value is found
pub value_at-same : (file key : List ℕ) (position : ℕ) (pair : Pair) → IsReadAt file position pair → pair.key ≡ key → value_at file key position ≡ Has pair.value
value_at-same file key position pair read same =
    let held = holds_record-read file position pair read in
    let bytes : take (number_at file (position + 4)) (drop (position + 8 + length key) file) ≡ pair.value =
    ap (λ n. take n (drop (position + 8 + length key) file)) read.value_length
    ∙ ap (λ k. take (length pair.value) (drop (position + 8 + length k) file)) (sym same)
    ∙ read.value in
    rw (held, bytes) refl
