-- Two files of bytes that are written of the same pairs are the same, byte for byte.
use Rattle.std.proofs.Common.{◌≡◌, ℕ, zero, suc, ◌+◌, ◌-◌, ◌*◌, ◌/◌, ◌%◌, ◌<◌, ◌≤◌, List, length, map, get_or, drop, refl, sym, ap, ◌∙◌, subst, inl, inr, arith, mod-lt}
use Rattle.std.proofs.lemmas.Bool.{cases_lt}
use Rattle.std.proofs.lemmas.List.{ext_get_or, get_or-drop, get_or-take}
use Rattle.std.proofs.lemmas.List.Elements.{All-get_or}
use Rattle.std.proofs.lemmas.List.FromFn.{get_or-map-range_with_len}
use Rattle.std.specs.List.{range_with_len}
use Rattle.cdb_files.specs.Format.{Pair, number_at, two_numbers_at}
use Rattle.cdb_files.specs.Image.{records_length, table_position}
use Rattle.cdb_files.specs.Slots.{pointer_at, slots_at, table_entries}
use Rattle.cdb_files.specs.Written.{AreBytes, Written}
use Rattle.cdb_files.proofs.Positions.{table_position-all}
use Rattle.cdb_files.proofs.FirstEmpty.{empty}
use Rattle.cdb_files.proofs.TableLemmas.{table_position-more, table_position-zero}
use Rattle.cdb_files.proofs.Unique.{same_slots}

-- ---- numbers

-- a number tells its four bytes
record Digits (x y z w x' y' z' w' : ℕ) : Type 0 where
  first : x ≡ x'
  second : y ≡ y'
  third : z ≡ z'
  fourth : w ≡ w'

digits : (x y z w x' y' z' w' : ℕ) → x < 256 → y < 256 → z < 256 → w < 256 → x' < 256 → y' < 256 → z' < 256 → w' < 256
    → x + 256 * (y + 256 * (z + 256 * (w + 256 * 0))) ≡ x' + 256 * (y' + 256 * (z' + 256 * (w' + 256 * 0))) → Digits x y z w x' y' z' w'
digits x y z w x' y' z' w' lx ly lz lw lx' ly' lz' lw' same = record { first = omega arith; second = omega arith; third = omega arith; fourth = omega arith }

-- the bytes from a position on
from_position : (file : List ℕ) (position k : ℕ) → get_or (drop position file) k 0 ≡ get_or file (position + k) 0
from_position file position k = get_or-drop position file k 0

byte-lt : (file : List ℕ) (position k : ℕ) → AreBytes file → position + k < length file → get_or (drop position file) k 0 < 256
byte-lt file position k bytes inside = omega (arith, from_position file position k, All-get_or (λ (b : ℕ). b < 256) file (position + k) 0 inside bytes)

four_bytes : (a b : List ℕ) (position : ℕ) → AreBytes a → AreBytes b → position + 4 ≤ length a → position + 4 ≤ length b → number_at a position ≡ number_at b position
    → (k : ℕ) → k < 4 → get_or a (position + k) 0 ≡ get_or b (position + k) 0
four_bytes a b position bytes bytes' inside inside' same = by
  where
    all : Digits (get_or (drop position a) 0 0) (get_or (drop position a) 1 0) (get_or (drop position a) 2 0) (get_or (drop position a) 3 0) (get_or (drop position b) 0 0) (get_or (drop position b) 1 0) (get_or (drop position b) 2 0) (get_or (drop position b) 3 0)
    all = digits _ _ _ _ _ _ _ _
        (byte-lt a position 0 bytes (omega arith)) (byte-lt a position 1 bytes (omega arith)) (byte-lt a position 2 bytes (omega arith)) (byte-lt a position 3 bytes (omega arith))
        (byte-lt b position 0 bytes' (omega arith)) (byte-lt b position 1 bytes' (omega arith)) (byte-lt b position 2 bytes' (omega arith)) (byte-lt b position 3 bytes' (omega arith)) same

    by : (k : ℕ) → k < 4 → get_or a (position + k) 0 ≡ get_or b (position + k) 0
    by zero l = sym (from_position a position 0) ∙ all.first ∙ from_position b position 0
    by (suc zero) l = sym (from_position a position 1) ∙ all.second ∙ from_position b position 1
    by (suc (suc zero)) l = sym (from_position a position 2) ∙ all.third ∙ from_position b position 2
    by (suc (suc (suc zero))) l = sym (from_position a position 3) ∙ all.fourth ∙ from_position b position 3
    by (suc (suc (suc (suc k)))) l = absurd (omega arith)

eight_bytes : (a b : List ℕ) (position : ℕ) → AreBytes a → AreBytes b → position + 8 ≤ length a → position + 8 ≤ length b → two_numbers_at a position ≡ two_numbers_at b position
    → (k : ℕ) → k < 8 → get_or a (position + k) 0 ≡ get_or b (position + k) 0
eight_bytes a b position bytes bytes' inside inside' same k l =
    elim (cases_lt k 4) [
      | inl low ↦ four_bytes a b position bytes bytes' (omega arith) (omega arith) (ap (λ (p : ℕ × ℕ). p.0) same) k low
      | inr high ↦
          let at : position + k ≡ position + 4 + (k - 4) = omega arith in
          ap (λ (n : ℕ). get_or a n 0) at
          ∙ four_bytes a b (position + 4) bytes bytes' (omega arith) (omega arith) (ap (λ (p : ℕ × ℕ). p.1) same) (k - 4) (omega arith)
          ∙ ap (λ (n : ℕ). get_or b n 0) (sym at)
    ]

-- ---- where a byte stands

-- the slots that a pointer names
abbrev slots_from : List ℕ → ℕ × ℕ → List (ℕ × ℕ)
slots_from file p = map (λ (i : ℕ). two_numbers_at file (p.0 + 8 * i)) (range_with_len 0 p.1)

-- the table in which a position lies
record InTable (pairs : List Pair) (k t : ℕ) : Type 0 where
  u : ℕ
  below : u < t
  from : table_position pairs u ≤ k
  to : k < table_position pairs (u + 1)

in_table : (pairs : List Pair) (k t : ℕ) → table_position pairs 0 ≤ k → k < table_position pairs t → InTable pairs k t
in_table pairs k zero from to = absurd (omega (arith, from, to))
in_table pairs k (suc t) from to =
    elim (cases_lt k (table_position pairs t)) [
      | inl before ↦ (let found = in_table pairs k t from before in record { u = found.u; below = omega (arith, found.below); from = found.from; to = found.to })
      | inr here ↦ (let next : suc t ≡ t + 1 = omega arith in record { u = t; below = omega arith; from = here; to = subst (λ (n : ℕ). k < table_position pairs n) next to })
    ]

module _ (pairs : List Pair) (a b : List ℕ) (bytes : AreBytes a) (bytes' : AreBytes b) (wa : Written a pairs) (wb : Written b pairs) where
  in_header : (k : ℕ) → k < 2048 → get_or a k 0 ≡ get_or b k 0
  in_header k l =
      let t = k / 8 in
      let within : t < 256 = omega arith in
      let at : k ≡ 8 * t + k % 8 = omega arith in
      let pointers : pointer_at a t ≡ pointer_at b t = wa.pointers t within ∙ sym (wb.pointers t within) in
      ap (λ (n : ℕ). get_or a n 0) at
      ∙ eight_bytes a b (8 * t) bytes bytes' (omega (arith, wa.cdb.header)) (omega (arith, wb.cdb.header)) pointers (k % 8) (mod-lt k (omega arith))
      ∙ ap (λ (n : ℕ). get_or b n 0) (sym at)

  in_records : (k : ℕ) → 2048 ≤ k → k < 2048 + records_length pairs → get_or a k 0 ≡ get_or b k 0
  in_records k from to =
      let size = records_length pairs in
      let at : 2048 + (k - 2048) ≡ k = omega arith in
      let seen = λ (file : List ℕ). sym (get_or-take size (drop 2048 file) (k - 2048) 0 (omega arith) ∙ get_or-drop 2048 file (k - 2048) 0 ∙ ap (λ (n : ℕ). get_or file n 0) at) in
      seen a ∙ ap (λ (l : List ℕ). get_or l (k - 2048) 0) (wa.cdb.records ∙ sym wb.cdb.records) ∙ sym (seen b)

  in_tables : (k t : ℕ) → t < 256 → table_position pairs t ≤ k → k < table_position pairs (t + 1) → get_or a k 0 ≡ get_or b k 0
  in_tables k t l from to =
      let position = table_position pairs t in
      let offset = k - position in
      let s = offset / 8 in
      let count = 2 * length (table_entries t pairs) in
      let wide = table_position-more pairs t in
      let within : s < count = omega (arith, from, to, wide) in
      let at : k ≡ position + 8 * s + offset % 8 = omega (arith, from) in
      let inside_a = wa.cdb.inside t l in
      let inside_b = wb.cdb.inside t l in
      let pointer_a = wa.pointers t l in
      let pointer_b = wb.pointers t l in
      let end_a : position + 8 * count ≤ length a = omega (arith, inside_a, ap (λ (p : ℕ × ℕ). p.0) pointer_a, ap (λ (p : ℕ × ℕ). p.1) pointer_a) in
      let end_b : position + 8 * count ≤ length b = omega (arith, inside_b, ap (λ (p : ℕ × ℕ). p.0) pointer_b, ap (λ (p : ℕ × ℕ). p.1) pointer_b) in
      let slot_a : get_or (slots_at a t) s empty ≡ two_numbers_at a (position + 8 * s) =
      ap (λ (p : ℕ × ℕ). get_or (slots_from a p) s empty) pointer_a ∙ get_or-map-range_with_len (λ (i : ℕ). two_numbers_at a (position + 8 * i)) 0 count s s empty within (omega arith) in
      let slot_b : get_or (slots_at b t) s empty ≡ two_numbers_at b (position + 8 * s) =
      ap (λ (p : ℕ × ℕ). get_or (slots_from b p) s empty) pointer_b ∙ get_or-map-range_with_len (λ (i : ℕ). two_numbers_at b (position + 8 * i)) 0 count s s empty within (omega arith) in
      let same : two_numbers_at a (position + 8 * s) ≡ two_numbers_at b (position + 8 * s) =
      sym slot_a ∙ ap (λ (slots : List (ℕ × ℕ)). get_or slots s empty) (same_slots pairs a b wa wb t l) ∙ slot_b in
      ap (λ (n : ℕ). get_or a n 0) at
      ∙ eight_bytes a b (position + 8 * s) bytes bytes' (omega (arith, end_a, within)) (omega (arith, end_b, within)) same (offset % 8) (mod-lt offset (omega arith))
      ∙ ap (λ (n : ℕ). get_or b n 0) (sym at)

  at_each : (n k : ℕ) → n ≡ 256 → k < length a → get_or a k 0 ≡ get_or b k 0
  at_each n k e inside =
      elim (cases_lt k 2048) [
        | inl header ↦ in_header k header
        | inr from ↦ elim (cases_lt k (2048 + records_length pairs)) [
          | inl record_here ↦ in_records k from record_here
          | inr past ↦
              let found = in_table pairs k n (omega (arith, past, table_position-zero pairs)) (omega (arith, inside, wa.whole, table_position-all pairs n e)) in
              in_tables k found.u (omega (arith, found.below, e)) found.from found.to
        ]
      ]

  pub same_file : a ≡ b
  same_file = ext_get_or 0 a b (wa.whole ∙ sym wb.whole) (λ k l. at_each 256 k refl l)
