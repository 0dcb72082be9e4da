-- Where the parts of a file stand, and what is read there.
use Rattle.std.proofs.Common.{◌≡◌, ℕ, zero, suc, ◌+◌, ◌-◌, ◌*◌, ◌^◌, ◌<◌, ◌≤◌, Bool, true, cond, eqb, List, [], ◌∷◌, ◌++◌, length, map, take, drop, refl, sym, ap, ◌∙◌, subst, inl, inr, arith, append_assoc, length-append, mod-lt}
use Rattle.std.specs.Prelude.{nat_lt}
use Rattle.std.proofs.lemmas.Bool.{le-ltb, lt-ltb}
use Rattle.std.proofs.lemmas.Bool.Decides.{nat_tests}
use Rattle.std.proofs.lemmas.List.{drop_at, take_at}
use Rattle.std.proofs.lemmas.List.Concat.{flat_map-append}
use Rattle.std.proofs.lemmas.List.FromFn.{fill_by_all, get_or-map-range_with_len, length-map-range_with_len}
use Rattle.std.proofs.lemmas.List.Sums.{count_by-le-length, length-filter, sum_by-cons}
use Rattle.std.specs.List.{count_by, flat_map, range_with_len}
use Rattle.cdb_files.specs.Format.{Pair, entries_of, records_of, two_numbers_at}
use Rattle.cdb_files.specs.Image.{finished_length, header_bytes, pointer_of, slots_of, table_bytes, table_position}
use Rattle.cdb_files.specs.Slots.{pointer_at, slots_at, table_entries, table_of}
use Rattle.cdb_files.proofs.FirstEmpty.{count_by-none, empty}
use Rattle.cdb_files.proofs.Placing.{entry, slots_placed}
use Rattle.cdb_files.proofs.Entries.{AreFit, fit_table, length-entries, rising_table}
use Rattle.cdb_files.proofs.Reading.{length-two_numbers, reads_nth}

-- the bytes of a table
abbrev pub table_in : List Pair → ℕ → List ℕ
table_in pairs t = table_bytes (table_entries t pairs)

-- the pointers of a file with n tables (n is 256, which as a variable does not compute)
abbrev pub header_of : List Pair → ℕ → List ℕ
header_of pairs n = header_bytes (map (pointer_of pairs) (range_with_len 0 n))

-- the whole file with n tables
abbrev pub file_of : List Pair → ℕ → List ℕ
file_of pairs n = header_of pairs n ++ records_of pairs ++ flat_map (table_in pairs) (range_with_len 0 n)

-- a range is its front and its rest
range_split : (a m n b k : ℕ) → k ≡ m + n → b ≡ a + m → range_with_len a k ≡ range_with_len a m ++ range_with_len b n
range_split a zero n b k e f =
    let c : k ≡ n = omega arith in
    let d : a ≡ b = omega arith in
    ap (range_with_len a) c ∙ ap (λ (g : ℕ). range_with_len g n) d
range_split a (suc m) n b k e f =
    let c : k ≡ suc (m + n) = omega arith in
    ap (range_with_len a) c ∙ ap (λ (r : List ℕ). a ∷ r) (range_split (a + 1) m n b (m + n) refl (omega arith))

-- one number is below t + 1, below t or t
one_below : (a t : ℕ) → cond (nat_lt a (suc t)) 1 0 ≡ cond (nat_lt a t) 1 0 + cond (eqb a t) 1 0
one_below a t = grind (arith, nat_tests)

-- below t + 1 stand those below t and those at t
count_by-below : (t : ℕ) (es : List (ℕ × ℕ))
    → count_by (λ (e : ℕ × ℕ). nat_lt (table_of e.0) (suc t)) es ≡ count_by (λ (e : ℕ × ℕ). nat_lt (table_of e.0) t) es + count_by (λ (e : ℕ × ℕ). eqb (table_of e.0) t) es
count_by-below t [] = refl
count_by-below t (e ∷ es) =
    let all = sum_by-cons (λ (x : ℕ × ℕ). cond (nat_lt (table_of x.0) (suc t)) 1 0) e es in
    let below = sum_by-cons (λ (x : ℕ × ℕ). cond (nat_lt (table_of x.0) t) 1 0) e es in
    let same = sum_by-cons (λ (x : ℕ × ℕ). cond (eqb (table_of x.0) t) 1 0) e es in
    omega (arith, all, below, same, one_below (table_of e.0) t, count_by-below t es)

-- a table has 16 bytes for each of its records
length-table : (pairs : List Pair) (t : ℕ) → length (table_in pairs t) ≡ 16 * length (table_entries t pairs)
length-table pairs t =
    let slots = slots_of (table_entries t pairs) in
    omega (arith, length-two_numbers slots, (slots_placed (table_entries t pairs) (rising_table t pairs)).size)

-- how long the tables before a table are
length-tables : (pairs : List Pair) (t : ℕ)
    → length (flat_map (table_in pairs) (range_with_len 0 t)) ≡ 16 * count_by (λ (e : ℕ × ℕ). nat_lt (table_of e.0) t) (entries_of pairs)
length-tables pairs zero =
    let none = count_by-none (λ (e : ℕ × ℕ). nat_lt (table_of e.0) 0) (entries_of pairs) (λ k l. le-ltb _ 0 (omega arith)) in
    omega (arith, none)
length-tables pairs (suc t) =
    let f = table_in pairs in
    let front = flat_map f (range_with_len 0 t) in
    let split = ap (flat_map f) (range_split 0 t 1 t (suc t) (omega arith) (omega arith)) ∙ flat_map-append f (range_with_len 0 t) (t ∷ []) in
    let kept = length-filter (λ (e : ℕ × ℕ). eqb (table_of e.0) t) (entries_of pairs) in
    omega (arith, ap length split, length-append front (f t ++ []), length-append (f t) [], length-tables pairs t, length-table pairs t, count_by-below t (entries_of pairs), kept)

-- every record has a table
count_by-all : (n : ℕ) (es : List (ℕ × ℕ)) → n ≡ 256 → count_by (λ (e : ℕ × ℕ). nat_lt (table_of e.0) n) es ≡ length es
count_by-all n [] e = refl
count_by-all n (x ∷ es) e =
    let test : nat_lt (table_of x.0) n ≡ true = lt-ltb (table_of x.0) n (omega (arith, mod-lt x.0 {m = 256} (omega arith))) in
    let count : ℕ × ℕ → ℕ = λ s. cond (nat_lt (table_of s.0) n) 1 0 in
    let one : count x ≡ 1 = ap (λ (b : Bool). cond b 1 0) test in
    omega (arith, sum_by-cons count x es, one, count_by-all n es e)

-- behind all tables the file ends
pub table_position-all : (pairs : List Pair) (n : ℕ) → n ≡ 256 → table_position pairs n ≡ finished_length pairs
table_position-all pairs n e = omega (arith, count_by-all n (entries_of pairs) e, length-entries pairs)

-- how long the header is
length-header : (pairs : List Pair) (n : ℕ) → length (header_of pairs n) ≡ 8 * n
length-header pairs n = length-two_numbers (map (pointer_of pairs) (range_with_len 0 n)) ∙ ap (λ (k : ℕ). 8 * k) (length-map-range_with_len (pointer_of pairs) 0 n)

-- how long the file is
pub length-file : (pairs : List Pair) (n : ℕ) → n ≡ 256 → length (file_of pairs n) ≡ finished_length pairs
length-file pairs n e =
    let header = header_of pairs n in
    let records = records_of pairs in
    let tables = flat_map (table_in pairs) (range_with_len 0 n) in
    omega (arith, length-append (header ++ records) tables, length-append header records, length-header pairs n, length-tables pairs n, count_by-all n (entries_of pairs) e, length-entries pairs)

-- the header is there
pub header-file : (pairs : List Pair) (n : ℕ) → n ≡ 256 → 2048 ≤ length (file_of pairs n)
header-file pairs n e = omega (arith, length-file pairs n e)

-- the records are there
pub records-file : (pairs : List Pair) (n : ℕ) → n ≡ 256 → take (length (records_of pairs)) (drop 2048 (file_of pairs n)) ≡ records_of pairs
records-file pairs n e =
    let header = header_of pairs n in
    let records = records_of pairs in
    let tables = flat_map (table_in pairs) (range_with_len 0 n) in
    ap (λ (file : List ℕ). take (length records) (drop 2048 file)) (append_assoc header records tables)
    ∙ ap (take (length records)) (drop_at header (records ++ tables) 2048 (omega (arith, length-header pairs n)))
    ∙ take_at records tables (length records) refl

-- a table between what stands before and after it
record Split (pairs : List Pair) (n t : ℕ) : Type 0 where
  before : List ℕ
  rest : List ℕ
  joined : file_of pairs n ≡ before ++ (table_in pairs t ++ rest)
  position : length before ≡ table_position pairs t

-- the file is what stands before a table, the table, and the rest
split_at : (pairs : List Pair) (n t : ℕ) → n ≡ 256 → t < n → Split pairs n t
split_at pairs n t e l =
    let f = table_in pairs in
    let header = header_of pairs n in
    let records = records_of pairs in
    let front = flat_map f (range_with_len 0 t) in
    let rest = flat_map f (range_with_len (t + 1) (n - t - 1)) in
    let split = ap (flat_map f) (range_split 0 t (suc (n - t - 1)) t n (omega arith) (omega arith))
    ∙ flat_map-append f (range_with_len 0 t) (t ∷ range_with_len (t + 1) (n - t - 1)) in
    record {
      before = header ++ records ++ front;
      rest = rest;
      joined = ap (λ (r : List ℕ). header ++ records ++ r) split ∙ sym (append_assoc (header ++ records) front (f t ++ rest));
      position = omega (arith, length-append (header ++ records) front, length-append header records, length-header pairs n, length-tables pairs t);
    }

-- a table ends inside the file
pub inside-file : (pairs : List Pair) (n t : ℕ) → n ≡ 256 → t < n → (pointer_of pairs t).0 + 8 * (pointer_of pairs t).1 ≤ length (file_of pairs n)
inside-file pairs n t e l =
    let s = split_at pairs n t e l in
    omega (arith, ap length s.joined, length-append s.before (table_in pairs t ++ s.rest), length-append (table_in pairs t) s.rest, length-table pairs t, s.position)

-- a pointer fits
fit_pointer : (pairs : List Pair) (t : ℕ) → finished_length pairs < 2 ^ 32 → AreFit (pointer_of pairs t)
fit_pointer pairs t l =
    let es = entries_of pairs in
    let test : ℕ × ℕ → Bool = λ e. eqb (table_of e.0) t in
    let before = count_by-le-length (λ (e : ℕ × ℕ). nat_lt (table_of e.0) t) es in
    let here = count_by-le-length test es in
    let size = length-filter test es in
    let all = length-entries pairs in
    ((omega arith), (omega arith))

-- a pointer is read back
pub pointer-file : (pairs : List Pair) (n t : ℕ) → t < n → finished_length pairs < 2 ^ 32 → pointer_at (file_of pairs n) t ≡ pointer_of pairs t
pointer-file pairs n t h l =
    let pointers = map (pointer_of pairs) (range_with_len 0 n) in
    let header = header_of pairs n in
    let records = records_of pairs in
    let tables = flat_map (table_in pairs) (range_with_len 0 n) in
    let size = length-map-range_with_len (pointer_of pairs) 0 n in
    let at = λ (k : ℕ) (m : k < n). get_or-map-range_with_len (pointer_of pairs) 0 n k k empty m (omega arith) in
    let position : 8 * t ≡ 0 + 8 * t = omega arith in
    ap (λ (file : List ℕ). two_numbers_at file (8 * t)) (append_assoc header records tables)
    ∙ ap (two_numbers_at (header ++ (records ++ tables))) position
    ∙ reads_nth pointers [] (records ++ tables) t (λ k m. subst AreFit (sym (at k (omega (arith, size)))) (fit_pointer pairs k l)) (omega (arith, size))
    ∙ at t h

-- the slots of a table fit
fit_slots : (pairs : List Pair) (t k : ℕ) → finished_length pairs < 2 ^ 32 → k < length (slots_of (table_entries t pairs)) → AreFit (entry (slots_of (table_entries t pairs)) k)
fit_slots pairs t k l h =
    let placed = slots_placed (table_entries t pairs) (rising_table t pairs) in
    let zeros : AreFit empty = ((omega arith), (omega arith)) in
    elim (placed.holds k h) [
      | inl none ↦ subst AreFit (sym none) zeros
      | inr held ↦ subst AreFit (sym held.2) (fit_table t pairs l held.0 empty held.1)
    ]

-- the slots of a table are read back
pub slots-file : (pairs : List Pair) (n t : ℕ) → n ≡ 256 → t < n → finished_length pairs < 2 ^ 32 → slots_at (file_of pairs n) t ≡ slots_of (table_entries t pairs)
slots-file pairs n t e h l =
    let file = file_of pairs n in
    let position = table_position pairs t in
    let slots = slots_of (table_entries t pairs) in
    let size = (slots_placed (table_entries t pairs) (rising_table t pairs)).size in
    let s = split_at pairs n t e h in
    let at = λ (k : ℕ) (m : k < 2 * length (table_entries t pairs)).
    ap (λ (g : List ℕ). two_numbers_at g (position + 8 * k)) s.joined
    ∙ ap (λ (b : ℕ). two_numbers_at (s.before ++ (table_in pairs t ++ s.rest)) (b + 8 * k)) (sym s.position)
    ∙ reads_nth slots s.before s.rest k (λ i j. fit_slots pairs t i l j) (omega (arith, size)) in
    ap (λ (p : ℕ × ℕ). map (λ (i : ℕ). two_numbers_at file (p.0 + 8 * i)) (range_with_len 0 p.1)) (pointer-file pairs n t h l)
    ∙ sym (fill_by_all (λ (i : ℕ). two_numbers_at file (position + 8 * i)) slots (2 * length (table_entries t pairs)) empty size (λ k m. sym (at k m)))
