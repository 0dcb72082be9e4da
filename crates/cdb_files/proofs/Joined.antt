-- The pieces, joined, are the file that is written.
use Rattle.std.proofs.Common.{◌≡◌, ◌≢◌, ◌⊎◌, ℕ, ◌+◌, ◌*◌, ◌^◌, ◌<◌, ◌≤◌, List, length, get_or, take, sym, ap, ◌∙◌, subst, inl, inr, arith, mod-lt}
use Rattle.std.proofs.lemmas.List.{get_or_default}
use Rattle.std.proofs.lemmas.List.Elements.{All-from_get_or, All-weaker}
use Rattle.std.specs.List.{All, IsAmong, before_first, count_by, position_or_len}
use Rattle.cdb_files.specs.Format.{Pair, entries_of, hash_of}
use Rattle.cdb_files.specs.Image.{finished_length, slots_of}
use Rattle.cdb_files.specs.IsCdb.{IsEarlierFirst}
use Rattle.cdb_files.specs.Slots.{is_same, probe, probe_at, slots_at, table_entries, table_of}
use Rattle.cdb_files.specs.Written.{IsPastEarlier, Written}
use Rattle.cdb_files.proofs.FirstEmpty.{empty}
use Rattle.cdb_files.proofs.Placing.{IsBefore, entry, slots_placed}
use Rattle.cdb_files.proofs.Entries.{hash-entries, length-entries, rising_table}
use Rattle.cdb_files.proofs.Positions.{file_of, header-file, inside-file, length-file, pointer-file, records-file, slots-file}
use Rattle.cdb_files.proofs.Standing.{earlier_lower, entry_of, met_first, passes_earlier, probe_of, stands}

-- the slots of each table in a file are those of its records
abbrev SlotsRead : List ℕ → List Pair → Type 0
SlotsRead file pairs = (t : ℕ) → t < 256 → slots_at file t ≡ slots_of (table_entries t pairs)

-- a probe of the file is a probe of those slots
probe_read : (file : List ℕ) (pairs : List Pair) → SlotsRead file pairs → (hash : ℕ) → probe_at file hash ≡ probe_of pairs hash
probe_read file pairs read hash = ap (probe hash) (read (table_of hash) (mod-lt hash {m = 256} (omega arith)))

-- each slot is empty or holds an entry of the table
slot_holds : (pairs : List Pair) (t : ℕ)
    → All (λ (s : ℕ × ℕ). (s ≡ empty) ⊎ IsBefore (table_entries t pairs) (length (table_entries t pairs)) s) (slots_of (table_entries t pairs))
slot_holds pairs t =
    let es = table_entries t pairs in
    All-from_get_or (λ (s : ℕ × ℕ). (s ≡ empty) ⊎ IsBefore es (length es) s) (slots_of es) empty (slots_placed es (rising_table t pairs)).holds

-- each entry stands in one slot of the file
one_slot-file : (file : List ℕ) (pairs : List Pair) → SlotsRead file pairs
    → All (λ (e : ℕ × ℕ). count_by (is_same e) (slots_at file (table_of e.0)) ≡ 1) (entries_of pairs)
one_slot-file file pairs read =
    All-from_get_or (λ (e : ℕ × ℕ). count_by (is_same e) (slots_at file (table_of e.0)) ≡ 1) (entries_of pairs) empty (λ i l.
    let e = entry_of pairs i in
    ap (count_by (is_same e)) (read (table_of e.0) (mod-lt e.0 {m = 256} (omega arith))) ∙ (stands pairs i l).once)

-- a slot of the file is empty or holds an entry of its table
no_other-file : (file : List ℕ) (pairs : List Pair) → SlotsRead file pairs
    → (t : ℕ) → t < 256 → All (λ (s : ℕ × ℕ). (s.1 ≡ 0) ⊎ IsAmong (table_entries t pairs) s) (slots_at file t)
no_other-file file pairs read t l =
    let es = table_entries t pairs in
    let P : ℕ × ℕ → Type 0 = λ s. (s.1 ≡ 0) ⊎ IsAmong es s in
    subst (All P) (sym (read t l)) (All-weaker (λ (s : ℕ × ℕ). (s ≡ empty) ⊎ IsBefore es (length es) s) P (λ s h. elim h [
      | inl none ↦ inl (ap (λ (x : ℕ × ℕ). x.1) none)
      | inr held ↦ inr (held.0, (held.1, held.2 ∙ get_or_default es held.0 empty s held.1))
    ]) (slots_of es) (slot_holds pairs t))

-- an empty slot of the file has hash 0
zeros-file : (file : List ℕ) (pairs : List Pair) → SlotsRead file pairs
    → (t : ℕ) → t < 256 → All (λ (s : ℕ × ℕ). s.1 ≡ 0 → s.0 ≡ 0) (slots_at file t)
zeros-file file pairs read t l =
    let es = table_entries t pairs in
    let P : ℕ × ℕ → Type 0 = λ s. s.1 ≡ 0 → s.0 ≡ 0 in
    subst (All P) (sym (read t l)) (All-weaker (λ (s : ℕ × ℕ). (s ≡ empty) ⊎ IsBefore es (length es) s) P (λ s h z. elim h [
      | inl none ↦ ap (λ (x : ℕ × ℕ). x.0) none
      | inr held ↦ absurd (omega (arith, z, (rising_table t pairs).above held.0 held.1, ap (λ (x : ℕ × ℕ). x.1) held.2))
    ]) (slots_of es) (slot_holds pairs t))

-- what a look-up passes in the file before an entry are earlier ones
past : (file : List ℕ) (pairs : List Pair) → SlotsRead file pairs → (i : ℕ) → i < length (entries_of pairs)
    → All (IsAmong (take i (entries_of pairs))) (before_first (is_same (entry_of pairs i)) (probe_at file (entry_of pairs i).0))
past file pairs read i l =
    subst (λ (slots : List (ℕ × ℕ)). All (IsAmong (take i (entries_of pairs))) (before_first (is_same (entry_of pairs i)) slots))
    (sym (probe_read file pairs read (entry_of pairs i).0)) (passes_earlier pairs i l)

-- each slot that is passed in the file before a record's own holds an earlier record
past_earlier-file : (file : List ℕ) (pairs : List Pair) → SlotsRead file pairs → IsPastEarlier file pairs
past_earlier-file file pairs read i e l =
    let within : i < length (entries_of pairs) = omega (arith, length-entries pairs) in
    subst (λ (x : ℕ × ℕ). All (IsAmong (take i (entries_of pairs))) (before_first (is_same x) (probe_at file x.0)))
    (get_or_default (entries_of pairs) i empty e within) (past file pairs read i within)

-- no slot passed before an entry is empty
no_gap-file : (file : List ℕ) (pairs : List Pair) → SlotsRead file pairs
    → All (λ (e : ℕ × ℕ). All (λ (s : ℕ × ℕ). s.1 ≢ 0) (before_first (is_same e) (probe_at file e.0))) (entries_of pairs)
no_gap-file file pairs read =
    All-from_get_or (λ (e : ℕ × ℕ). All (λ (s : ℕ × ℕ). s.1 ≢ 0) (before_first (is_same e) (probe_at file e.0))) (entries_of pairs) empty (λ i l.
    All-weaker (IsAmong (take i (entries_of pairs))) (λ (s : ℕ × ℕ). s.1 ≢ 0) (λ s a z. absurd (omega (arith, z, (earlier_lower pairs i s l a).0)))
    (before_first (is_same (entry_of pairs i)) (probe_at file (entry_of pairs i).0)) (past file pairs read i l))

-- of two records with one key the earlier is met first in the file
earlier_first-file : (file : List ℕ) (pairs : List Pair) → SlotsRead file pairs → IsEarlierFirst file pairs
earlier_first-file file pairs read i j p e ij l keys =
    let es = entries_of pairs in
    let size = length-entries pairs in
    let at : ℕ × ℕ → ℕ = λ x. position_or_len (is_same x) (probe_at file x.0) in
    let all : ℕ × ℕ → ℕ = λ x. position_or_len (is_same x) (probe_of pairs x.0) in
    let read_at = λ (x : ℕ × ℕ). ap (position_or_len (is_same x)) (probe_read file pairs read x.0) in
    let same = hash-entries i pairs empty p (omega arith) ∙ ap hash_of keys ∙ sym (hash-entries j pairs empty p l) in
    let met = met_first pairs i j ij (omega (arith, l)) same in
    let first : at (get_or es i e) ≡ all (entry es i) = ap at (get_or_default es i e empty (omega (arith, l))) ∙ read_at (entry es i) in
    let second : at (get_or es j e) ≡ all (entry es j) = ap at (get_or_default es j e empty (omega (arith, l))) ∙ read_at (entry es j) in
    omega (arith, first, second, met)

-- a file with all its tables is the file that is written
pub written : (pairs : List Pair) (n : ℕ) → n ≡ 256 → finished_length pairs < 2 ^ 32 → Written (file_of pairs n) pairs
written pairs n all l =
    let file = file_of pairs n in
    let pointer = λ (t : ℕ) (h : t < 256). pointer-file pairs n t (omega (arith, h, all)) l in
    let read = λ (t : ℕ) (h : t < 256). slots-file pairs n t all (omega (arith, h, all)) l in
    let size = length-file pairs n all in
    record {
      cdb = record {
        fits = omega (arith, size, l);
        header = header-file pairs n all;
        records = records-file pairs n all;
        inside = λ t h. subst (λ (p : ℕ × ℕ). p.0 + 8 * p.1 ≤ length file) (sym (pointer t h)) (inside-file pairs n t all (omega (arith, h, all)));
        one_slot = one_slot-file file pairs read;
        no_other = no_other-file file pairs read;
        no_gap = no_gap-file file pairs read;
        earlier_first = earlier_first-file file pairs read;
      };
      pointers = pointer;
      whole = size;
      zeros = zeros-file file pairs read;
      past_earlier = past_earlier-file file pairs read;
    }
