-- What every compiled file of some pairs holds, whoever wrote it.
use Rattle.std.specs.Prelude.{◌≡◌, ◌≢◌, ◌⊎◌, ℕ, ◌+◌, ◌*◌, ◌^◌, ◌<◌, ◌≤◌, List, length, take, drop, get_or, All}
use Rattle.std.specs.List.{IsAmong, before_first, count_by, position_or_len}
use Rattle.cdb_files.specs.Format.{Pair, entries_of, records_of}
use Rattle.cdb_files.specs.Slots.{is_same, pointer_at, probe_at, slots_at, table_entries, table_of}

-- the entry at a position, or another if there is none
abbrev pub entry_or : List Pair → ℕ → ℕ × ℕ → ℕ × ℕ
entry_or pairs i other = get_or (entries_of pairs) i other

-- how many slots are passed before that of an entry
abbrev pub probe_length : List ℕ → ℕ × ℕ → ℕ
probe_length file entry = position_or_len (is_same entry) (probe_at file entry.0)

-- of two records with one key the earlier is met first
abbrev pub IsEarlierFirst : List ℕ → List Pair → Type 0
IsEarlierFirst file pairs =
    (i j : ℕ) (p : Pair) (e : ℕ × ℕ) → i < j → j < length pairs → (get_or pairs i p).key ≡ (get_or pairs j p).key
    → probe_length file (entry_or pairs i e) < probe_length file (entry_or pairs j e)

pub record IsCdb (file : List ℕ) (pairs : List Pair) : Type 0 where
  -- numbers reach each position of the file, and the pointers are there
  pub fits : length file < 2 ^ 32
  pub header : 2048 ≤ length file
  -- the records stand after the pointers, in order
  pub records : take (length (records_of pairs)) (drop 2048 file) ≡ records_of pairs
  -- each table lies inside the file
  pub inside : (t : ℕ) → t < 256 → (pointer_at file t).0 + 8 * (pointer_at file t).1 ≤ length file
  -- each record stands in exactly one slot, in the table that its hash names
  pub one_slot : All (λ (e : ℕ × ℕ). count_by (is_same e) (slots_at file (table_of e.0)) ≡ 1) (entries_of pairs)
  -- and all other slots are empty
  pub no_other : (t : ℕ) → t < 256 → All (λ (s : ℕ × ℕ). (s.1 ≡ 0) ⊎ IsAmong (table_entries t pairs) s) (slots_at file t)
  -- from a record's first slot to its own no slot is empty
  pub no_gap : All (λ (e : ℕ × ℕ). All (λ (s : ℕ × ℕ). s.1 ≢ 0) (before_first (is_same e) (probe_at file e.0))) (entries_of pairs)
  pub earlier_first : IsEarlierFirst file pairs
