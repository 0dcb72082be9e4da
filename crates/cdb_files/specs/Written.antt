-- The file that is written, by what it holds.
use Rattle.std.specs.Prelude.{◌≡◌, ℕ, ◌<◌, List, length, take, All}
use Rattle.std.specs.List.{IsAmong, before_first}
use Rattle.cdb_files.specs.Format.{Pair, entries_of}
use Rattle.cdb_files.specs.Slots.{is_same, pointer_at, probe_at, slots_at}
use Rattle.cdb_files.specs.IsCdb.{IsCdb, entry_or}
use Rattle.cdb_files.specs.Image.{finished_length, pointer_of}

-- the slots that are passed before that of an entry
abbrev pub slots_passed : List ℕ → ℕ × ℕ → List (ℕ × ℕ)
slots_passed file entry = before_first (is_same entry) (probe_at file entry.0)

-- each slot that is passed before a record's own holds an earlier record
abbrev pub IsPastEarlier : List ℕ → List Pair → Type 0
IsPastEarlier file pairs =
    (i : ℕ) (e : ℕ × ℕ) → i < length pairs
    → All (IsAmong (take i (entries_of pairs))) (slots_passed file (entry_or pairs i e))

pub record Written (file : List ℕ) (pairs : List Pair) : Type 0 where
  pub cdb : IsCdb file pairs
  -- the tables stand in order directly after the records, each with twice as many slots as records
  pub pointers : (t : ℕ) → t < 256 → pointer_at file t ≡ pointer_of pairs t
  pub whole : length file ≡ finished_length pairs
  -- an empty slot is eight zero bytes
  pub zeros : (t : ℕ) → t < 256 → All (λ (s : ℕ × ℕ). s.1 ≡ 0 → s.0 ≡ 0) (slots_at file t)
  pub past_earlier : IsPastEarlier file pairs

-- each of them is a byte
abbrev pub AreBytes : List ℕ → Type 0
AreBytes file = All (λ (byte : ℕ). byte < 256) file
