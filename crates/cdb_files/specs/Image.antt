-- The pieces of the file that is written, and the file that they make.
use Rattle.std.specs.Prelude.{ℕ, ◌+◌, ◌*◌, ◌/◌, ◌%◌, nat_lt, min, max, List, ◌++◌, map, length, set, replicate, flat_map}
use Rattle.std.specs.List.{count_by, fold, position_or_len, range_with_len}
use Rattle.cdb_files.specs.Format.{Pair, entries_of, records_of, two_numbers}
use Rattle.cdb_files.specs.Slots.{is_empty, probe, table_entries, table_of}

-- the first empty slot of a probe
abbrev pub free_slot : ℕ → List (ℕ × ℕ) → ℕ
free_slot hash slots = (hash / 256 + position_or_len is_empty (probe hash slots)) % length slots

-- a record more takes the first empty slot of its probe
abbrev pub with_entry : List (ℕ × ℕ) → ℕ × ℕ → List (ℕ × ℕ)
with_entry slots e = set slots (free_slot e.0 slots) e

-- the slots of the records of one table: twice as many as records, at first all empty
abbrev pub slots_of : List (ℕ × ℕ) → List (ℕ × ℕ)
slots_of entries = fold with_entry (replicate (2 * length entries) (0, 0)) entries

-- a table
abbrev pub table_bytes : List (ℕ × ℕ) → List ℕ
table_bytes entries = flat_map two_numbers (slots_of entries)

-- the length of the records
abbrev pub records_length : List Pair → ℕ
records_length pairs = length (records_of pairs)

-- where a table stands: behind the pointers, the records, and the tables before it
abbrev pub table_position : List Pair → ℕ → ℕ
table_position pairs t =
    2048 + records_length pairs + 16 * count_by (λ (e : ℕ × ℕ). nat_lt (table_of e.0) t) (entries_of pairs)

abbrev pub pointer_of : List Pair → ℕ → ℕ × ℕ
pointer_of pairs t = (table_position pairs t, 2 * length (table_entries t pairs))

abbrev pub pointers_of : List Pair → List (ℕ × ℕ)
pointers_of pairs = map (pointer_of pairs) (range_with_len 0 256)

-- the pointers
abbrev pub header_bytes : List (ℕ × ℕ) → List ℕ
header_bytes pointers = flat_map two_numbers pointers

abbrev pub tables_of : List Pair → List ℕ
tables_of pairs = flat_map (λ t. table_bytes (table_entries t pairs)) (range_with_len 0 256)

-- the file: the pointers, the records in order, and the tables in order
abbrev pub image_of : List Pair → List ℕ
image_of pairs = header_bytes (pointers_of pairs) ++ records_of pairs ++ tables_of pairs

-- its length
abbrev pub finished_length : List Pair → ℕ
finished_length pairs = 2048 + records_length pairs + 16 * length pairs

-- the greatest length that it may have, by a limit: one under 2,048 counts as that, and one over 4,294,967,295 as that
abbrev pub limit_of : ℕ → ℕ
limit_of limit = max 2048 (min limit 4294967295)
