-- The slots of a table, and the order in which they are probed.
use Rattle.std.specs.Prelude.{ℕ, ◌+◌, ◌*◌, ◌/◌, ◌%◌, ◌==◌, ◌&&◌, Bool, List, ◌++◌, map, length, take, drop}
use Rattle.std.specs.List.{filter, range_with_len}
use Rattle.cdb_files.specs.Format.{Pair, entries_of, two_numbers_at}

-- a slot is empty if its position is 0
abbrev pub is_empty : ℕ × ℕ → Bool
is_empty slot = slot.1 == 0

abbrev pub is_same : ℕ × ℕ → ℕ × ℕ → Bool
is_same entry slot = slot.0 == entry.0 && slot.1 == entry.1

-- the slots in the order in which a hash is looked for: from its first slot upward, and then from the table's first
abbrev pub probe : ℕ → List (ℕ × ℕ) → List (ℕ × ℕ)
probe hash slots = drop (hash / 256 % length slots) slots ++ take (hash / 256 % length slots) slots

-- the table of a hash
abbrev pub table_of : ℕ → ℕ
table_of hash = hash % 256

-- the entries of one table, in order
abbrev pub entries_in : ℕ → List (ℕ × ℕ) → List (ℕ × ℕ)
entries_in t entries = filter (λ (e : ℕ × ℕ). table_of e.0 == t) entries

-- the slots that stand for the records of a table, in the order of the records
abbrev pub table_entries : ℕ → List Pair → List (ℕ × ℕ)
table_entries t pairs = entries_in t (entries_of pairs)

-- the pointer of a table in a file: where it stands, and how many slots it has
abbrev pub pointer_at : List ℕ → ℕ → ℕ × ℕ
pointer_at file t = two_numbers_at file (8 * t)

-- the slots of a table in a file
abbrev pub slots_at : List ℕ → ℕ → List (ℕ × ℕ)
slots_at file t =
    map (λ i. two_numbers_at file ((pointer_at file t).0 + 8 * i)) (range_with_len 0 (pointer_at file t).1)

-- the slots of a file in the order in which a hash is looked for
abbrev pub probe_at : List ℕ → ℕ → List (ℕ × ℕ)
probe_at file hash = probe hash (slots_at file (table_of hash))
