-- Entries that are held by their tables.
use Rattle.std.specs.Prelude.{◌≡◌, ℕ, ◌+◌, ◌^◌, ◌<◌, List, [], ◌∷◌, ◌++◌, length, slice_index_or}
use Rattle.cdb_files.specs.Format.{Pair, entries_of}
use Rattle.cdb_files.specs.Image.{finished_length, pointers_of, records_length}
use Rattle.cdb_files.specs.Slots.{entries_in}

-- 256 lists hold the entries by their tables, each in order
pub record HoldsByTable (lists : List (List (ℕ × ℕ))) (entries : List (ℕ × ℕ)) : Type 0 where
  pub tables : length lists ≡ 256
  pub each : (t : ℕ) → t < 256 → slice_index_or lists t [] ≡ entries_in t entries

-- 256 lists hold the entries of a file's records by their tables, the first of which stands behind the records
pub record AreTablesOf (pairs : List Pair) (lists : List (List (ℕ × ℕ))) (first : ℕ) : Type 0 where
  pub by_table : HoldsByTable lists (entries_of pairs)
  pub begins : first ≡ 2048 + records_length pairs
  pub fits : finished_length pairs < 2 ^ 32

-- these are the pointers of the file whose tables they are
abbrev pub ArePointers : List (List (ℕ × ℕ)) → ℕ → List (ℕ × ℕ) → Type 0
ArePointers lists first pointers = (pairs : List Pair) → AreTablesOf pairs lists first → pointers ≡ pointers_of pairs

-- lists that hold an entry more, behind those that they held
abbrev pub AddsEntry : ℕ × ℕ → List (List (ℕ × ℕ)) → List (List (ℕ × ℕ)) → Type 0
AddsEntry entry old new =
    (entries : List (ℕ × ℕ)) → HoldsByTable old entries → HoldsByTable new (entries ++ entry ∷ [])
