-- The layout of records, as they are made.
use Rattle.std.specs.Prelude.{◌≡◌, ◌+◌, ◌^◌, ◌<◌, ◌≤◌, ℕ, List, length, take}
use Rattle.cdb_files.specs.Format.{Pair, entries_of}
use Rattle.cdb_files.specs.Image.{finished_length, records_length}
use Rattle.cdb_files.specs.Tables.{HoldsByTable}
use Rattle.cdb_files.specs.Compiled.{stored}
use Rattle.rule_lookup.specs.Pairs.{Rule}
use Rattle.rules_install.specs.declared.layout.Layout.{Layout}

-- the first rules as they are stored
abbrev pub first_stored : List Rule → ℕ → List Pair
first_stored rules placed = stored (take placed rules)

-- the first rules are placed: their entries are held by their tables, and the next record stands behind theirs, in a file that is not too long
pub record ArePlaced (rules : List Rule) (layout : Layout) : Type 0 where
  pub inside : layout.placed ≤ length rules
  pub by_table : HoldsByTable layout.tables (entries_of (first_stored rules layout.placed))
  pub begins : layout.end ≡ 2048 + records_length (first_stored rules layout.placed)
  pub fits : finished_length (stored rules) < 2 ^ 32
