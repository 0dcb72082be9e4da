use Rattle.std.proofs.Common.{◌≡◌, List, map}
use Rattle.std.specs.List.{range_with_len}
use Rattle.cdb_files.specs.Format.{Pair}
use Rattle.cdb_files.specs.Image.{pointer_of, table_position}
use Rattle.cdb_files.specs.Tables.{AreTablesOf}
use Rattle.cdb_files.proofs.tables.Tables.pointers.Given as goal

abbrev pub invariant-loop-table : goal.invariant-loop-table
invariant-loop-table l = (pairs : List Pair) → AreTablesOf pairs l.self l.fn.first
    → (l.pointers.items ≡ map (pointer_of pairs) (range_with_len 0 l.table)) × (l.position ≡ table_position pairs l.table)
