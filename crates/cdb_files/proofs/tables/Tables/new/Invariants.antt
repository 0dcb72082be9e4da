use Rattle.std.proofs.Common.{◌≡◌, [], map}
use Rattle.std.proofs.Math.ListN.{replicate}
use Rattle.cdb_files.proofs.tables.Tables.new.Given as goal

abbrev pub invariant-loop-table : goal.invariant-loop-table
invariant-loop-table l = map (λ list. list.items) l.lists.items ≡ replicate l._table []
