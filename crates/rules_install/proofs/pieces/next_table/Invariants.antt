use Rattle.std.proofs.Common.{◌≡◌, List, []}
use Rattle.cdb_files.specs.Format.{entries_of}
use Rattle.cdb_files.specs.Tables.{HoldsByTable}
use Rattle.cdb_files.specs.Compiled.{stored}
use Rattle.rule_lookup.specs.Pairs.{Rule}
use Rattle.rules_install.specs.Pieces.{from_piece}
use Rattle.rules_install.specs.declared.pieces.Piece.TheVariants.{Table}
use Rattle.rules_install.proofs.pieces.next_table.Given as goal

abbrev pub invariant-loop-t : goal.invariant-loop-t
invariant-loop-t l =
    ((rules : List Rule) → HoldsByTable l.tables (entries_of (stored rules)) → from_piece rules (Table l.initial.t) ≡ from_piece rules (Table l.t)) × (l.piece.items ≡ [])
