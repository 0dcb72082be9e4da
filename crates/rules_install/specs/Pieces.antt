-- The pieces of which a file is made.
use Rattle.std.specs.Prelude.{◌≡◌, ◌-◌, ◌<◌, ℕ, List, [], ◌++◌, drop, length, flat_map, Option, MatchOption}
use Rattle.std.specs.List.{range_with_len}
use Rattle.cdb_files.specs.Format.{records_of}
use Rattle.cdb_files.specs.Image.{table_bytes, tables_of}
use Rattle.cdb_files.specs.Slots.{table_entries}
use Rattle.cdb_files.specs.Compiled.{stored}
use Rattle.rule_lookup.specs.Pairs.{Rule}
use Rattle.rules_install.specs.Filled.{blank_file}
use Rattle.rules_install.specs.declared.pieces.Piece.{Piece}
use Rattle.rules_install.specs.declared.pieces.Piece.TheVariants.{Unset, Record, Table}

-- the bytes of a piece and of all after it
abbrev pub from_piece : List Rule → Piece → List ℕ
from_piece rules Unset = blank_file rules
from_piece rules (Record i) = records_of (drop i (stored rules)) ++ tables_of (stored rules)
from_piece rules (Table t) = flat_map (λ u. table_bytes (table_entries u (stored rules))) (range_with_len t (256 - t))

-- what is left of the piece under way and all pieces after it are what is still to be appended
abbrev pub IsLeft : List Rule → List ℕ → ℕ → Piece → ℕ → Type 0
IsLeft rules piece taken next filled = drop taken piece ++ from_piece rules next ≡ drop filled (blank_file rules)

-- a piece at a position, and all after it from the next position on; or nothing is left there
abbrev pub Continues : List Rule → Piece → List ℕ → Option Piece → Type 0
Continues rules position piece next =
    MatchOption next ((from_piece rules position ≡ []) × (piece ≡ []))
    (λ n. (0 < length piece) × (from_piece rules position ≡ piece ++ from_piece rules n))
