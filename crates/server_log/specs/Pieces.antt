-- A line of pieces, and to whom it is told.
use Rattle.std.specs.Prelude.{ℕ, List, [], ◌∷◌, ◌++◌, codes, decimal}
use Rattle.std.specs.Net.Text.{ipv4_text}
use Rattle.byte_text.specs.Fields.{field_text}
use Rattle.rule_lookup.specs.Peers.{given}
use Rattle.fault_hints.specs.declared.voice.Voice.{Voice}
use Rattle.fault_hints.specs.Voices.{detail_of}
use Rattle.server_words.specs.declared.level.Level.{Level}
use Rattle.server_log.specs.declared.pieces.Piece.{Piece}
use Rattle.server_log.specs.declared.pieces.Piece.TheVariants as piece
use Rattle.server_log.specs.declared.lines.Shown.{Shown}
use Rattle.server_log.specs.declared.lines.Shown.TheVariants as shown
use Rattle.server_log.specs.Lines.{error, field, person, progress, with_cause, with_hint}

abbrev pub piece_text : Piece → List ℕ
piece_text (piece.Text text) = text.now
piece_text (piece.Number number) = decimal number
piece_text (piece.Address ip) = ipv4_text ip
piece_text (piece.Field bytes) = field_text bytes.now
piece_text (piece.Name name) = field (given name)

-- bytes with pieces behind them
abbrev pub with_pieces : List ℕ → List Piece → List ℕ
with_pieces bytes [] = bytes
with_pieces bytes (first ∷ pieces) = with_pieces (bytes ++ piece_text first) pieces

abbrev pub line_of : List Piece → List ℕ
line_of pieces = with_pieces [] pieces ++ codes "\n"

-- a line, where it is told
abbrev pub told_lines : Shown → Level → Voice → List ℕ → List (List ℕ)
told_lines shown.Progress level voice line = progress level line
told_lines shown.Fault level voice line = error level line
told_lines shown.Person level voice line = person voice level line
told_lines shown.Cause level voice line = with_cause (detail_of voice level) line
told_lines shown.Hint level voice line = with_hint (detail_of voice level) line
