use Rattle.std.proofs.Common.{◌≡◌, ◌++◌, List, [], ℕ, drop}
use Rattle.server_log.specs.Pieces.{with_pieces}
use Rattle.server_log.proofs.pieces.push_pieces.Given as goal

-- what was appended so far, with the pieces that are left, is what all pieces are
abbrev pub invariant-loop-piece : goal.invariant-loop-piece
invariant-loop-piece l =
    (so_far : List ℕ) × (l.out.items ≡ l.initial.out.items ++ so_far) × (with_pieces so_far (drop l.piece-index l.pieces) ≡ with_pieces [] l.pieces)
