use Rattle.std.proofs.Common.{◌++◌, ap, ◌∙◌, sym}
use Rattle.std.proofs.Math.ListN.{drop_of_length-le}
use Rattle.byte_text.proofs.Appends.{first}
use Rattle.byte_text.proofs.CutParts.{cut_later}
use Rattle.server_log.specs.Pieces.{with_pieces}
use Rattle.server_log.proofs.pieces.push_pieces.Goals as goal

pub returns-in_err-push_piece : goal.returns-in_err-push_piece
returns-in_err-push_piece c =
    let (so_far, is, rest) = c.loop-piece.invariant in
    cut_later _ c.push_piece.new.out.items c.from_residual.result c.from_residual.ensures.0
    (first c.args.out.now.items so_far is) c.in_err-push_piece.ensures

pub returns : goal.returns
returns c =
    let (so_far, is, rest) = c.loop-piece.invariant in
    let all = ap (with_pieces so_far) (drop_of_length-le c.args.pieces.now c.loop-piece-test.false) in
    is ∙ ap (λ bytes. c.args.out.now.items ++ bytes) (sym all ∙ rest)
