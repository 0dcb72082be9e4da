use Rattle.byte_text.proofs.Appends.{first, last}
use Rattle.byte_text.proofs.CutParts.{cut_first}
use Rattle.server_log.proofs.pieces.push_line.Goals as goal

pub returns-in_err-push_pieces : goal.returns-in_err-push_pieces
returns-in_err-push_pieces c =
    cut_first _ c.args.out.now.items c.push_pieces.new.out.items c.from_residual.result c.from_residual.ensures.0 c.in_err-push_pieces.ensures

pub returns : goal.returns
returns c =
    last _ c.push_text.new.out.items c.push_text.result (first c.args.out.now.items _ c.in_ok-push_pieces.ensures) c.push_text.ensures
