-- The position that `find` finds is where the bytes are cut.
use Rattle.rule_lines.proofs.CutLemmas.{cut_at-found, cut_at-nowhere, cut_at-position, one_byte}
use Rattle.rule_lines.proofs.instructions.split_at_mark.Goals as goal

pub returns-in_err-position : goal.returns-in_err-position
returns-in_err-position c = rw c.from_residual.ensures (cut_at-nowhere _ _ c.in_err-position.ensures)

pub returns : goal.returns
returns c =
    let found = c.in_ok-position.ensures in
    cut_at-position _ _ _ c.requires found.0.before found.1

pub returns-in-len1 : goal.returns-in-len1
returns-in-len1 c =
    cut_at-found c.args.mark.now _ c.args.bytes.now c.split_at_byte.result (one_byte c.args.mark.now 0 c.requires c.in-len1.len_below) c.split_at_byte.ensures
