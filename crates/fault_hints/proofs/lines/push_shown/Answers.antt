use Rattle.byte_text.proofs.Appends.{first, next, last}
use Rattle.byte_text.proofs.CutParts.{cut_first, cut_later}
use Rattle.fault_hints.proofs.lines.push_shown.Goals as goal

pub returns-in_err-push_marked : goal.returns-in_err-push_marked
returns-in_err-push_marked c =
    cut_first _ c.args.out.now.items c.push_marked.new.out.items c.from_residual.result c.from_residual.ensures.0 c.in_err-push_marked.ensures

pub returns-in_err-push_text : goal.returns-in_err-push_text
returns-in_err-push_text c =
    let so_far_1 = first c.args.out.now.items _ c.in_ok-push_marked.ensures in
    cut_later _ c.push_text.new.out.items c.from_residual-in_err-push_text.result c.from_residual-in_err-push_text.ensures.0 so_far_1 c.in_err-push_text.ensures

pub returns : goal.returns
returns c =
    let so_far_1 = first c.args.out.now.items _ c.in_ok-push_marked.ensures in
    let so_far_2 = next _ so_far_1 c.in_ok-push_text.ensures in
    last _ c.push_marked-2.new.out.items c.push_marked-2.result so_far_2 c.push_marked-2.ensures
