use Rattle.byte_text.proofs.Appends.{first, next, last}
use Rattle.byte_text.proofs.CutParts.{cut_first, cut_later}
use Rattle.byte_text.proofs.line.push_cause.Goals as goal

pub returns-in_err-push_text : goal.returns-in_err-push_text
returns-in_err-push_text c =
    cut_first _ c.args.out.now.items c.push_text.new.out.items c.from_residual.result c.from_residual.ensures.0 c.in_err-push_text.ensures

pub returns-in_err-push_text-2 : goal.returns-in_err-push_text-2
returns-in_err-push_text-2 c =
    let so_far_1 = first c.args.out.now.items _ c.in_ok-push_text.ensures in
    cut_later _ c.push_text-2.new.out.items c.from_residual-in_err-push_text-2.result c.from_residual-in_err-push_text-2.ensures.0 so_far_1 c.in_err-push_text-2.ensures

pub returns-in_err-push_marked : goal.returns-in_err-push_marked
returns-in_err-push_marked c =
    let so_far_1 = first c.args.out.now.items _ c.in_ok-push_text.ensures in
    let so_far_2 = next _ so_far_1 c.in_ok-push_text-2.ensures in
    cut_later _ c.push_marked.new.out.items c.from_residual-in_err-push_marked.result c.from_residual-in_err-push_marked.ensures.0 so_far_2 c.in_err-push_marked.ensures

pub returns-in_err-push_text-3 : goal.returns-in_err-push_text-3
returns-in_err-push_text-3 c =
    let so_far_1 = first c.args.out.now.items _ c.in_ok-push_text.ensures in
    let so_far_2 = next _ so_far_1 c.in_ok-push_text-2.ensures in
    let so_far_3 = next _ so_far_2 c.in_ok-push_marked.ensures in
    cut_later _ c.push_text-3.new.out.items c.from_residual-in_err-push_text-3.result c.from_residual-in_err-push_text-3.ensures.0 so_far_3 c.in_err-push_text-3.ensures

pub returns-in_err-push_text-4 : goal.returns-in_err-push_text-4
returns-in_err-push_text-4 c =
    let so_far_1 = first c.args.out.now.items _ c.in_ok-push_text.ensures in
    let so_far_2 = next _ so_far_1 c.in_ok-push_text-2.ensures in
    let so_far_3 = next _ so_far_2 c.in_ok-push_marked.ensures in
    let so_far_4 = next _ so_far_3 c.in_ok-push_text-3.ensures in
    cut_later _ c.push_text-4.new.out.items c.from_residual-in_err-push_text-4.result c.from_residual-in_err-push_text-4.ensures.0 so_far_4 c.in_err-push_text-4.ensures

pub returns : goal.returns
returns c =
    let so_far_1 = first c.args.out.now.items _ c.in_ok-push_text.ensures in
    let so_far_2 = next _ so_far_1 c.in_ok-push_text-2.ensures in
    let so_far_3 = next _ so_far_2 c.in_ok-push_marked.ensures in
    let so_far_4 = next _ so_far_3 c.in_ok-push_text-3.ensures in
    let so_far_5 = next _ so_far_4 c.in_ok-push_text-4.ensures in
    last _ c.push_text-5.new.out.items c.push_text-5.result so_far_5 c.push_text-5.ensures
