use Rattle.std.proofs.Common.{◌≡◌, ℕ, List, ◌++◌, codes, ap}
use Rattle.byte_text.proofs.Appends.{first, next, last, renamed}
use Rattle.byte_text.proofs.CutParts.{cut_first, cut_later}
use Rattle.fault_hints.specs.Lines.{line_text, shown_text}
use Rattle.fault_hints.proofs.lines.push_line.Goals as goal

pub returns-in_err-push_text : goal.returns-in_err-push_text
returns-in_err-push_text c =
    cut_first _ c.args.out.now.items c.push_text.new.out.items c.from_residual.result c.from_residual.ensures.0 c.in_err-push_text.ensures

pub returns-in_err-push_shown : goal.returns-in_err-push_shown
returns-in_err-push_shown c =
    let so_far_1 = first c.args.out.now.items _ c.in_ok-push_text.ensures in
    cut_later _ c.push_shown.new.out.items c.from_residual-in_err-push_shown.result c.from_residual-in_err-push_shown.ensures.0 so_far_1 c.in_err-push_shown.ensures

pub returns-in_err-push_text-2 : goal.returns-in_err-push_text-2
returns-in_err-push_text-2 c =
    let so_far_1 = first c.args.out.now.items _ c.in_ok-push_text.ensures in
    let so_far_2 = next _ so_far_1 c.in_ok-push_shown.ensures in
    cut_later _ c.push_text-2.new.out.items c.from_residual-in_err-push_text-2.result c.from_residual-in_err-push_text-2.ensures.0 so_far_2 c.in_err-push_text-2.ensures

pub returns-in_err-push_text-3 : goal.returns-in_err-push_text-3
returns-in_err-push_text-3 c =
    let so_far_1 = first c.args.out.now.items _ c.in_ok-push_text.ensures in
    let so_far_2 = next _ so_far_1 c.in_ok-push_shown.ensures in
    let so_far_3 = next _ so_far_2 c.in_ok-push_text-2.ensures in
    cut_later _ c.push_text-3.new.out.items c.from_residual-in_err-push_text-3.result c.from_residual-in_err-push_text-3.ensures.0 so_far_3 c.in_err-push_text-3.ensures

pub returns : goal.returns
returns c =
    let front = codes "tcprules: cause: " ++ shown_text c.args.address.now c.args.instructions.now ++ codes ": " in
    let so_far_1 = first c.args.out.now.items _ c.in_ok-push_text.ensures in
    let so_far_2 = next _ so_far_1 c.in_ok-push_shown.ensures in
    let so_far_3 = next _ so_far_2 c.in_ok-push_text-2.ensures in
    let so_far_4 = next _ so_far_3 c.in_ok-push_text-3.ensures in
    let same : front ++ c.expected.result.now ++ codes "\n" ≡ line_text c.args.kind c.args.address.now c.args.instructions.now =
    ap (λ (t : List ℕ). front ++ t ++ codes "\n") c.expected.ensures in
    renamed _ c.push_text-4.new.out.items c.push_text-4.result same (last _ c.push_text-4.new.out.items c.push_text-4.result so_far_4 c.push_text-4.ensures)
