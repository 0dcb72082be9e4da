use Rattle.std.proofs.Common.{◌≡◌}
use Rattle.std.specs.Net.Text.{dotted_text, ipv4_text}
use Rattle.byte_text.proofs.Appends.{first, next, last, renamed}
use Rattle.byte_text.proofs.CutParts.{cut_first, cut_later}
use Rattle.byte_text.proofs.fields.push_address.Goals as goal

pub returns-in_err-push_number : goal.returns-in_err-push_number
returns-in_err-push_number c =
    cut_first _ c.args.out.now.items c.push_number.new.out.items c.from_residual.result c.from_residual.ensures.0 c.in_err-push_number.ensures

pub returns-in_err-push_text : goal.returns-in_err-push_text
returns-in_err-push_text c =
    let so_far_1 = first c.args.out.now.items _ c.in_ok-push_number.ensures in
    cut_later _ c.push_text.new.out.items c.from_residual-in_err-push_text.result c.from_residual-in_err-push_text.ensures.0 so_far_1 c.in_err-push_text.ensures

pub returns-in_err-push_number-2 : goal.returns-in_err-push_number-2
returns-in_err-push_number-2 c =
    let so_far_1 = first c.args.out.now.items _ c.in_ok-push_number.ensures in
    let so_far_2 = next _ so_far_1 c.in_ok-push_text.ensures in
    cut_later _ c.push_number-2.new.out.items c.from_residual-in_err-push_number-2.result c.from_residual-in_err-push_number-2.ensures.0 so_far_2 c.in_err-push_number-2.ensures

pub returns-in_err-push_text-2 : goal.returns-in_err-push_text-2
returns-in_err-push_text-2 c =
    let so_far_1 = first c.args.out.now.items _ c.in_ok-push_number.ensures in
    let so_far_2 = next _ so_far_1 c.in_ok-push_text.ensures in
    let so_far_3 = next _ so_far_2 c.in_ok-push_number-2.ensures in
    cut_later _ c.push_text-2.new.out.items c.from_residual-in_err-push_text-2.result c.from_residual-in_err-push_text-2.ensures.0 so_far_3 c.in_err-push_text-2.ensures

pub returns-in_err-push_number-3 : goal.returns-in_err-push_number-3
returns-in_err-push_number-3 c =
    let so_far_1 = first c.args.out.now.items _ c.in_ok-push_number.ensures in
    let so_far_2 = next _ so_far_1 c.in_ok-push_text.ensures in
    let so_far_3 = next _ so_far_2 c.in_ok-push_number-2.ensures in
    let so_far_4 = next _ so_far_3 c.in_ok-push_text-2.ensures in
    cut_later _ c.push_number-3.new.out.items c.from_residual-in_err-push_number-3.result c.from_residual-in_err-push_number-3.ensures.0 so_far_4 c.in_err-push_number-3.ensures

pub returns-in_err-push_text-3 : goal.returns-in_err-push_text-3
returns-in_err-push_text-3 c =
    let so_far_1 = first c.args.out.now.items _ c.in_ok-push_number.ensures in
    let so_far_2 = next _ so_far_1 c.in_ok-push_text.ensures in
    let so_far_3 = next _ so_far_2 c.in_ok-push_number-2.ensures in
    let so_far_4 = next _ so_far_3 c.in_ok-push_text-2.ensures in
    let so_far_5 = next _ so_far_4 c.in_ok-push_number-3.ensures in
    cut_later _ c.push_text-3.new.out.items c.from_residual-in_err-push_text-3.result c.from_residual-in_err-push_text-3.ensures.0 so_far_5 c.in_err-push_text-3.ensures

pub returns : goal.returns
returns c =
    let so_far_1 = first c.args.out.now.items _ c.in_ok-push_number.ensures in
    let so_far_2 = next _ so_far_1 c.in_ok-push_text.ensures in
    let so_far_3 = next _ so_far_2 c.in_ok-push_number-2.ensures in
    let so_far_4 = next _ so_far_3 c.in_ok-push_text-2.ensures in
    let so_far_5 = next _ so_far_4 c.in_ok-push_number-3.ensures in
    let so_far_6 = next _ so_far_5 c.in_ok-push_text-3.ensures in
    let same : dotted_text c.from.result c.from-2.result c.from-3.result c.from-4.result ≡ ipv4_text c.args.ip = rw (c.from.ensures, c.from-2.ensures, c.from-3.ensures, c.from-4.ensures) in
    renamed _ c.push_number-4.new.out.items c.push_number-4.result same (last _ c.push_number-4.new.out.items c.push_number-4.result so_far_6 c.push_number-4.ensures)
