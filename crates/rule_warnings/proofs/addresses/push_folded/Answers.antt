use Rattle.std.proofs.Common.{◌≡◌, ◌∙◌, ◌+◌, length, arith, length-append}
use Rattle.rule_lines.proofs.FoldLemmas.{append_folded-is}
use Rattle.rule_warnings.proofs.addresses.push_folded.Goals as goal

pub returns : goal.returns
returns c =
    let out = c.args.out.now.items in
    let address = c.args.address.now in
    let start : c.len.result ≡ length out = omega arith in
    append_folded-is out address c.deref_mut.result.now c.make_ascii_lowercase.new.self _ (c.len.result + c.first_equals.result) c.extend_from_slice.new.self.len
    (c.deref_mut.ensures.value ∙ c.in_ok-extend_from_slice.ensures.items)
    (omega (arith, c.first_equals.ensures.value))
    c.make_ascii_lowercase.ensures.after
    (omega (arith, c.in_ok-extend_from_slice.ensures.len, length-append out address))
