-- What stands behind what was put there stays.
use Rattle.std.proofs.Common.{◌≡◌, ◌+◌, ◌-◌, ◌∙◌, ◌≤◌, length, drop, ap, arith}
use Rattle.std.proofs.lemmas.List.{take_at}
use Rattle.std.proofs.lemmas.Slice.{drop-put_mid}
use Rattle.rule_lines.proofs.FoldLemmas.{length-put_mid}
use borrow.Rule.Slice.PartMut.{put_mid}
use Rattle.rule_lines.proofs.text.overwrite.Goals as goal

pub returns-clause-rest : goal.returns-clause-rest
returns-clause-rest c = λ n above.
    let text = c.deref_mut.result.now in
    let position = c.args.position in
    let count = position + length c.args.bytes.now - position in
    let written = c.copy_from_slice.new.self in
    let long : length written ≡ count = omega (arith, c.copy_from_slice.ensures.len, c.requires.inside, ap length c.copy_from_slice.ensures.after) in
    let inside : position ≤ length text = omega (arith, c.requires.inside, ap length c.deref_mut.ensures.value) in
    ap (drop n) (take_at (put_mid position count text written) _ c.args.text.now.len (length-put_mid position count text written long (omega (arith, c.requires.inside, ap length c.deref_mut.ensures.value)) ∙ omega (arith, ap length c.deref_mut.ensures.value, c.deref_mut.ensures.len)))
    ∙ drop-put_mid position count text written n (omega (arith, above)) inside long
    ∙ ap (drop n) c.deref_mut.ensures.value
