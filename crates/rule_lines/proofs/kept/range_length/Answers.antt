-- Each address is as long as its parts, its number and the code.
use Rattle.std.proofs.Common.{◌+◌, ◌∙◌, length, ap, decimal, arith}
use Rattle.std.proofs.lemmas.List.{take_all}
use Rattle.rule_lines.specs.Rows.{addresses_under, length_with}
use Rattle.rule_lines.proofs.RowLemmas.{length-addresses_under}
use Rattle.rule_lines.proofs.TallyLemmas.{length_with-more}
use Rattle.rule_lines.proofs.kept.range_length.Goals as goal

pub loop-position-preserved : goal.loop-position-preserved
loop-position-preserved c =
    let position = c.loop-position.position in
    let more = length_with-more c.args.code_length c.args.front.now c.args.numbers c.args.back.now position c.loop-position-test.true in
    let number = c.number_at.ensures ∙ ap (λ p. c.args.numbers.first + p) c.from.ensures in
    omega (
      arith,
      more,
      c.loop-position.invariant,
      ap length c.format-digits.ensures.text,
      ap (λ n. length (decimal n)) number,
      c.in_ok-bytes.ensures,
      c.in_ok-checked_add-2.ensures,
      c.in_ok-around.ensures,
      c.in_ok-checked_add.ensures,
    )

pub returns : goal.returns
returns c =
    let addresses = addresses_under c.args.front.now c.args.numbers c.args.back.now in
    c.loop-position.invariant ∙ ap (length_with c.args.code_length) (take_all c.loop-position.position addresses (omega (arith, length-addresses_under c.args.front.now c.args.numbers c.args.back.now)))
