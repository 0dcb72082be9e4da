-- A range has as many addresses as numbers.
use Rattle.std.proofs.Common.{◌∙◌, sym}
use Rattle.rule_lines.proofs.RowLemmas.{length-addresses_under}
use Rattle.rule_lines.proofs.spread.count_in.Goals as goal

pub returns-in-Range : goal.returns-in-Range
returns-in-Range c =
    let range = c.in-Range in
    rw range.is (c.from.ensures ∙ sym (length-addresses_under range.front.now range.numbers range.back.now))
