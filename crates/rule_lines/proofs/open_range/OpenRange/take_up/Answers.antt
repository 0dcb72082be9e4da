-- The rules of the range are those of the line.
use Rattle.rule_lines.proofs.OpenLemmas.{IsOpenAmong-begun}
use Rattle.rule_lines.proofs.open_range.OpenRange.take_up.Goals as goal

pub returns-in-Range : goal.returns-in-Range
returns-in-Range c = λ kept is before_it.
    let begun = c.begin.ensures in
    IsOpenAmong-begun kept c.args.i c.args.found.now c.in-Range.front c.in-Range.numbers c.in-Range.back c.begin.new.self c.begin.result is c.in-Range.is begun.before begun.front begun.numbers begun.back begun.code begun.closed
