use Rattle.rule_lines.proofs.RangeLemmas.{range-front, range-low, range-high, range-back}
use Rattle.rule_lines.proofs.spread.cut_range.Goals as goal

pub returns-clause-front : goal.returns-clause-front
returns-clause-front c = range-front c.args.address.now c.args.dash c.requires.first _ c.after_last_dot-low_start.ensures

pub returns-clause-low : goal.returns-clause-low
returns-clause-low c = range-low c.args.address.now c.args.dash c.requires.first _ c.after_last_dot-low_start.ensures

pub returns-clause-high : goal.returns-clause-high
returns-clause-high c = range-high c.args.address.now c.args.dash c.requires.first _ c.next_dot-high_end.ensures.value

pub returns-clause-back : goal.returns-clause-back
returns-clause-back c = range-back c.args.address.now c.args.dash c.requires.first _ c.next_dot-high_end.ensures.value
