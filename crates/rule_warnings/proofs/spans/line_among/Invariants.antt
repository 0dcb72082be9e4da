use Rattle.std.proofs.Common.{◌≡◌, take}
use Rattle.rule_warnings.specs.Spans.{line_in, soonest}
use Rattle.rule_warnings.proofs.spans.line_among.Given as goal

abbrev pub invariant-loop-span : goal.invariant-loop-span
invariant-loop-span l = l.first ≡ soonest (line_in l.number) (take l.span-index l.spans)
