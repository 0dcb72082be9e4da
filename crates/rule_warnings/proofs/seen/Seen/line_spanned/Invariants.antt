use Rattle.std.proofs.Common.{◌≡◌}
use Rattle.std.specs.List.{range_with_len}
use Rattle.rule_warnings.specs.Spans.{line_from, soonest}
use Rattle.rule_warnings.specs.Tables.{spans_under}
use Rattle.rule_warnings.proofs.seen.Seen.line_spanned.Given as goal

abbrev pub invariant-loop-start : goal.invariant-loop-start
invariant-loop-start l = l.first ≡ soonest (line_from (spans_under l.self) l.address) (range_with_len 0 l.start)
