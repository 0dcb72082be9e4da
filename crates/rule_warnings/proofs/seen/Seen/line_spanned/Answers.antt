use Rattle.std.proofs.Common.{◌≡◌, ◌+◌, length, ap, arith, sym, ◌∙◌}
use Rattle.std.specs.List.{range_with_len}
use Rattle.rule_warnings.specs.Spans.{line_from, soonest}
use Rattle.rule_warnings.specs.Tables.{spans_under}
use Rattle.rule_warnings.proofs.SpanLemmas.{soonest-position, spanned-none}
use Rattle.std.proofs.lemmas.List.{nil_from_length}
use Rattle.rule_warnings.proofs.TableLemmas.{spans-none}
use Rattle.rule_warnings.proofs.seen.Seen.line_spanned.Goals as goal

pub loop-start-preserved : goal.loop-start-preserved
loop-start-preserved c =
    soonest-position (line_from (spans_under c.args.self.now) c.args.address.now) c.loop-start.start c.loop-start.first c.in_ok-line_from.field-0 c.sooner-first.result c.loop-start.invariant c.in_ok-line_from.ensures c.sooner-first.ensures

pub returns-in_ok-line_from : goal.returns-in_ok-line_from
returns-in_ok-line_from c =
    let line = line_from (spans_under c.args.self.now) c.args.address.now in
    let last : c.loop-start.start ≡ length c.args.address.now = omega (arith, c.if-start-start-end.false, c.loop-start-test.true) in
    soonest-position line c.loop-start.start c.loop-start.first c.in_ok-line_from.field-0 c.sooner-first.result c.loop-start.invariant c.in_ok-line_from.ensures c.sooner-first.ensures
    ∙ ap (λ n. soonest line (range_with_len 0 (n + 1))) last

pub returns-then-is_empty : goal.returns-then-is_empty
returns-then-is_empty c =
    let none : length c.args.self.now.spans.entries ≡ 0 = grind (c.is_empty.ensures, c.if-is_empty.true, arith) in
    sym (spanned-none (spans_under c.args.self.now) (spans-none c.args.self.now (nil_from_length _ none)) c.args.address.now)
