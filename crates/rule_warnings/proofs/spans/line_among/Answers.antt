use Rattle.std.proofs.Common.{◌<◌, length, arith}
use Rattle.rule_warnings.specs.Spans.{line_in}
use Rattle.rule_warnings.proofs.SpanLemmas.{soonest-at}
use Rattle.rule_warnings.proofs.spans.line_among.Goals as goal

pub loop-span-preserved : goal.loop-span-preserved
loop-span-preserved c =
    let inside : c.loop-span.span-index < length c.args.spans.now = omega (arith, c.loop-span-test.true) in
    soonest-at (line_in c.args.number) c.args.spans.now c.loop-span.span-index _ c.loop-span.first c.line_in.result c.sooner-first.result inside c.loop-span.invariant c.line_in.ensures c.sooner-first.ensures
