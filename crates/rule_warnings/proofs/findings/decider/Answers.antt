use Rattle.std.proofs.Common.{◌≡◌, ◌<◌, ◌∙◌, Some, [], length, get_or, sym, ap, arith}
use Rattle.rule_lines.specs.ReadAddresses.{addresses_read}
use Rattle.rule_warnings.specs.Tables.{line_under}
use Rattle.rule_warnings.proofs.StepLemmas.{least-more}
use Rattle.rule_warnings.proofs.findings.decider.Goals as goal

pub loop-position-preserved : goal.loop-position-preserved
loop-position-preserved c =
    let first = line_under c.args.seen.now in
    let addresses = addresses_read c.args.addresses.now in
    let inside : c.loop-position.position < length addresses = omega (arith, c.loop-position-test.true, c.count_in-position-end.ensures) in
    let found : first (get_or addresses c.loop-position.position []) ≡ Some c.in-Some.line =
    ap first (sym (c.deref.ensures.value ∙ c.in_ok-write_address.ensures)) ∙ sym c.in_ok-line.ensures ∙ c.in-Some.is in
    rw c.lesser.ensures (least-more first addresses c.loop-position.position c.in-Some.line c.loop-position.least inside found c.loop-position.invariant)
