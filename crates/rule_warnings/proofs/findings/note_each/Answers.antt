use Rattle.std.proofs.Common.{◌<◌, ◌∙◌, length, arith}
use Rattle.rule_lines.specs.ReadAddresses.{addresses_read}
use Rattle.rule_warnings.specs.Tables.{line_under}
use Rattle.rule_warnings.proofs.StepLemmas.{noted-more}
use Rattle.rule_warnings.proofs.findings.note_each.Goals as goal

pub loop-position-preserved : goal.loop-position-preserved
loop-position-preserved c =
    let addresses = addresses_read c.args.addresses.now in
    let inside : c.loop-position.position < length addresses = omega (arith, c.loop-position-test.true, c.count_in-position-end.ensures) in
    noted-more (line_under c.args.seen.now) (line_under c.loop-position.seen) (line_under c.note_made.new.self) addresses c.loop-position.position c.args.number c.deref.result.now inside
    (c.deref.ensures.value ∙ c.in_ok-write_address.ensures) c.loop-position.invariant c.in_ok-note_made.ensures
