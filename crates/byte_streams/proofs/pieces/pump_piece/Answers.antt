use Rattle.std.proofs.Common.{◌<◌, length, refl, arith}
use Rattle.byte_streams.proofs.PassLemmas.{passes_after, read_and_passed_end, read_and_passed_nothing}
use Rattle.byte_streams.specs.declared.pumping.Why.TheVariants.{ReadFault, ReadsOver}
use Rattle.byte_streams.proofs.pieces.pump_piece.Goals as goal

pub returns-in-Ok-eq0-clause-read_and_passed : goal.returns-in-Ok-eq0-clause-read_and_passed
returns-in-Ok-eq0-clause-read_and_passed g c =
    let room : 0 < length c.read_once.new.buffer = omega arith in
    read_and_passed_end c.read_once.result c.read_once.new.buffer c.in-Ok-eq0.is c.in-Ok-eq0.field-0-test c.read_once.ensures.bytes room (λ at_end. passes_after _ (c.end.ensures.passed _ at_end))

pub returns-in-Ok-clause-read_and_passed : goal.returns-in-Ok-clause-read_and_passed
returns-in-Ok-clause-read_and_passed g c = record { text = _; reads = c.in-Ok.ensures.bytes.0; passes = passes_after _ (c.pass.ensures.passed _) }

pub returns-in-Err-clause-read_and_passed : goal.returns-in-Err-clause-read_and_passed
returns-in-Err-clause-read_and_passed g c =
    read_and_passed_nothing g.T.Tap.watches g.T.Tap.sees g.T.Tap.ends c.args.tap.now 1 ReadsOver c.in-Err.ensures.bytes refl (λ later. refl) refl refl

pub returns-in-Err-2-clause-read_and_passed : goal.returns-in-Err-2-clause-read_and_passed
returns-in-Err-2-clause-read_and_passed g c =
    read_and_passed_nothing g.T.Tap.watches g.T.Tap.sees g.T.Tap.ends c.args.tap.now 1 ReadFault c.in-Err-2.ensures.bytes refl (λ later. refl) refl refl
