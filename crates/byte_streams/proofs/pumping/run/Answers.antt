use Rattle.std.proofs.Common.{◌<◌, ◌++◌, refl, sym, ap, ◌∙◌, subst, arith, length, drop, length-append, length-take}
use Rattle.std.proofs.KnownBytes.{Keeps-refl}
use Rattle.byte_streams.specs.Chains.{has_failed}
use Rattle.byte_streams.specs.Pieces.{IsOfPiece, StaysOpen}
use Rattle.byte_streams.proofs.PassLemmas.{read_and_passed_nothing}
use Rattle.byte_streams.proofs.PieceLemmas.{read_and_passed_more, read_and_passed_times}
use Rattle.byte_streams.specs.declared.pumping.Why.TheVariants.{ReadsOver}
use Rattle.byte_streams.proofs.pumping.run.Goals as goal

pub loop-read-init : goal.loop-read-init
loop-read-init g c = record {
  read_and_passed = read_and_passed_nothing g.T.Tap.watches g.T.Tap.sees g.T.Tap.ends c.args.tap.now 0 ReadsOver (Keeps-refl _) refl (λ later. refl) refl refl;
  counted = c.requires.start;
  room = c.requires.room;
  goes_on = c.requires.goes_on;
  wholes = refl;
  same = refl;
}

pub loop-read-preserved : goal.loop-read-preserved
loop-read-preserved g c =
    let so_far = c.loop-read.invariant in
    let told = c.in_default.ensures in
    record {
      read_and_passed = read_and_passed_more g.T.Tap.watches g.T.Tap.sees g.T.Tap.ends c.args.tap.now c.loop-read.tap c.pump_piece.new.tap ReadsOver so_far.same so_far.read_and_passed told.read_and_passed;
      counted = omega arith;
      room = c.widen.ensures (omega (
        arith,
        so_far.room,
        ap length c.deref_mut.ensures.value,
        c.deref_mut.ensures.len,
        c.pump_piece.auto.buffer,
        length-take c.loop-read.buffer.len (c.pump_piece.new.buffer ++ drop (length c.pump_piece.new.buffer) c.loop-read.buffer.items),
        length-append c.pump_piece.new.buffer (drop (length c.pump_piece.new.buffer) c.loop-read.buffer.items),
      ));
      goes_on = told.stays_open ∙ so_far.goes_on;
      wholes = told.wholes ∙ so_far.wholes;
      same = told.same ∙ so_far.same;
    }

pub returns-in-Err : goal.returns-in-Err
returns-in-Err g c =
    let so_far = c.loop-read.invariant in
    let told = c.in-Err.ensures in
    let went_on = so_far.goes_on ∙ sym c.requires.goes_on in
    record {
      read_and_passed = read_and_passed_times (omega arith) (read_and_passed_more g.T.Tap.watches g.T.Tap.sees g.T.Tap.ends c.args.tap.now c.loop-read.tap c.pump_piece.new.tap c.in-Err.why so_far.same so_far.read_and_passed told.read_and_passed);
      over = λ is. absurd (subst IsOfPiece is told.reason);
      within = omega arith;
      not_failed = λ is. subst IsOfPiece is told.reason;
      stays_open = subst (λ b. StaysOpen c.in-Err.why b (has_failed c.pump_piece.new.chain)) went_on told.stays_open;
      wholes = told.wholes ∙ so_far.wholes;
      room = omega (
        arith,
        so_far.room,
        ap length c.deref_mut.ensures.value,
        c.deref_mut.ensures.len,
        c.pump_piece.auto.buffer,
        length-take c.loop-read.buffer.len (c.pump_piece.new.buffer ++ drop (length c.pump_piece.new.buffer) c.loop-read.buffer.items),
        length-append c.pump_piece.new.buffer (drop (length c.pump_piece.new.buffer) c.loop-read.buffer.items),
      );
    }

pub returns : goal.returns
returns g c =
    let so_far = c.loop-read.invariant in
    record {
      read_and_passed = read_and_passed_times (omega arith) so_far.read_and_passed;
      over = λ is. omega arith;
      within = omega arith;
      not_failed = λ is. cc;
      stays_open = so_far.goes_on ∙ sym c.requires.goes_on;
      wholes = so_far.wholes;
      room = so_far.room;
    }

pub pump_piece-requires : goal.pump_piece-requires
pump_piece-requires g c = record { room = subst (λ items. 0 < length items) (sym c.deref_mut.ensures.value) c.loop-read.invariant.room; few = omega arith; goes_on = c.loop-read.invariant.goes_on }
