use Rattle.std.proofs.Common.{eq-eqb, length, sym, arith}
use Rattle.std.proofs.lemmas.List.Sums.{position_or_len_is}
use Rattle.cdb_files.specs.Slots.{is_empty}
use Rattle.cdb_files.proofs.slot.empty_slot.Goals as goal

pub returns-then-slot-eq0 : goal.returns-then-slot-eq0
returns-then-slot-eq0 c =
    sym (position_or_len_is is_empty c.args.slots.now c.loop-position.position (0, 0) (omega arith) c.loop-position.invariant (λ _. eq-eqb _ _ c.if-slot-eq0.true))

pub returns : goal.returns
returns c =
    sym (position_or_len_is is_empty c.args.slots.now (length c.args.slots.now) (0, 0) (omega arith) (λ k h. c.loop-position.invariant k (omega (arith, h))) (λ h. absurd (omega (arith, h))))
