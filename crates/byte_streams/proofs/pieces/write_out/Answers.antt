use Rattle.std.proofs.Common.{rules, tests}
use Rattle.std.proofs.lemmas.List.{take_rest}
use Rattle.byte_streams.proofs.WriteLemmas.{goes_kept, goes_more, goes_none, goes_zero, some_left, wrote_less, wrote_none}
use Rattle.byte_streams.proofs.pieces.write_out.Goals as goal

pub loop-rest-init : goal.loop-rest-init
loop-rest-init g c = goes_none _ _

pub returns-then-tries-eq0 : goal.returns-then-tries-eq0
returns-then-tries-eq0 g c = wrote_less c.loop-rest.invariant (some_left _ (search (rules, tests)))

pub returns-in-Ok-eq0 : goal.returns-in-Ok-eq0
returns-in-Ok-eq0 g c = wrote_none (goes_zero c.write.result c.in-Ok-eq0.is c.in-Ok-eq0.field-0-test c.loop-rest.invariant c.write.ensures.bytes) (some_left _ (search (rules, tests)))

pub loop-rest-preserved-in-Ok : goal.loop-rest-preserved-in-Ok
loop-rest-preserved-in-Ok g c = goes_more c.in-Ok.count c.loop-rest.invariant c.in-Ok.ensures.bytes (take_rest c.loop-rest.rest.now c.in-Ok.count)

pub returns-in-Err-2 : goal.returns-in-Err-2
returns-in-Err-2 g c = wrote_less (goes_kept c.loop-rest.invariant c.in-Err-2.ensures.bytes) (some_left _ (search (rules, tests)))
