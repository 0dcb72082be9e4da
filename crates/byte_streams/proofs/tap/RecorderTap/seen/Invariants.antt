use Rattle.std.proofs.Common.{length}
use Rattle.byte_streams.proofs.RecordLemmas.{WritesFront}
use Rattle.byte_streams.proofs.tap.RecorderTap.seen.Given as goal

abbrev pub invariant-loop-self : goal.invariant-loop-self
invariant-loop-self g l = WritesFront g.W.Write.contents l.initial.self l.initial.rest l.rest l.self

abbrev pub decreases-loop-self : goal.decreases-loop-self
decreases-loop-self g l = length l.rest
