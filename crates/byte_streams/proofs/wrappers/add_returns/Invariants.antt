use Rattle.std.proofs.Common.{length}
use Rattle.byte_streams.specs.Wrapped.{added}
use Rattle.byte_streams.proofs.FeedLemmas.{Goes}
use Rattle.byte_streams.proofs.wrappers.add_returns.Given as goal

abbrev pub invariant-loop-end : goal.invariant-loop-end
invariant-loop-end l = Goes added added l.fn.piece l.rest l.fn.out.items l.out.items

abbrev pub decreases-loop-end : goal.decreases-loop-end
decreases-loop-end l = length l.rest
