use Rattle.std.proofs.Common.{length}
use Rattle.byte_streams.specs.Wrappers.{deleted_from}
use Rattle.byte_streams.proofs.FeedLemmas.{Goes}
use Rattle.byte_streams.proofs.wrappers.delete_returns.Given as goal

abbrev pub invariant-loop-end : goal.invariant-loop-end
invariant-loop-end l = Goes (deleted_from l.fn.held) (deleted_from l.held) l.fn.piece l.rest l.fn.out.items l.out.items

abbrev pub decreases-loop-end : goal.decreases-loop-end
decreases-loop-end l = length l.rest
