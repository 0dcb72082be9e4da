use Rattle.std.proofs.Common.{length}
use Rattle.byte_streams.specs.Wrappers.{fixed_from}
use Rattle.byte_streams.proofs.FeedLemmas.{Goes}
use Rattle.byte_streams.proofs.wrappers.fix_returns.Given as goal

abbrev pub invariant-loop-end : goal.invariant-loop-end
invariant-loop-end l = Goes (fixed_from l.fn.after_cr) (fixed_from l.after_cr) l.fn.piece l.rest l.fn.out.items l.out.items

abbrev pub decreases-loop-end : goal.decreases-loop-end
decreases-loop-end l = length l.rest
