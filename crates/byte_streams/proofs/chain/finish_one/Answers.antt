use Rattle.std.proofs.Common.{refl}
use Rattle.byte_streams.proofs.FeedLemmas.{ends_ok}
use Rattle.byte_streams.proofs.chain.finish_one.Goals as goal

pub returns-clause-finished : goal.returns-clause-finished
returns-clause-finished g c = ends_ok _ c.finish.result c.in_ok-feed.ensures.fed refl c.finish.ensures.finished
