use Rattle.headline.proofs.Done.{done_stands}
use Rattle.headline.proofs.laws.done.Goals as goal

pub returns : goal.returns
returns c w v r u last image leaves = done_stands last.history w v r u last.reached last.rules last.under_way last.step image leaves
