use Rattle.headline.proofs.StartedAgain.{begins_again}
use Rattle.headline.proofs.laws.again.Goals as goal

pub returns : goal.returns
returns c = begins_again
