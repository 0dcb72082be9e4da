use Rattle.headline.proofs.AllowedSteps.{legal_is}
use Rattle.headline.proofs.laws.allowed.Goals as goal

pub returns-clause-legal : goal.returns-clause-legal
returns-clause-legal c v w history legal = (legal_is legal).0

pub returns-clause-same : goal.returns-clause-same
returns-clause-same c v w history legal = (legal_is legal).1
