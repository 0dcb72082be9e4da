use Rattle.std.proofs.Common.{ap}
use Rattle.headline.specs.Worlds.{World}
use Rattle.headline.proofs.laws.keeps.Goals as goal

pub returns-clause-added : goal.returns-clause-added
returns-clause-added c w v step = (step.moves.0, step.moves.3, ap (λ (x : World). x.accepted) step.moves.6)
