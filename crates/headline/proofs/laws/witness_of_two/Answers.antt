use Rattle.headline.proofs.TwoProcesses.{woven_around}
use Rattle.headline.proofs.laws.witness_of_two.Goals as goal

pub returns : goal.returns
returns c = woven_around
