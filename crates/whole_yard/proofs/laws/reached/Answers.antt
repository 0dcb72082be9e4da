use Rattle.whole_yard.proofs.Reached.{reached}
use Rattle.whole_yard.proofs.laws.reached.Goals as goal

pub returns : goal.returns
returns c y z files history new series = reached y z files history new series
