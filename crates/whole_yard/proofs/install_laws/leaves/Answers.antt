use Rattle.whole_yard.proofs.Stopping.{may_be_at}
use Rattle.whole_yard.proofs.install_laws.leaves.Goals as goal

pub returns : goal.returns
returns c w s d call state at may is passes = may_be_at w s d call state at may is passes
