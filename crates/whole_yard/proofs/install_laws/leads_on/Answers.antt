use Rattle.whole_yard.proofs.Leading.{arrives}
use Rattle.whole_yard.proofs.install_laws.leads_on.Goals as goal

pub returns : goal.returns
returns c s t d e result makes w at = arrives s t d e result makes w at
