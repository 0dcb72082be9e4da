use Rattle.whole_yard.proofs.Besides.{by_itself}
use Rattle.whole_yard.proofs.laws.beside.Goals as goal

pub returns : goal.returns
returns c w y z files more event own at leads = by_itself w y z files more event own at leads
