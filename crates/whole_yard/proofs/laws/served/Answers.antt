use Rattle.whole_yard.proofs.Served.{served}
use Rattle.whole_yard.proofs.laws.served.Goals as goal

pub returns : goal.returns
returns c n history events y z files reached here serves = served n history events y z files reached here serves
