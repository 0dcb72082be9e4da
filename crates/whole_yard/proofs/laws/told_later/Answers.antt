use Rattle.whole_yard.proofs.Told.{told_later}
use Rattle.whole_yard.proofs.laws.told_later.Goals as goal

pub returns : goal.returns
returns c history events u w y z files n bytes reaches waits woven apart at found leads =
    told_later history events u w y z files n bytes reaches waits woven apart at found leads
