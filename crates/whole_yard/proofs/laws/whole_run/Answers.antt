use Rattle.whole_yard.proofs.WholeRun.{whole_run}
use Rattle.whole_yard.proofs.laws.whole_run.Goals as goal

pub returns : goal.returns
returns c books server events order found missing w run by in_order begins =
    whole_run books server events order found missing w run by in_order begins
