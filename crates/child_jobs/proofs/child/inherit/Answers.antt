use Rattle.child_jobs.proofs.VariableLemmas.{without_more}
use Rattle.child_jobs.proofs.child.inherit.Goals as goal

pub loop-name-preserved : goal.loop-name-preserved
loop-name-preserved c =
    without_more _ _ _ _ c.loop-name.name-index _ c.loop-name-test.true c.loop-name.invariant c.remove.ensures
