use Rattle.std.proofs.Common.{subst, sym}
use Rattle.child_jobs.specs.Variables.{AreOrdered, variables_in}
use Rattle.child_jobs.proofs.VariableLemmas.{none-ordered}
use Rattle.child_jobs.proofs.environment.Environment.new.Goals as goal

pub invariant_of-result : goal.invariant_of-result
invariant_of-result c = subst (λ all. AreOrdered (variables_in all)) (sym c.new.ensures.items) none-ordered
