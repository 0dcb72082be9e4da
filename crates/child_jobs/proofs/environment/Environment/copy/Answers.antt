use Rattle.std.proofs.Common.{◌∙◌, subst, sym}
use Rattle.child_jobs.specs.Variables.{AreOrdered}
use Rattle.child_jobs.proofs.VariableLemmas.{seen-clones}
use Rattle.child_jobs.proofs.environment.Environment.copy.Goals as goal

pub invariant_of-result : goal.invariant_of-result
invariant_of-result c =
    subst AreOrdered (sym (seen-clones c.self.inside.variables.items c.in_ok-clone.field-0.items c.in_ok-clone.ensures.cases.0)) c.self.invariant

pub returns : goal.returns
returns c = seen-clones c.self.inside.variables.items c.in_ok-clone.field-0.items c.in_ok-clone.ensures.cases.0 ∙ c.self.view_is
