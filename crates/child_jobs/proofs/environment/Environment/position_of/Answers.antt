use Rattle.std.proofs.Common.{◌∙◌, ap, rules, of_calls, subst, sym}
use Rattle.std.proofs.lemmas.Fn.{always_returns_same}
use Rattle.child_jobs.specs.Variables.{AreOrdered, Variables, position_of, variables_in}
use Rattle.child_jobs.proofs.VariableLemmas.{searched, stands_below}
use Rattle.child_jobs.proofs.environment.Environment.position_of.Goals as goal

pub returns-clause-ordered : goal.returns-clause-ordered
returns-clause-ordered c = subst AreOrdered c.self.view_is c.self.invariant

pub returns-clause-position : goal.returns-clause-position
returns-clause-position c =
    let name = c.args.name.now in
    let ordered = subst (λ all. AreOrdered (variables_in all)) (sym c.deref.ensures.value) c.self.invariant in
    let point = c.partition_point.ensures.partitioned (stands_below name) (always_returns_same _ _ _ (λ a r f k. search (rules, of_calls))) in
    searched name c.deref.result.now c.partition_point.result ordered c.partition_point.ensures.bound point
    ∙ ap (λ all. position_of (variables_in all) name) c.deref.ensures.value
    ∙ ap (λ (vars : Variables). position_of vars name) c.self.view_is
