use Rattle.std.proofs.Common.{◌∙◌, ap, subst, sym}
use Rattle.child_jobs.specs.Variables.{AreOrdered, variables_in}
use Rattle.child_jobs.proofs.VariableLemmas.{left, removed-ordered, taken_away}
use Rattle.child_jobs.proofs.environment.Environment.remove.Goals as goal

pub returns-then-is_named : goal.returns-then-is_named
returns-then-is_named c =
    ap variables_in c.remove.ensures.items
    ∙ taken_away c.self.inside.variables.items c.args.self.now c.args.name.now c.position_of-position.result c.self.view_is c.position_of-position.ensures.position
    (subst AreOrdered c.self.view_is c.self.invariant) (sym c.is_named.ensures ∙ c.if-is_named.true)

pub invariant_of-self : goal.invariant_of-self
invariant_of-self c =
    let ordered = subst AreOrdered c.self.view_is c.self.invariant in
    let now = taken_away c.self.inside.variables.items c.args.self.now c.args.name.now c.position_of-position.result c.self.view_is c.position_of-position.ensures.position ordered (sym c.is_named.ensures ∙ c.if-is_named.true) in
    subst AreOrdered (sym (ap variables_in c.remove.ensures.items ∙ now)) (removed-ordered c.args.name.now c.args.self.now ordered)

pub returns-else-is_named : goal.returns-else-is_named
returns-else-is_named c =
    left c.self.inside.variables.items c.args.self.now c.args.name.now c.position_of-position.result c.self.view_is c.position_of-position.ensures.position
    (subst AreOrdered c.self.view_is c.self.invariant) (sym c.is_named.ensures ∙ c.if-is_named.false)
