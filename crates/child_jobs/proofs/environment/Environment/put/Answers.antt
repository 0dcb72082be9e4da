use Rattle.std.proofs.Common.{◌≤◌, ◌∙◌, ap, subst, sym}
use Rattle.child_jobs.specs.Variables.{AreOrdered, variables_in}
use Rattle.child_jobs.proofs.VariableLemmas.{position_within, put-ordered, put_between, put_over}
use Rattle.child_jobs.proofs.environment.Environment.put.Goals as goal

pub returns-then-is_named-clause-put : goal.returns-then-is_named-clause-put
returns-then-is_named-clause-put c =
    put_over c.self.inside.variables.items c.args.self.now c.args.name.now c.position_of-position.result c.self.view_is c.position_of-position.ensures.position c.args.value.now c.in_ok-variable.variable
    (c.in_ok-variable.ensures.ok ∙ c.in_ok-new.ensures) (sym c.is_named.ensures ∙ c.if-is_named.true)

pub invariant_of-self : goal.invariant_of-self
invariant_of-self c =
    let now = put_over c.self.inside.variables.items c.args.self.now c.args.name.now c.position_of-position.result c.self.view_is c.position_of-position.ensures.position c.args.value.now c.in_ok-variable.variable
    (c.in_ok-variable.ensures.ok ∙ c.in_ok-new.ensures) (sym c.is_named.ensures ∙ c.if-is_named.true) in
    subst AreOrdered (sym now) (put-ordered c.args.name.now c.args.value.now c.args.self.now (subst AreOrdered c.self.view_is c.self.invariant))

pub insert-requires : goal.insert-requires
insert-requires c =
    subst (λ n. c.position_of-position.result ≤ n) (sym c.self.inside.variables.ok.0)
    (position_within c.self.inside.variables.items c.args.self.now c.args.name.now c.position_of-position.result c.self.view_is c.position_of-position.ensures.position)

pub returns-in_ok-insert-clause-put : goal.returns-in_ok-insert-clause-put
returns-in_ok-insert-clause-put c =
    ap variables_in c.in_ok-insert.ensures.items
    ∙ put_between c.self.inside.variables.items c.args.self.now c.args.name.now c.position_of-position.result c.self.view_is c.position_of-position.ensures.position c.args.value.now c.in_ok-variable.variable
    (c.in_ok-variable.ensures.ok ∙ c.in_ok-new.ensures) (sym c.is_named.ensures ∙ c.if-is_named.false)

pub invariant_of-self-in_ok-insert : goal.invariant_of-self-in_ok-insert
invariant_of-self-in_ok-insert c =
    let now = put_between c.self.inside.variables.items c.args.self.now c.args.name.now c.position_of-position.result c.self.view_is c.position_of-position.ensures.position c.args.value.now c.in_ok-variable.variable
    (c.in_ok-variable.ensures.ok ∙ c.in_ok-new.ensures) (sym c.is_named.ensures ∙ c.if-is_named.false) in
    subst AreOrdered (sym (ap variables_in c.in_ok-insert.ensures.items ∙ now)) (put-ordered c.args.name.now c.args.value.now c.args.self.now (subst AreOrdered c.self.view_is c.self.invariant))
