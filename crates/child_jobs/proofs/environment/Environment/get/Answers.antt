use Rattle.std.proofs.Common.{◌∙◌, ap, slice_get, sym}
use Rattle.child_jobs.specs.Variables.{value_at}
use Rattle.child_jobs.proofs.VariableLemmas.{value_of-at}
use Rattle.child_jobs.proofs.environment.Environment.get.Goals as goal

pub returns : goal.returns
returns c =
    c.value_at.ensures
    ∙ ap (λ position. value_at c.args.name.now (slice_get c.args.self.now position)) c.position_of.ensures.position
    ∙ sym (value_of-at c.args.name.now c.args.self.now c.position_of.ensures.ordered)
