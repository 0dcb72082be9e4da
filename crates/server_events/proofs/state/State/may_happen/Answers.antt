use Rattle.std.proofs.Common.{sym, ap, ◌∙◌}
use Rattle.server_events.specs.ServerState.{may_happen}
use Rattle.server_events.proofs.state.State.may_happen.Goals as goal

pub returns-in-Admitted : goal.returns-in-Admitted
returns-in-Admitted c = c.may_admit.ensures ∙ sym (ap (may_happen c.args.self.now) c.in-Admitted.is)
