use Rattle.server_events.proofs.KeptLemmas.{kept_empty}
use Rattle.server_events.proofs.state.State.stop.Goals as goal

pub invariant_of-self : goal.invariant_of-self
invariant_of-self c = kept_empty _ c.clear.ensures.empty c.clear-2.ensures
