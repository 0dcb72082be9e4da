use Rattle.server_events.proofs.KeptLemmas.{kept_empty}
use Rattle.server_events.proofs.state.State.new.Goals as goal

pub invariant_of-result : goal.invariant_of-result
invariant_of-result c = kept_empty _ c.new.ensures.empty c.new-2.ensures
