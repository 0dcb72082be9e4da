use Rattle.server_events.proofs.Allowed.{alive_within}
use Rattle.server_events.proofs.laws.limit.Goals as goal

pub returns : goal.returns
returns c h k = alive_within h.limit h.per_address h.events h.allowed k
