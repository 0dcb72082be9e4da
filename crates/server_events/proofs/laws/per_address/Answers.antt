use Rattle.server_events.proofs.Allowed.{from_one_within}
use Rattle.server_events.proofs.laws.per_address.Goals as goal

pub returns : goal.returns
returns c h ip k = from_one_within h.limit h.per_address h.events h.allowed ip k
