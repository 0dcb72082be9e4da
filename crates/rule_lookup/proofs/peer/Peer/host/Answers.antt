-- The names of every peer may be names.
use Rattle.std.proofs.Common.{subst}
use Rattle.rule_lookup.specs.Peers.{Client, HasNames}
use Rattle.rule_lookup.proofs.peer.Peer.host.Goals as goal

pub returns-clause-names : goal.returns-clause-names
returns-clause-names c = subst (λ (p : Client). HasNames p.host p.info) c.self.view_is c.self.invariant
