-- A copy has the same names.
use Rattle.rule_lookup.proofs.peer.Peer.copy.Goals as goal

pub invariant_of-result : goal.invariant_of-result
invariant_of-result c = rw (c.in_ok-copy_name.ensures, c.in_ok-copy_name-2.ensures) c.self.invariant
