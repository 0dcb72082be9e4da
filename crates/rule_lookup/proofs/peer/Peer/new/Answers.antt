-- Names that were looked at may be names.
use Rattle.std.proofs.Common.{◌≡◌, true, rules}
use Rattle.rule_lookup.specs.Peers.{may_be_name}
use Rattle.rule_lookup.proofs.PeerLemmas.{HasNames-new}
use Rattle.rule_lookup.proofs.peer.Peer.new.Goals as goal

pub invariant_of-result : goal.invariant_of-result
invariant_of-result c =
    let host_may : may_be_name c.args.host ≡ true = search rules in
    let info_may : may_be_name c.args.info ≡ true = search rules in
    rw (c.in_ok-lower_name.ensures, c.in_ok-own_name.ensures) (HasNames-new c.args.host c.args.info host_may info_may)
