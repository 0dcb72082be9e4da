use Rattle.std.proofs.Common.{codes, ◌∙◌}
use Rattle.std.specs.Prelude.{Some}
use Rattle.rule_lookup.specs.Peers.{given}
use Rattle.rules_tools.specs.Clients.{address_told, client_by, known}
use Rattle.rules_tools.proofs.ClientLemmas.{refused_peer, same_client, told_peer}
use Rattle.rules_tools.proofs.variables.read_peer.Goals as goal

pub returns-clause-told : goal.returns-clause-told
returns-clause-told g c = λ honest.
    let value = g.V.Variables.value c.args.variables.now in
    told_peer value (client_by (Some c.in_ok-ip.ip) (given c.as_deref.result) (given c.as_deref-2.result))
    (same_client c.in_ok-ip.ip (address_told (known (value (codes "TCPREMOTEIP")))) _ _ _ _ (c.in_ok-ip.ensures.told honest)
    (c.as_deref.ensures.value ∙ c.in_ok-host.ensures honest) (c.as_deref-2.ensures.value ∙ c.in_ok-info.ensures honest))
    c.make_peer.result c.make_peer.ensures.told

pub returns-clause-refused : goal.returns-clause-refused
returns-clause-refused g c = λ honest.
    let value = g.V.Variables.value c.args.variables.now in
    refused_peer value (client_by (Some c.in_ok-ip.ip) (given c.as_deref.result) (given c.as_deref-2.result))
    (same_client c.in_ok-ip.ip (address_told (known (value (codes "TCPREMOTEIP")))) _ _ _ _ (c.in_ok-ip.ensures.told honest)
    (c.as_deref.ensures.value ∙ c.in_ok-host.ensures honest) (c.as_deref-2.ensures.value ∙ c.in_ok-info.ensures honest))
    c.make_peer.result c.make_peer.ensures.refused
