use Rattle.std.proofs.Common.{ap, ◌∙◌}
use Rattle.std.specs.Prelude.{option_map}
use Rattle.std.specs.BTreeMap.{is_at}
use Rattle.std.specs.Ordering.{nat_cmp}
use Rattle.server_events.specs.ServerState.{ServerState, peer_of}
use Rattle.server_events.specs.declared.state.Connection.{Connection}
use Rattle.server_events.proofs.Entries.{finds_serial, lookup-peer_of}
use Rattle.server_events.proofs.state.State.peer.Goals as goal

pub returns-in-Some : goal.returns-in-Some
returns-in-Some c =
    let n = c.args.serial in
    let es = c.self.inside.connections.entries in
    ap (λ o. option_map (λ (x : Connection). x.peer) o) c.in-Some.ensures.value
    ∙ lookup-peer_of (is_at (nat_cmp n)) n (finds_serial n) es c.self.invariant.own
    ∙ ap (λ (u : ServerState). peer_of n u.connections) c.self.view_is

pub returns-in-None : goal.returns-in-None
returns-in-None c =
    let n = c.args.serial in
    let es = c.self.inside.connections.entries in
    ap (λ o. option_map (λ (x : Connection). x.peer) o) c.in-None.ensures.value
    ∙ lookup-peer_of (is_at (nat_cmp n)) n (finds_serial n) es c.self.invariant.own
    ∙ ap (λ (u : ServerState). peer_of n u.connections) c.self.view_is
