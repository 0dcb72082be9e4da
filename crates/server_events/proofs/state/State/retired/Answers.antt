use Rattle.std.proofs.Common.{◌≡◌, rules, ap, ◌∙◌}
use Rattle.std.specs.BTreeMap.{values}
use Rattle.std.specs.List.{count_by}
use Rattle.server_events.specs.ServerState.{ServerState, is_retired}
use Rattle.server_events.specs.declared.state.Connection.{Connection}
use Rattle.server_events.proofs.state.State.retired.Goals as goal

pub returns : goal.returns
returns c =
    let counted : c.count.result ≡ count_by (λ (x : Connection). is_retired x.stage) (values c.self.inside.connections) = search rules in
    counted ∙ ap (λ (u : ServerState). count_by (λ (x : Connection). is_retired x.stage) u.connections) c.self.view_is
