use Rattle.std.proofs.Common.{◌≡◌, rules, ap, ◌∙◌}
use Rattle.std.specs.Prelude.{option_map}
use Rattle.std.specs.BTreeMap.{is_at}
use Rattle.std.specs.Map.{lookup}
use Rattle.std.specs.Ordering.{nat_cmp}
use Rattle.server_events.specs.ServerState.{ServerState, stage_of}
use Rattle.server_events.specs.declared.state.Connection.{Connection}
use Rattle.server_events.proofs.Entries.{finds_serial, lookup-stage_of}
use Rattle.server_events.proofs.state.State.stage.Goals as goal

pub returns : goal.returns
returns c =
    let n = c.args.serial in
    let es = c.self.inside.connections.entries in
    let mapped : c.map.result ≡ option_map (λ (x : Connection). x.stage) (lookup (is_at (nat_cmp n)) es) = search rules in
    mapped ∙ lookup-stage_of (is_at (nat_cmp n)) n (finds_serial n) es c.self.invariant.own ∙ ap (λ (u : ServerState). stage_of n u.connections) c.self.view_is
