use Rattle.std.proofs.Common.{◌≡◌, ◌+◌, List, [], ◌∷◌, ◌++◌, refl, ap, ◌∙◌, arith}
use Rattle.server_events.specs.ServerState.{ServerState, newcomer}
use Rattle.server_events.specs.contracts.state.State.{the_view}
use Rattle.server_events.specs.declared.state.Connection.{Connection}
use Rattle.server_events.proofs.Tallies.{count_same}
use Rattle.server_events.proofs.History.{room_for}
use Rattle.server_events.proofs.KeptLemmas.{kept_same, kept_admitted, values_admitted}
use Rattle.server_events.proofs.state.State.admit.Goals as goal

pub invariant_of-self : goal.invariant_of-self
invariant_of-self c =
    let s = c.self.inside in
    kept_same s c.self.invariant s.connections c.add.new.self refl (count_same s.addresses c.add.new.self c.in_err-add.ensures.unchanged)

pub invariant_of-self-2 : goal.invariant_of-self-2
invariant_of-self-2 c =
    let s = c.self.inside in
    let room = room_for c.args.self.now c.args.serial c.args.peer c.requires.may_admit in
    let last = ap (λ (u : ServerState). u.last) c.self.view_is in
    let next : c.args.serial ≡ s.last + 1 = omega arith in
    kept_admitted s c.self.invariant c.insert.new.self c.args.serial c.args.peer next c.in_default.ensures.entries c.add.new.self c.ip-ip.result c.ip-ip.ensures c.in_ok-add.ensures.added

pub returns-clause-applied : goal.returns-clause-applied
returns-clause-applied c =
    let s = c.self.inside in
    let n = c.args.serial in
    let x = newcomer n c.args.peer in
    let room = room_for c.args.self.now n c.args.peer c.requires.may_admit in
    let last = ap (λ (u : ServerState). u.last) c.self.view_is in
    let next : n ≡ s.last + 1 = omega arith in
    ap (λ (cs : List Connection). record (the_view s) { last = n; connections = cs }) (values_admitted s c.self.invariant c.insert.new.self n c.args.peer next c.in_default.ensures.entries)
    ∙ ap (λ (u : ServerState). record u { last = n; connections = u.connections ++ x ∷ [] }) c.self.view_is
