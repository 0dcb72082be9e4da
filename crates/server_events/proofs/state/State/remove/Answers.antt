use Rattle.std.proofs.Common.{refl, sym, ◌∙◌}
use Rattle.server_events.specs.ServerState.{without}
use Rattle.server_events.proofs.KeptLemmas.{view_with, counted_here, kept_same, kept_removed, values_removed}
use Rattle.server_events.proofs.state.State.remove.Goals.{in-Some-2, in-None-2}
use Rattle.server_events.proofs.state.State.remove.Goals as goal

pub leave-requires : goal.leave-requires
leave-requires c = counted_here c.self.inside c.self.invariant c.args.serial c.in-Some.connection (sym c.in-Some.ensures.value) c.ip.result c.ip.ensures

pub invariant_of-self : goal.invariant_of-self
invariant_of-self c =
    kept_removed c.self.inside c.self.invariant c.remove.new.self c.args.serial c.remove.ensures.entries c.in-Some.connection (sym c.in-Some.ensures.value) c.leave.new.self c.ip.result c.ip.ensures c.leave.ensures.left

pub invariant_of-self-in-Some-2 : goal.invariant_of-self-in-Some-2
invariant_of-self-in-Some-2 c =
    kept_removed c.self.inside c.self.invariant c.remove.new.self c.args.serial c.remove.ensures.entries c.in-Some.connection (sym c.in-Some.ensures.value) c.leave.new.self c.ip.result c.ip.ensures c.leave.ensures.left

pub invariant_of-self-in_default : goal.invariant_of-self-in_default
invariant_of-self-in_default c =
    kept_same c.self.inside c.self.invariant c.remove.new.self c.self.inside.addresses c.in_default.ensures.unchanged (λ q. refl)

pub returns-in-Some : goal.returns-in-Some
returns-in-Some c =
    let seen = view_with c.self.inside c.args.self.now c.remove.new.self (without c.args.serial) c.self.view_is (values_removed c.self.inside c.self.invariant c.remove.new.self c.args.serial c.remove.ensures.entries) in
    elim c.match-connection-2.branch [ in-Some-2 w ↦ w.self-is ∙ seen | in-None-2 w ↦ w.self-is ∙ seen ]

pub returns-in_default : goal.returns-in_default
returns-in_default c =
    view_with c.self.inside c.args.self.now c.remove.new.self (without c.args.serial) c.self.view_is (values_removed c.self.inside c.self.invariant c.remove.new.self c.args.serial c.remove.ensures.entries)
