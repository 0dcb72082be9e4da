use Rattle.std.proofs.Common.{ℕ, refl, sym, ap, ◌∙◌, subst}
use Rattle.std.specs.BTreeMap.{BTreeMap, is_at, values}
use Rattle.std.specs.Ordering.{nat_cmp}
use Rattle.server_events.specs.Kept.{Kept}
use Rattle.server_events.specs.ServerState.{with_stage}
use Rattle.server_events.specs.contracts.state.State.{the_view}
use Rattle.server_events.specs.declared.state.Connection.{Connection}
use Rattle.server_events.proofs.Entries.{finds_serial, with_stage-absent}
use Rattle.server_events.proofs.KeptLemmas.{view_with, kept_same, kept_staged, values_staged}
use Rattle.server_events.proofs.state.State.set_stage.Goals.{in-Some, in_default}
use Rattle.server_events.proofs.state.State.set_stage.Goals as goal

pub invariant_of-self : goal.invariant_of-self
invariant_of-self c =
    let s = c.self.inside in
    elim c.match-get_mut.branch [
      | in-Some w ↦
          (let x = w.in-Some.connection.now in
          let y = record x { stage = c.args.stage } in
          subst Kept (sym w.self-inside-is) (kept_staged s c.self.invariant (c.get_mut.follows.lender y) c.args.serial x (sym w.in-Some.ensures.value) c.args.stage (c.get_mut.follows.holds y).0))
      | in_default w ↦
          (let same = ap (λ (m : BTreeMap ℕ Connection). m.entries) c.get_mut.follows.holds-at-none in
          subst Kept (sym w.self-inside-is) (kept_same s c.self.invariant c.get_mut.follows.lender-at-none s.addresses same (λ q. refl)))
    ]

pub returns : goal.returns
returns c =
    let s = c.self.inside in
    let n = c.args.serial in
    elim c.match-get_mut.branch [
      | in-Some w ↦
          (let x = w.in-Some.connection.now in
          let y = record x { stage = c.args.stage } in
          let m = c.get_mut.follows.lender y in
          ap the_view w.self-inside-is
          ∙ view_with s c.args.self.now m (with_stage n c.args.stage) c.self.view_is (values_staged s c.self.invariant m n x (sym w.in-Some.ensures.value) c.args.stage (c.get_mut.follows.holds y).0))
      | in_default w ↦
          (let m = c.get_mut.follows.lender-at-none in
          let absent = with_stage-absent (is_at (nat_cmp n)) n (finds_serial n) c.args.stage s.connections.entries c.self.invariant.own (sym w.in_default.ensures.value) in
          ap the_view w.self-inside-is
          ∙ view_with s c.args.self.now m (with_stage n c.args.stage) c.self.view_is (ap (λ (t : BTreeMap ℕ Connection). values t) c.get_mut.follows.holds-at-none ∙ sym absent))
    ]
