use Rattle.std.proofs.Common.{ap, ◌∙◌, arith}
use Rattle.server_events.specs.ServerState.{count_from}
use Rattle.server_events.proofs.History.{has_room}
use Rattle.server_yard.proofs.Admitting.{all_within, each_within}
use Rattle.server_yard.proofs.yard.Yard.next_serial.Goals as goal

pub returns-clause-may : goal.returns-clause-may
returns-clause-may g c =
    let old = c.args.self.now in
    let peer = c.args.peer.now in
    let all = all_within _ old.state old.history in
    let each = each_within _ old.state peer.ip old.history in
    let live = c.live.ensures.value ∙ old.live in
    let limit = c.limit.ensures ∙ old.limit in
    let from = c.live_from.ensures ∙ ap (λ ip. count_from ip old.state.connections) c.ip.ensures in
    let per = c.address_limit.ensures in
    let some = c.in-Some.ensures in
    let last = c.last.ensures in
    let other = c.if-live-limit.false in
    let other_here = c.if-live_from-address_limit.false in
    has_room old.state c.in-Some.serial peer (record {
      next = omega (arith, some, last);
      below = grind (arith, all, live, limit, other);
      below_here = grind (arith, each, from, per, other_here);
    })

pub returns-clause-full_for_address : goal.returns-clause-full_for_address
returns-clause-full_for_address g c =
    let old = c.args.self.now in
    let from = c.live_from.ensures ∙ ap (λ ip. count_from ip old.state.connections) c.ip.ensures in
    let per = c.address_limit.ensures in
    let other = c.if-live_from-address_limit.false in
    (λ e. absurd (cc), λ full. absurd (let here = full.1.2 in grind (arith, from, per, other, here)))
