use Rattle.std.proofs.Common.{refl, sym, ◌∙◌}
use Rattle.server_yard.specs.Rooms.{room_needed}
use Rattle.server_yard.proofs.Histories.{has_history_kept}
use Rattle.server_yard.proofs.Running.{ran_kept}
use Rattle.server_yard.proofs.yard.Yard.release.Goals as goal

pub invariant_of-self : goal.invariant_of-self
invariant_of-self g c =
    let old = c.args.self.now in
    let same = c.release.ensures.same in
    record {
      history = has_history_kept same refl old.history;
      ran = λ serves. ran_kept same refl (old.ran serves);
      small = old.small;
      live = old.live;
      retired = old.retired;
      limit = old.limit;
      seated = old.seated;
      room = c.release.ensures.room (room_needed old.state.connections) ∙ c.requires.room;
    }

pub returns-clause-one_less : goal.returns-clause-one_less
returns-clause-one_less g c = λ n. sym (c.release.ensures.room n)
