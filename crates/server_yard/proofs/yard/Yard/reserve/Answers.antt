use Rattle.server_events.specs.JournalParts.{has_room}
use Rattle.server_events.proofs.JournalRoom.{less_room}
use Rattle.std.proofs.Common.{refl}
use Rattle.server_yard.specs.Rooms.{room_needed}
use Rattle.server_yard.proofs.Histories.{has_history_kept}
use Rattle.server_yard.proofs.Outcomes.{kept_room}
use Rattle.server_yard.proofs.Running.{ran_kept}
use Rattle.server_yard.proofs.yard.Yard.reserve.Goals as goal

pub invariant_of-self : goal.invariant_of-self
invariant_of-self g c =
    let old = c.args.self.now in
    let same = c.reserve.ensures.same in
    let needed = room_needed old.state.connections in
    record {
      history = has_history_kept same refl old.history;
      ran = λ serves. ran_kept same refl (old.ran serves);
      small = old.small;
      live = old.live;
      retired = old.retired;
      limit = old.limit;
      seated = old.seated;
      room = kept_room (has_room old.journal) (has_room c.reserve.new.self) needed 1 c.reserve.result (λ n m l r. less_room c.reserve.new.self n m l r) c.reserve.ensures.room c.reserve.ensures.err old.room;
    }
