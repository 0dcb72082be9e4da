use Rattle.server_events.specs.JournalParts.{has_room}
use Rattle.server_events.proofs.JournalRoom.{less_room}
use Rattle.std.proofs.Common.{◌≡◌, ◌<◌, ◌+◌, ◌^◌, ℕ, true, refl, rules, sym, ap, subst, ◌∙◌, arith}
use Rattle.std.specs.BTreeMap.{get}
use Rattle.std.specs.Ordering.{nat_cmp}
use Rattle.child_jobs.specs.Runs.{place_of}
use Rattle.child_jobs.specs.PlacesOut.{PlacesOut, live_of}
use Rattle.server_events.proofs.Countings.{moves, retired_in}
use Rattle.server_events.specs.ServerState.{ServerState}
use Rattle.server_events.specs.declared.event.Event.TheVariants as event
use Rattle.server_events.proofs.Peers.{stage_of-peer_of}
use Rattle.server_yard.specs.Rooms.{room_needed}
use Rattle.server_yard.specs.Yards.{yard_roll}
use Rattle.server_yard.proofs.Histories.{OneMore, has_history_on}
use Rattle.server_yard.proofs.Noting.{last_of, noted_by}
use Rattle.server_yard.proofs.Peopled.{NobodyMoves, retired_stays, started_is}
use Rattle.server_yard.proofs.RoomLemmas.{room_retired}
use Rattle.server_yard.proofs.Running.{ran_on}
use Rattle.server_yard.proofs.Seating.{seats_same, seats_stay}
use Rattle.server_yard.proofs.yard.Yard.retired.Goals as goal

pub retire-requires : goal.retire-requires
retire-requires g c =
    let old = c.args.self.now in
    let in_turn = c.is_in_turn.ensures.0 (search rules) in
    let started = started_is _ in_turn.may in
    let its = stage_of-peer_of c.args.serial _ old.state.connections started in
    let seat = ap (get nat_cmp old.seats) (sym (c.index.ensures ∙ c.place.ensures)) ∙ in_turn.seat in
    old.seated.is_out (place_of c.args.running) c.args.serial its.0 seat its.1

pub note-requires : goal.note-requires
note-requires g c =
    let old = c.args.self.now in
    let in_turn = c.is_in_turn.ensures.0 (search rules) in
    let less = room_retired old.state c.args.serial (started_is _ in_turn.may) in
    less_room old.journal 1 (room_needed old.state.connections) (omega (arith, less)) old.room

pub invariant_of-self : goal.invariant_of-self
invariant_of-self g c =
    let old = c.args.self.now in
    let n = c.args.serial in
    let e = event.Retired n in
    let s = c.apply.new.self in
    let in_turn = c.is_in_turn.ensures.0 (search rules) in
    let staged = started_is _ in_turn.may in
    let now = c.in-Ok.ensures.applied in
    let stays = subst (λ (u : ServerState). NobodyMoves old.state u) (sym now) (retired_stays old.state n) in
    let table = c.retire.ensures in
    let marks = ap (λ (u : ServerState). retired_in u.connections) now ∙ (moves old.state e in_turn.may).retired in
    let less = ap (λ (u : ServerState). room_needed u.connections + 1) now ∙ room_retired old.state n staged in
    let more : OneMore _ _ e _ _ _ = record { small = old.small; fits = tt; may = in_turn.may; happens = now; tells_so = c.note.ensures.report; counts = c.note.ensures.count; stores = c.note.ensures.notes } in
    record {
      history = has_history_on more old.history;
      ran = λ serves. ran_on more refl (old.ran serves);
      small = subst (λ (k : ℕ). k < 2 ^ 64) (sym stays.limit) old.small;
      live = ap live_of table ∙ old.live ∙ sym stays.live;
      retired = ap (λ (t : PlacesOut). t.retired) table ∙ ap (λ (k : ℕ). k + 1) old.retired ∙ sym marks;
      limit = ap (λ (t : PlacesOut). t.limit) table ∙ old.limit ∙ sym stays.limit;
      seated = seats_same (get nat_cmp old.seats) (get nat_cmp old.seats) old.table c.retire.new.table s (λ i. refl) (ap (λ (t : PlacesOut). t.places) table) (seats_stay (get nat_cmp old.seats) old.table old.state s stays old.seated);
      room = c.note.ensures.room (room_needed s.connections) ∙ subst (λ (k : ℕ). has_room old.journal k ≡ true) (sym less) old.room;
    }

pub of-requires-2 : goal.of-requires-2
of-requires-2 g c = record {
  last = last_of (event.Retired c.args.serial) _ (yard_roll c.args.self.now) _ (record {
    may = (c.is_in_turn.ensures.0 (search rules)).may;
    happens = c.in-Ok.ensures.applied;
    speaks = refl;
    tells = c.note.ensures.report;
    counts = c.note.ensures.count;
    stores = c.note.ensures.notes;
  }) c.of-shown.ensures;
}

pub returns-clause-makes : goal.returns-clause-makes
returns-clause-makes g c =
    let old = c.args.self.now in
    let s = c.apply.new.self in
    let in_turn = c.is_in_turn.ensures.0 (search rules) in
    let less = ap (λ (u : ServerState). room_needed u.connections + 1) c.in-Ok.ensures.applied ∙ room_retired old.state c.args.serial (started_is _ in_turn.may) in
    record {
      own = refl;
      made = noted_by (event.Retired c.args.serial) _ c.of-2.result (yard_roll old) _ (record {
        may = in_turn.may;
        happens = c.in-Ok.ensures.applied;
        speaks = refl;
        tells = c.note.ensures.report;
        counts = c.note.ensures.count;
        stores = c.note.ensures.notes;
      }) c.of-shown.ensures c.of-2.ensures.its c.of-2.ensures.for_speaker c.of-2.ensures.at;
      out = tt;
      room = λ m.
          let all : m + room_needed s.connections + 1 ≡ m + room_needed old.state.connections = omega (arith, less) in
          c.note.ensures.room (m + room_needed s.connections) ∙ ap (λ (k : ℕ). has_room old.journal k) all;
      seats = λ i. refl;
    }
