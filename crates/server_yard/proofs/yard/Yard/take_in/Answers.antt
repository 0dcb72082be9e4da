use Rattle.server_events.specs.JournalParts.{books_of_journal, has_room}
use Rattle.std.proofs.Common.{◌≡◌, ◌<◌, ◌+◌, ◌^◌, ◌++◌, ◌∷◌, [], ℕ, length, true, refl, sym, ap, subst, ◌∙◌, arith}
use Rattle.std.specs.BTreeMap.{get}
use Rattle.std.specs.Ordering.{nat_cmp}
use Rattle.child_jobs.specs.PlacesOut.{PlacesOut, live_of, with_place}
use Rattle.std.specs.Prelude.{option_map}
use Rattle.server_events.specs.Journals.{Books, next_report, one_more}
use Rattle.server_events.proofs.Countings.{moves, retired_in}
use Rattle.rule_lookup.specs.Peers.{Client}
use Rattle.server_events.specs.ServerState.{ServerState, after, may_admit, newcomer}
use Rattle.server_events.specs.declared.event.Event.TheVariants as event
use Rattle.server_events.proofs.History.{room_for}
use Rattle.server_yard.specs.Rooms.{room_needed}
use Rattle.server_yard.specs.Seating.{HasSeats}
use Rattle.server_yard.specs.Yards.{yard_roll}
use Rattle.server_yard.proofs.Histories.{OneMore, has_history_kept, has_history_on}
use Rattle.server_yard.proofs.Noting.{last_of, noted_by}
use Rattle.server_yard.proofs.RoomLemmas.{room-push}
use Rattle.server_yard.proofs.Seating.{live-with, seats_come, seats_lost, serials_kept}
use Rattle.server_yard.proofs.Running.{ran_kept, ran_on}
use Rattle.server_yard.proofs.yard.Yard.take_in.Goals as goal

pub invariant_of-self : goal.invariant_of-self
invariant_of-self g c =
    let old = c.args.self.now in
    let same = c.in_err-reserve.ensures.same in
    record {
      history = has_history_kept same refl old.history;
      ran = λ serves. ran_kept same refl (old.ran serves);
      small = old.small;
      live = old.live;
      retired = old.retired;
      limit = old.limit;
      seated = old.seated;
      room = c.in_err-reserve.ensures.err (room_needed old.state.connections) ∙ old.room;
    }

pub give_place-requires-clause-open : goal.give_place-requires-clause-open
give_place-requires-clause-open g c =
    let old = c.args.self.now in
    let room = room_for old.state c.args.serial c.args.peer.now c.requires.may in
    let below = room.below in
    omega (arith, old.live, old.limit, below)

pub invariant_of-self-in-Ok : goal.invariant_of-self-in-Ok
invariant_of-self-in-Ok g c =
    let old = c.args.self.now in
    let n = c.args.serial in
    let peer = c.args.peer.now in
    let copy = c.in_ok-copy.field-0 in
    let copied = c.in_ok-copy.ensures in
    let e = event.Admitted n copy in
    let s = c.give_place.new.state in
    let goes = c.in-Ok.ensures.admitted in
    let now = goes ∙ ap (λ (p : Client). after old.state (event.Admitted n p)) copied in
    let may = ap (λ (p : Client). may_admit old.state n p) copied ∙ c.requires.may in
    let room = room_for old.state n peer c.requires.may in
    let table = c.in-Ok.ensures.placed in
    let joined = ap live_of table ∙ live-with old.table c.in-Ok.place c.in-Ok.ensures.vacant in
    let live = ap (λ (u : ServerState). length u.connections) goes ∙ (moves old.state e may).live in
    let marks = ap (λ (u : ServerState). retired_in u.connections) goes ∙ (moves old.state e may).retired in
    let needed = ap (λ (u : ServerState). room_needed u.connections) now ∙ room-push old.state.connections (newcomer n peer) in
    let taken = c.in_ok-reserve.ensures.room (room_needed old.state.connections) ∙ old.room in
    let same = c.in_ok-reserve.ensures.same in
    let more : OneMore _ _ e _ _ _ = record { small = old.small; fits = c.ranges.serial.fits; may = may; happens = goes; tells_so = c.note.ensures.report ∙ ap (λ (b : Books). next_report b.report e) same; counts = c.note.ensures.count ∙ ap (λ (b : Books). one_more b.count) same; stores = c.note.ensures.notes ∙ ap (λ (b : Books). option_map (λ notes. notes ++ record { event = e; caller = old.speaker } ∷ []) b.notes) same } in
    record {
      history = has_history_on more old.history;
      ran = λ serves. ran_on more refl (old.ran serves);
      small = subst (λ (k : ℕ). k < 2 ^ 64) (sym (ap (λ (u : ServerState). u.limit) now)) old.small;
      live = omega (arith, old.live, joined, live);
      retired = ap (λ (t : PlacesOut). t.retired) table ∙ old.retired ∙ sym marks;
      limit = ap (λ (t : PlacesOut). t.limit) table ∙ old.limit ∙ sym (ap (λ (u : ServerState). u.limit) now);
      seated = subst (λ (t : PlacesOut). HasSeats (get nat_cmp c.give_place.new.seats) t s) (sym table) (subst (λ (u : ServerState). HasSeats (get nat_cmp c.give_place.new.seats) (with_place c.in-Ok.place old.table) u) (sym now) (seats_come (get nat_cmp old.seats) (get nat_cmp c.give_place.new.seats) old.table old.state n c.in-Ok.place peer room.next c.in-Ok.ensures.seated old.seated));
      room =
          c.note.ensures.room (room_needed s.connections)
          ∙ subst (λ (k : ℕ). has_room c.reserve.new.self k ≡ true) (omega (arith, needed)) taken;
    }

pub invariant_of-self-in-Err : goal.invariant_of-self-in-Err
invariant_of-self-in-Err g c =
    let old = c.args.self.now in
    let s = c.give_place.new.state in
    let err = c.in-Err.ensures.err in
    let reserved = c.in_ok-reserve.ensures.same in
    let released = c.release.ensures.same in
    let taken = c.in_ok-reserve.ensures.room (room_needed old.state.connections) ∙ old.room in
    record {
      history = has_history_kept (released ∙ reserved) err.1 old.history;
      ran = λ serves. ran_kept (released ∙ reserved) err.1 (old.ran serves);
      small = subst (λ (k : ℕ). k < 2 ^ 64) (sym (ap (λ (u : ServerState). u.limit) err.1)) old.small;
      live = ap live_of err.0 ∙ old.live ∙ sym (ap (λ (u : ServerState). length u.connections) err.1);
      retired = ap (λ (t : PlacesOut). t.retired) err.0 ∙ old.retired ∙ sym (ap (λ (u : ServerState). retired_in u.connections) err.1);
      limit = ap (λ (t : PlacesOut). t.limit) err.0 ∙ old.limit ∙ sym (ap (λ (u : ServerState). u.limit) err.1);
      seated = subst (λ (t : PlacesOut). HasSeats (get nat_cmp c.give_place.new.seats) t s) (sym err.0) (subst (λ (u : ServerState). HasSeats (get nat_cmp c.give_place.new.seats) old.table u) (sym err.1) (seats_lost (get nat_cmp old.seats) (get nat_cmp c.give_place.new.seats) old.table old.state c.in-Err.ensures.err_seats old.seated));
      room = subst (λ (u : ServerState). has_room c.release.new.self (room_needed u.connections) ≡ true) (sym err.1) (c.release.ensures.room (room_needed old.state.connections) ∙ taken);
    }

pub returns-in-Err-clause-same_seats : goal.returns-in-Err-clause-same_seats
returns-in-Err-clause-same_seats g c =
    let old = c.args.self.now in
    serials_kept (get nat_cmp old.seats) (get nat_cmp c.give_place.new.seats) old.table old.state c.in-Err.ensures.err_seats old.seated

pub returns-in-Ok-clause-seat : goal.returns-in-Ok-clause-seat
returns-in-Ok-clause-seat g c = c.in-Ok.ensures.seated

pub of-requires : goal.of-requires
of-requires g c =
    let old = c.args.self.now in
    let n = c.args.serial in
    let copied = c.in_ok-copy.ensures in
    let same = c.in_ok-reserve.ensures.same in
    let peer = c.args.peer.now in
    let shown = c.of-shown.ensures ∙ ap (λ (p : Client). event.Admitted n p) copied in
    record {
      last = last_of (event.Admitted n peer) _ (yard_roll old) _ (record {
        may = c.requires.may;
        happens = c.in-Ok.ensures.admitted ∙ ap (λ (p : Client). after old.state (event.Admitted n p)) copied;
        speaks = refl;
        tells =
            c.note.ensures.report ∙ ap (λ (p : Client). next_report (books_of_journal c.reserve.new.self).report (event.Admitted n p)) copied
            ∙ ap (λ (b : Books). next_report b.report (event.Admitted n peer)) same;
        counts = c.note.ensures.count ∙ ap (λ (b : Books). one_more b.count) same;
        stores = c.note.ensures.notes ∙ ap (λ (p : Client). option_map (λ notes. notes ++ record { event = event.Admitted n p; caller = old.speaker } ∷ []) (books_of_journal c.reserve.new.self).notes) copied ∙ ap (λ (b : Books). option_map (λ notes. notes ++ record { event = event.Admitted n peer; caller = old.speaker } ∷ []) b.notes) same;
      }) shown;
    }

pub returns-in-Ok-clause-made : goal.returns-in-Ok-clause-made
returns-in-Ok-clause-made g c =
    let old = c.args.self.now in
    let n = c.args.serial in
    let copied = c.in_ok-copy.ensures in
    let same = c.in_ok-reserve.ensures.same in
    let peer = c.args.peer.now in
    let shown = c.of-shown.ensures ∙ ap (λ (p : Client). event.Admitted n p) copied in
    noted_by (event.Admitted n peer) _ c.of.result (yard_roll old) _ (record {
      may = c.requires.may;
      happens = c.in-Ok.ensures.admitted ∙ ap (λ (p : Client). after old.state (event.Admitted n p)) copied;
      speaks = refl;
      tells =
          c.note.ensures.report ∙ ap (λ (p : Client). next_report (books_of_journal c.reserve.new.self).report (event.Admitted n p)) copied
          ∙ ap (λ (b : Books). next_report b.report (event.Admitted n peer)) same;
      counts = c.note.ensures.count ∙ ap (λ (b : Books). one_more b.count) same;
      stores = c.note.ensures.notes ∙ ap (λ (p : Client). option_map (λ notes. notes ++ record { event = event.Admitted n p; caller = old.speaker } ∷ []) (books_of_journal c.reserve.new.self).notes) copied ∙ ap (λ (b : Books). option_map (λ notes. notes ++ record { event = event.Admitted n peer; caller = old.speaker } ∷ []) b.notes) same;
    }) shown c.of.ensures.its c.of.ensures.for_speaker c.of.ensures.at

pub returns-in-Err-clause-refused : goal.returns-in-Err-clause-refused
returns-in-Err-clause-refused g c =
    let err = c.in-Err.ensures.err in
    let reserved = c.in_ok-reserve.ensures.same in
    let released = c.release.ensures.same in
    record { stays = err.1; speaks = refl; tells = ap (λ (b : Books). b.report) (released ∙ reserved); counts = ap (λ (b : Books). b.count) (released ∙ reserved); stores = ap (λ (b : Books). b.notes) (released ∙ reserved) }

pub returns-in_err-copy-clause-room : goal.returns-in_err-copy-clause-room
returns-in_err-copy-clause-room g c = λ n. refl

pub returns-in_err-reserve-clause-room : goal.returns-in_err-reserve-clause-room
returns-in_err-reserve-clause-room g c = λ n. c.in_err-reserve.ensures.err (n + room_needed c.args.self.now.state.connections)

pub returns-in-Ok-clause-room : goal.returns-in-Ok-clause-room
returns-in-Ok-clause-room g c = λ n.
    let old = c.args.self.now in
    let copy = c.in_ok-copy.field-0 in
    let s = c.give_place.new.state in
    let needed : room_needed s.connections ≡ room_needed old.state.connections + 4 = ap (λ (u : ServerState). room_needed u.connections) c.in-Ok.ensures.admitted ∙ room-push old.state.connections (newcomer c.args.serial copy) in
    let all : n + room_needed s.connections + 1 ≡ n + room_needed old.state.connections + 5 = omega (arith, needed) in
    c.note.ensures.room (n + room_needed s.connections) ∙ ap (λ (k : ℕ). has_room c.reserve.new.self k) all ∙ c.in_ok-reserve.ensures.room (n + room_needed old.state.connections)

pub returns-in-Err-clause-room : goal.returns-in-Err-clause-room
returns-in-Err-clause-room g c = λ n.
    let needed = room_needed c.args.self.now.state.connections in
    ap (λ (u : ServerState). has_room c.release.new.self (n + room_needed u.connections)) c.in-Err.ensures.err.1
    ∙ c.release.ensures.room (n + needed) ∙ c.in_ok-reserve.ensures.room (n + needed)
