use Rattle.server_events.specs.JournalParts.{has_room}
use Rattle.server_events.proofs.JournalRoom.{less_room}
use Rattle.std.proofs.Common.{◌≡◌, ◌<◌, ◌+◌, ◌^◌, ℕ, length, true, sym, ap, subst, ◌∙◌, arith}
use Rattle.std.specs.BTreeMap.{get}
use Rattle.std.specs.Ordering.{nat_cmp}
use Rattle.child_jobs.specs.PlacesOut.{PlacesOut, live_of, without_place}
use Rattle.server_events.specs.Journals.{Books}
use Rattle.server_events.proofs.Countings.{length-without-some, retired_in, retired_in-without}
use Rattle.server_events.specs.ServerState.{ServerState, stage_of, without}
use Rattle.server_events.proofs.Peers.{stage_of-peer_of}
use Rattle.server_yard.specs.Rooms.{room_needed}
use Rattle.server_yard.specs.Seating.{HasSeats}
use Rattle.server_yard.proofs.Histories.{OneMore, distinct, has_history_on, nothing}
use Rattle.server_yard.proofs.Peopled.{leaver_fits, leaver_own, not_retired}
use Rattle.server_yard.proofs.RoomLemmas.{goes_off, room-without, spare_is}
use Rattle.server_yard.proofs.Seating.{live-without, seats_go}
use Rattle.server_yard.proofs.Running.{ran_on}
use Rattle.server_yard.proofs.yard.Yard.leave.Goals as goal

pub leave-requires : goal.leave-requires
leave-requires g c =
    let old = c.args.self.now in
    let off = goes_off old.state c.args.event c.args.serial c.requires.kind c.requires.may in
    let its = stage_of-peer_of c.args.serial off.at old.state.connections off.has_stage in
    old.seated.is_out c.args.place c.args.serial its.0 c.requires.seat its.1

pub note-requires : goal.note-requires
note-requires g c =
    let old = c.args.self.now in
    let off = goes_off old.state c.args.event c.args.serial c.requires.kind c.requires.may in
    let sums = room-without c.args.serial off.at old.state.connections off.has_stage in
    less_room old.journal 1 (room_needed old.state.connections) (omega (arith, sums, off.some_left)) old.room

pub release-requires : goal.release-requires
release-requires g c =
    let old = c.args.self.now in
    let off = goes_off old.state c.args.event c.args.serial c.requires.kind c.requires.may in
    let sums = room-without c.args.serial off.at old.state.connections off.has_stage in
    let spare = c.spare-spare.ensures ∙ spare_is old.state c.args.serial off.at off.has_stage in
    c.note.ensures.room c.spare-spare.result
    ∙ less_room old.journal (c.spare-spare.result + 1) (room_needed old.state.connections) (omega (arith, sums, spare, off.some_left)) old.room

pub invariant_of-self : goal.invariant_of-self
invariant_of-self g c =
    let old = c.args.self.now in
    let e = c.args.event in
    let n = c.args.serial in
    let place = c.args.place in
    let off = goes_off old.state e n c.requires.kind c.requires.may in
    let now = c.in-Ok.ensures.applied ∙ off.is_without in
    let its = stage_of-peer_of n off.at old.state.connections off.has_stage in
    let table = c.leave.ensures in
    let fewer = ap live_of table ∙ live-without old.table place (old.seated.is_out place n its.0 c.requires.seat its.1) in
    let sums = room-without n off.at old.state.connections off.has_stage in
    let spare = c.spare-spare.ensures ∙ spare_is old.state n off.at off.has_stage in
    let less = ap (λ (u : ServerState). room_needed u.connections) now in
    let shorter = ap (λ (u : ServerState). length u.connections) now in
    let one_less = length-without-some n off.at old.state.connections off.has_stage in
    let marks = ap (λ (u : ServerState). retired_in u.connections) now in
    let marked = retired_in-without n off.at old.state.connections off.has_stage in
    let none = not_retired off.at off.some_left in
    let apart = distinct _ old.state old.history in
    let same = c.release.ensures.same in
    let more : OneMore _ _ e _ _ _ = record { small = old.small; fits = leaver_fits e n c.requires.kind; may = c.requires.may; happens = c.in-Ok.ensures.applied; tells_so = ap (λ (b : Books). b.report) same ∙ c.note.ensures.report; counts = ap (λ (b : Books). b.count) same ∙ c.note.ensures.count; stores = ap (λ (b : Books). b.notes) same ∙ c.note.ensures.notes } in
    record {
      history = has_history_on more old.history;
      ran = λ serves. ran_on more (leaver_own e n c.requires.kind) (old.ran serves);
      small = subst (λ (k : ℕ). k < 2 ^ 64) (sym (ap (λ (u : ServerState). u.limit) now)) old.small;
      live = omega (arith, old.live, fewer, shorter, one_less);
      retired = ap (λ (t : PlacesOut). t.retired) table ∙ omega (arith, old.retired, marks, marked, none);
      limit = ap (λ (t : PlacesOut). t.limit) table ∙ old.limit ∙ sym (ap (λ (u : ServerState). u.limit) now);
      seated = subst (λ (t : PlacesOut). HasSeats (get nat_cmp old.seats) t c.apply.new.self) (sym table) (subst (λ (u : ServerState). HasSeats (get nat_cmp old.seats) (without_place place old.table) u) (sym now) (seats_go (get nat_cmp old.seats) old.table old.state n place apart c.requires.seat old.seated));
      room =
          c.release.ensures.room (room_needed c.apply.new.self.connections)
          ∙ c.note.ensures.room (room_needed c.apply.new.self.connections + c.spare-spare.result)
          ∙ subst (λ (k : ℕ). has_room old.journal k ≡ true) (omega (arith, sums, spare, less, off.some_left)) old.room;
    }

pub returns-clause-gone : goal.returns-clause-gone
returns-clause-gone g c =
    let old = c.args.self.now in
    let n = c.args.serial in
    let off = goes_off old.state c.args.event n c.requires.kind c.requires.may in
    let apart = distinct _ old.state old.history in
    ap (λ (u : ServerState). stage_of n u.connections) (c.in-Ok.ensures.applied ∙ off.is_without) ∙ nothing (stage_of n (without n old.state.connections)) (apart.gone_stage n)

pub returns-clause-room : goal.returns-clause-room
returns-clause-room g c = λ m.
    let old = c.args.self.now in
    let n = c.args.serial in
    let s = c.apply.new.self in
    let off = goes_off old.state c.args.event n c.requires.kind c.requires.may in
    let sums = room-without n off.at old.state.connections off.has_stage in
    let spare = c.spare-spare.ensures ∙ spare_is old.state n off.at off.has_stage in
    let less = ap (λ (u : ServerState). room_needed u.connections) (c.in-Ok.ensures.applied ∙ off.is_without) in
    let all : m + room_needed s.connections + c.spare-spare.result + 1 ≡ m + room_needed old.state.connections = omega (arith, sums, spare, less, off.some_left) in
    c.release.ensures.room (m + room_needed s.connections) ∙ c.note.ensures.room (m + room_needed s.connections + c.spare-spare.result) ∙ ap (λ (k : ℕ). has_room old.journal k) all
