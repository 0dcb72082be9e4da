use Rattle.server_events.specs.JournalParts.{has_room}
use Rattle.server_events.proofs.JournalRoom.{less_room}
use Rattle.std.proofs.Common.{◌≡◌, ◌<◌, ◌+◌, ◌^◌, ℕ, true, refl, rules, sym, ap, subst, ◌∙◌, arith}
use Rattle.std.specs.BTreeMap.{get}
use Rattle.std.specs.Ordering.{nat_cmp}
use Rattle.server_events.proofs.Countings.{retired_in}
use Rattle.server_events.specs.ServerState.{ServerState}
use Rattle.server_yard.specs.Rooms.{room_needed}
use Rattle.server_yard.specs.Yards.{yard_roll}
use Rattle.server_yard.proofs.Histories.{OneMore, has_history_on}
use Rattle.server_yard.proofs.Noting.{last_of, noted_by}
use Rattle.server_yard.proofs.Peopled.{NobodyMoves, goes_on_fits, goes_on_own, goes_on_stays, retired_goes_on}
use Rattle.server_yard.proofs.RoomLemmas.{room_goes_on}
use Rattle.server_yard.proofs.Running.{ran_on}
use Rattle.server_yard.proofs.Seating.{seats_stay}
use Rattle.server_yard.proofs.yard.Yard.go_on.Goals as goal

pub note-requires : goal.note-requires
note-requires g c =
    let old = c.args.self.now in
    let less = room_goes_on old.state c.args.event c.requires.kind (sym c.may_happen.ensures ∙ (search rules)) in
    less_room old.journal 1 (room_needed old.state.connections) (omega (arith, less)) old.room

pub invariant_of-self : goal.invariant_of-self
invariant_of-self g c =
    let old = c.args.self.now in
    let e = c.args.event in
    let s = c.apply.new.self in
    let may = sym c.may_happen.ensures ∙ (search rules) in
    let now = c.in-Ok.ensures.applied in
    let stays = subst (λ (u : ServerState). NobodyMoves old.state u) (sym now) (goes_on_stays old.state e c.requires.kind) in
    let less = ap (λ (u : ServerState). room_needed u.connections + 1) now ∙ room_goes_on old.state e c.requires.kind may in
    let more : OneMore _ _ e _ _ _ = record { small = old.small; fits = goes_on_fits e c.requires.kind; may = may; happens = now; tells_so = c.note.ensures.report; counts = c.note.ensures.count; stores = c.note.ensures.notes } in
    record {
      history = has_history_on more old.history;
      ran = λ serves. ran_on more (goes_on_own e c.requires.kind) (old.ran serves);
      small = subst (λ (n : ℕ). n < 2 ^ 64) (sym stays.limit) old.small;
      live = old.live ∙ sym stays.live;
      retired = old.retired ∙ sym (ap (λ (u : ServerState). retired_in u.connections) now ∙ retired_goes_on old.state e c.requires.kind may);
      limit = old.limit ∙ sym stays.limit;
      seated = seats_stay (get nat_cmp old.seats) old.table old.state s stays old.seated;
      room = c.note.ensures.room (room_needed s.connections) ∙ subst (λ (n : ℕ). has_room old.journal n ≡ true) (sym less) old.room;
    }

pub of-requires-2 : goal.of-requires-2
of-requires-2 g c = record {
  last = last_of c.args.event _ (yard_roll c.args.self.now) _ (record {
    may = sym c.may_happen.ensures ∙ (search rules);
    happens = c.in-Ok.ensures.applied;
    speaks = refl;
    tells = c.note.ensures.report;
    counts = c.note.ensures.count;
    stores = c.note.ensures.notes;
  }) c.of-shown.ensures;
}

pub returns-clause-makes : goal.returns-clause-makes
returns-clause-makes g c =
    let old = c.args.self.now in
    let s = c.apply.new.self in
    let may = sym c.may_happen.ensures ∙ (search rules) in
    let less = ap (λ (u : ServerState). room_needed u.connections + 1) c.in-Ok.ensures.applied ∙ room_goes_on old.state c.args.event c.requires.kind may in
    record {
      own = goes_on_own c.args.event c.requires.kind;
      made = noted_by c.args.event _ c.of-2.result (yard_roll old) _ (record {
        may = may;
        happens = c.in-Ok.ensures.applied;
        speaks = refl;
        tells = c.note.ensures.report;
        counts = c.note.ensures.count;
        stores = c.note.ensures.notes;
      }) c.of-shown.ensures c.of-2.ensures.its c.of-2.ensures.for_speaker c.of-2.ensures.at;
      out = tt;
      room = λ n.
          let all : n + room_needed s.connections + 1 ≡ n + room_needed old.state.connections = omega (arith, less) in
          c.note.ensures.room (n + room_needed s.connections) ∙ ap (λ (k : ℕ). has_room old.journal k) all;
      seats = λ i. refl;
    }
