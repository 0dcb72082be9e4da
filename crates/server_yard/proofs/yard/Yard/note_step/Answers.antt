use Rattle.server_events.specs.JournalParts.{has_room}
use Rattle.server_events.proofs.JournalRoom.{less_room}
use Rattle.std.proofs.Common.{◌≡◌, ◌<◌, ◌+◌, ◌^◌, ℕ, true, sym, ap, subst, ◌∙◌, arith}
use Rattle.std.specs.BTreeMap.{get}
use Rattle.std.specs.Ordering.{nat_cmp}
use Rattle.server_events.proofs.Countings.{retired_in}
use Rattle.server_events.specs.ServerState.{ServerState}
use Rattle.server_yard.specs.Rooms.{room_needed}
use Rattle.server_yard.proofs.Histories.{has_history_on}
use Rattle.server_yard.proofs.Peopled.{NobodyMoves, installing_fits, installing_keeps, installing_stays}
use Rattle.server_yard.proofs.Seating.{seats_stay}
use Rattle.server_yard.proofs.yard.Yard.note_step.Goals as goal

pub note-requires : goal.note-requires
note-requires g c =
    let old = c.args.self.now in
    less_room old.journal 1 (room_needed old.state.connections + 1) (omega arith) c.requires.room

pub invariant_of-self : goal.invariant_of-self
invariant_of-self g c =
    let old = c.args.self.now in
    let e = c.args.event in
    let s = c.apply.new.self in
    let now = c.in-Ok.ensures.applied in
    let stays = subst (λ (u : ServerState). NobodyMoves old.state u) (sym now) (installing_stays old.state e c.requires.kind) in
    let same = ap (λ (u : ServerState). u.connections) now ∙ installing_keeps old.state e c.requires.kind in
    record {
      history = has_history_on (record { small = old.small; fits = installing_fits e c.requires.kind; may = c.requires.may; happens = now; tells_so = c.note.ensures.report; counts = c.note.ensures.count; stores = c.note.ensures.notes }) old.history;
      ran = λ serves. absurd (cc);
      small = subst (λ (n : ℕ). n < 2 ^ 64) (sym stays.limit) old.small;
      live = old.live ∙ sym stays.live;
      retired = old.retired ∙ sym (ap retired_in same);
      limit = old.limit ∙ sym stays.limit;
      seated = seats_stay (get nat_cmp old.seats) old.table old.state s stays old.seated;
      room =
          c.note.ensures.room (room_needed s.connections)
          ∙ subst (λ (n : ℕ). has_room old.journal (n + 1) ≡ true) (sym (ap room_needed same)) c.requires.room;
    }

pub returns-clause-one_less : goal.returns-clause-one_less
returns-clause-one_less g c = λ n. sym (c.note.ensures.room n)
