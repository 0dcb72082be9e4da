-- What the turns of connections answer, and what they tell.
use Rattle.std.specs.Prelude.{◌≡◌, ◌+◌, ℕ, true, Option, None, Some, Result, Ok, Err, IfOk, OnErr}
use Rattle.rule_lookup.specs.Peers.{Client}
use Rattle.server_events.specs.Journals.{FitsSerial, one_more}
use Rattle.server_events.specs.ServerState.{is_connections}
use Rattle.server_events.specs.declared.event.Event.{Event}
use Rattle.server_events.specs.declared.event.Event.TheVariants.{Admitted}
use Rattle.server_yard.specs.Evidence.{refused_event}
use Rattle.server_yard.specs.Rolls.{IsQuiet, Notes, Roll}
use Rattle.server_yard.specs.Yards.{yard_books, yard_roll}
use Rattle.server_yard.specs.declared.evidence.Made.{Made}
use Rattle.server_yard.specs.declared.evidence.OutOfTurn.{OutOfTurn}
use Rattle.server_yard.specs.declared.yard.Yard.{Yard}
use Rattle.whole_yard.specs.Receipts.{receipt_after, receipt_of}

-- this event of a connection was noted, and a serial that it gives fits; or there was nothing to tell, and no event
abbrev pub NotesTold : Option Event → (old new : Roll) → Type 0
NotesTold None old new = IsQuiet old new
NotesTold (Some event) old new = (is_connections event ≡ true) × Notes event old new × FitsSerial event

-- a turn gave this answer between these states of a yard, as it may by their speaker and their numbers of events
abbrev pub Answers : {A L : Type 0} {p : _} → (answers : ℕ → ℕ → A → ℕ → Type 0) → A → (old new : Yard L p) → Type 0
Answers answers answer old new = answers (yard_roll old).speaker (yard_books old).count answer (yard_books new).count

-- the caller with this number made this event, the next after this many; or it was out of turn, and no event was made
abbrev pub MakesOrNot : Event → (who before : ℕ) → Result Made OutOfTurn → (after : ℕ) → Type 0
MakesOrNot event who before (Ok made) after =
    (receipt_of made ≡ receipt_after before who event) × (after ≡ one_more before)
MakesOrNot event who before (Err refusal) after = (refused_event refusal ≡ event) × (after ≡ before)

-- the caller with this number let this client in, by the next event after this many; or no event was made
abbrev pub AdmitsOrNot : {P F : Type 0} → Client → (who before : ℕ) → Result (ℕ × P × Made) F → (after : ℕ) → Type 0
AdmitsOrNot client who before answer after =
    IfOk answer (λ r. (receipt_of r.2 ≡ receipt_after before who (Admitted r.0 client)) × (after ≡ before + 1))
    × OnErr answer (after ≡ before)

-- what a turn tells if it made its event
abbrev pub told_if_made : Event → Result Made OutOfTurn → Option Event
told_if_made event (Ok made) = Some event
told_if_made event (Err refusal) = None

-- what is told of a client: that it was let in
abbrev pub told_if_admitted : {P F : Type 0} → Client → Result (ℕ × P × Made) F → Option Event
told_if_admitted client (Ok r) = Some (Admitted r.0 client)
told_if_admitted client (Err refusal) = None
