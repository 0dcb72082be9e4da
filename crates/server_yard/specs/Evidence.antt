-- What a yard answers of the event that it was asked for.
use Rattle.std.specs.Prelude.{◌≡◌, ◌≢◌, ◌⊎◌, ◌-◌, ◌^◌, ⊤, ℕ, true, List, Result, Ok, Err, IfErr, IfOk, length}
use Rattle.server_events.specs.ServerState.{ServerState, is_connections}
use Rattle.server_events.specs.declared.event.Event.{Event}
use Rattle.server_yard.specs.Rolls.{Notes, Roll}
use Rattle.server_yard.specs.Rooms.{KeepsRoom}
use Rattle.server_yard.specs.Seating.{IsAddressFull, IsSpent, KeepsSeats}
use Rattle.server_yard.specs.Yards.{yard_roll, yard_seat}
use Rattle.server_yard.specs.declared.evidence.Made.{Made}
use Rattle.server_yard.specs.declared.evidence.OutOfTurn.{OutOfTurn}
use Rattle.server_yard.specs.declared.yard.AdmitFault.{AdmitFault}
use Rattle.server_yard.specs.declared.yard.AdmitFault.TheVariants.{Full, FullForAddress, OutOfMemory, Spent}
use Rattle.server_yard.specs.declared.yard.Yard.{Yard}

-- the event that was made, its position in the history, and for whom it was made
abbrev pub made_event : Made → Event
made_event made = made.event.value

abbrev pub made_at : Made → ℕ
made_at made = made.at

abbrev pub made_by : Made → ℕ
made_by made = made.caller

-- the event that was out of turn
abbrev pub refused_event : OutOfTurn → Event
refused_event refusal = refusal.event.value

-- the event that was asked for, in turn or not
abbrev pub asked_event : Result Made OutOfTurn → Event
asked_event (Ok made) = made_event made
asked_event (Err refusal) = refused_event refusal

-- the evidence beside something that was made with it
abbrev pub evidence_of : {P : Type 0} → Result (P × Made) OutOfTurn → Result Made OutOfTurn
evidence_of (Ok r) = Ok r.1
evidence_of (Err refusal) = Err refusal

-- an event was just noted, and this is the evidence of it
pub record IsNoted (event : Event) (made : Made) (old new : Roll) : Type 0 where
  pub its : made_event made ≡ event
  pub for_speaker : made_by made ≡ old.speaker
  pub last : made_at made ≡ new.books.count
  pub noted : Notes event old new

-- this event was noted last
pub record IsLast (event : Event) (roll : Roll) : Type 0 where
  pub before : Roll
  pub noted : Notes event before roll

-- A yard made this event, which is one of a connection, and the answer is its evidence; or the event was out of turn,
-- and nothing changed. In turn or not, all seats are the same, and so is the room beyond what its connections need.
pub record Makes {L : Type 0} {p : _} (event : Event) (answer : Result Made OutOfTurn) (old new : Yard L p)
    : Type 0 where
  pub own : is_connections event ≡ true
  pub made : IfOk answer (λ made. IsNoted event made (yard_roll old) (yard_roll new))
  pub out : IfErr answer (λ refusal. (refused_event refusal ≡ event) × (new ≡ old))
  pub room : KeepsRoom (yard_roll old) (yard_roll new)
  pub seats : KeepsSeats (yard_seat old) (yard_seat new)

-- After so many events, a server that is so lets no client from this address in, for this reason: the last number of an
-- event is given, or that of a connection; or it is not, and there is no place. Memory may be short at any time.
abbrev pub Refuses : AdmitFault → (ip : List ℕ) → (events : ℕ) → ServerState → Type 0
Refuses Spent ip events server = (events ≡ 2 ^ 64 - 1) ⊎ IsSpent server
Refuses Full ip events server = (events ≢ 2 ^ 64 - 1) × (length server.connections ≡ server.limit)
Refuses FullForAddress ip events server = (events ≢ 2 ^ 64 - 1) × IsAddressFull ip server
Refuses OutOfMemory ip events server = ⊤
