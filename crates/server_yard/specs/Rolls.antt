-- What the events of a yard change: the state that they led to, the journal, and the speaker, who is the caller for
-- whom events are noted now; and which place is whose.
use Rattle.std.specs.Prelude.{◌≡◌, ◌++◌, ◌∷◌, ◌-◌, ◌^◌, ℕ, Bool, true, List, [], Option, Some, None, IfSome, length, map, min, option_map, option_and_then}
use Rattle.server_events.specs.Live.{KeepsAddressLimit, KeepsLimit}
use Rattle.server_events.specs.ServerState.{ServerState, after, is_legal, may_happen, stage_of, start, state_after}
use Rattle.server_events.specs.declared.event.Event.{Event}
use Rattle.server_events.specs.declared.event.Stage.{Stage}
use Rattle.server_events.specs.Journals.{Books, TellsOf, next_report, one_more}
use Rattle.server_events.specs.declared.journal.Noted.{Noted}

-- the state that the events led to; what the journal that noted them tells, and whether it has room for a number of
-- events more; and the speaker
pub record Roll : Type 0 where
  pub server : ServerState
  pub books : Books
  pub room : ℕ → Bool
  pub speaker : ℕ

-- an event that may happen does, and is noted for the speaker
pub record Notes (event : Event) (old new : Roll) : Type 0 where
  pub may : may_happen old.server event ≡ true
  pub happens : new.server ≡ after old.server event
  pub speaks : new.speaker ≡ old.speaker
  pub tells : new.books.report ≡ next_report old.books.report event
  pub counts : new.books.count ≡ one_more old.books.count
  pub stores : new.books.notes ≡ option_map (λ notes. notes ++ record { event = event; caller = old.speaker } ∷ []) old.books.notes

-- there is no event: the journal tells the same, and stores the same events
pub record IsQuiet (old new : Roll) : Type 0 where
  pub stays : new.server ≡ old.server
  pub speaks : new.speaker ≡ old.speaker
  pub tells : new.books.report ≡ old.books.report
  pub counts : new.books.count ≡ old.books.count
  pub stores : new.books.notes ≡ old.books.notes

-- the event of a call is noted, if the call was one
abbrev pub NotesSome : Option Event → (old new : Roll) → Type 0
NotesSome None old new = IsQuiet old new
NotesSome (Some event) old new = Notes event old new

-- a list of events leads from the empty state to this one, as the table of events allows; a journal tells its report
-- and its number, and the journal's events are the list if it stores them
pub record IsHistory (books : Books) (server : ServerState) (history : List Event) : Type 0 where
  pub tells : TellsOf books history
  pub legal : is_legal (start server.limit server.per_address) history ≡ true
  pub leads : server ≡ state_after (start server.limit server.per_address) history
  pub stores : IfSome books.notes (λ notes. map (λ (n : Noted). n.event) notes ≡ history)

-- a history along which never more are alive than may be, in all and from one address
pub record Lived (books : Books) (server : ServerState) : Type 0 where
  pub history : List Event
  pub is_history : IsHistory books server history
  pub limit : KeepsLimit server.limit history
  pub per_address : KeepsAddressLimit server.per_address history

-- as many events are stored as are counted, as far as a u64 counts
abbrev pub CountsStored : Books → Type 0
CountsStored books = IfSome books.notes (λ notes. books.count ≡ min (length notes) (2 ^ 64 - 1))

-- there is a list of events that is a history of this state and these books
abbrev pub HasHistory : Books → ServerState → Type 0
HasHistory books server = ∥ ((history : List Event) × IsHistory books server history) ∥₁

-- no event was stored
abbrev pub StoresNothing : Books → Type 0
StoresNothing books = IfSome books.notes (λ notes. notes ≡ [])

-- a journal has no event
pub record HasNoEvents (books : Books) : Type 0 where
  pub tells : TellsOf books []
  pub stores : StoresNothing books

-- the serial of the connection that has a seat, if it is alive
abbrev pub serial_at : Option ℕ → ServerState → Option ℕ
serial_at seat server = option_and_then (λ n. option_map (λ (s : Stage). n) (stage_of n server.connections)) seat
