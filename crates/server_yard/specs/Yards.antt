-- What contracts say of a yard.
use Rattle.std.specs.Prelude.{◌≡◌, ◌<◌, ℕ, true, List, Option, Some}
use Rattle.std.specs.BTreeMap.{get}
use Rattle.std.specs.Ordering.{nat_cmp}
use Rattle.server_events.specs.JournalParts.{books_of_journal, has_room}
use Rattle.server_events.specs.Journals.{Books}
use Rattle.rule_lookup.specs.Peers.{Client}
use Rattle.rule_lookup.specs.declared.decision.Decision.{Decision}
use Rattle.server_events.specs.ServerState.{ServerState, may_happen, peer_of, start}
use Rattle.server_events.specs.declared.event.Event.{Event}
use Rattle.server_events.specs.declared.event.Event.TheVariants.{Decided}
use Rattle.server_events.specs.declared.journal.Journal.{Journal}
use Rattle.server_yard.specs.Passes.{pass_serial}
use Rattle.server_yard.specs.Rolls.{Roll}
use Rattle.server_yard.specs.Runs.{HasRunTo, IsRun}
use Rattle.server_yard.specs.declared.pass.Pass.{Pass}
use Rattle.server_yard.specs.declared.yard.Yard.{Yard}

-- what its events change
abbrev pub yard_roll : {L : Type 0} {p : _} → Yard L p → Roll
yard_roll y = record { server = y.state; books = books_of_journal y.journal; room = has_room y.journal; speaker = y.speaker }

-- its journal
abbrev pub yard_journal : {L : Type 0} {p : _} → Yard L p → Journal
yard_journal y = y.journal

-- what its journal tells
abbrev pub yard_books : {L : Type 0} {p : _} → Yard L p → Books
yard_books y = books_of_journal y.journal

-- the state that its events led to
abbrev pub yard_server : {L : Type 0} {p : _} → Yard L p → ServerState
yard_server y = y.state

-- the serial that the place of an index was last given to
abbrev pub yard_seat : {L : Type 0} {p : _} → Yard L p → ℕ → Option ℕ
yard_seat y index = get nat_cmp y.seats index

-- these events are a run of a server that has this yard
abbrev pub IsRunOf : {L : Type 0} {p : _} → List Event → Yard L p → Type 0
IsRunOf events y = IsRun (yard_books y) (yard_server y) events

-- there is one
abbrev pub HasRun : {L : Type 0} {p : _} → Yard L p → Type 0
HasRun y = HasRunTo (yard_books y) (yard_server y)

-- the place of an index was given to the connection with this serial, and the table of events allows this event of it
pub record IsInTurn {L : Type 0} {p : _} (place serial : ℕ) (event : Event) (y : Yard L p) : Type 0 where
  pub seat : yard_seat y place ≡ Some serial
  pub may : may_happen (yard_server y) event ≡ true

-- the connection of a pass may be decided so now, and this is its peer
pub record MayBeDecided {L F : Type 0} {p : _} (pass : Pass L F) (peer : Client) (decision : Decision) (y : Yard L p)
    : Type 0 where
  pub its_peer : peer_of (pass_serial pass) (yard_server y).connections ≡ Some peer
  pub may : may_happen (yard_server y) (Decided (pass_serial pass) decision) ≡ true

-- a yard that was just made of these
pub record IsMade {L : Type 0} {p : _} (limit per_address : ℕ) (journal : Journal) (y : Yard L p) : Type 0 where
  pub has_limit : 0 < limit
  pub empty : yard_server y ≡ start limit per_address
  pub has_journal : yard_journal y ≡ journal
  pub nobody_speaks : (yard_roll y).speaker ≡ 0
