-- Connections and the places that they were given.
use Rattle.std.specs.Prelude.{◌≡◌, ◌<◌, ◌≤◌, ◌+◌, ◌-◌, ◌^◌, ◌==◌, ◌⊎◌, ℕ, Bool, true, false, not, List, Option, Some, None, length, if◌then◌else◌}
use Rattle.child_jobs.specs.PlacesOut.{PlacesOut, is_used}
use Rattle.rule_lookup.specs.Peers.{Client}
use Rattle.server_events.specs.ServerState.{Effect, ServerState, opens, decides, brings, lets_go, count_from, effect, is_retired, peer_of}
use Rattle.server_events.specs.declared.event.Event.{Event}
use Rattle.server_yard.specs.Rolls.{Roll, serial_at}
use Rattle.server_yard.specs.Rooms.{room_needed}

-- each seat is as before
abbrev pub KeepsSeats : (old new : ℕ → Option ℕ) → Type 0
KeepsSeats old new = (index : ℕ) → new index ≡ old index

-- one seat is given to a serial, and the others are as before
abbrev pub GivesSeat : (index serial : ℕ) (old new : ℕ → Option ℕ) → Type 0
GivesSeat index serial old new = (i : ℕ) → new i ≡ (if i == index then Some serial else old i)

-- each seat has the same connection, or none as before
abbrev pub KeepsSerials : ServerState → (old new : ℕ → Option ℕ) → Type 0
KeepsSerials server old new = (index : ℕ) → serial_at (new index) server ≡ serial_at (old index) server

-- each seat is as before, or nobody has it now and its place is not out
abbrev pub LosesOne : PlacesOut → (old new : ℕ → Option ℕ) → Type 0
LosesOne table old new = (index : ℕ) → (new index ≡ old index) ⊎ ((new index ≡ None) × (is_used table index ≡ false))

-- No seat was given to a serial above the last. The place of a seat whose connection is alive is out.
pub record HasSeats (seat : ℕ → Option ℕ) (table : PlacesOut) (server : ServerState) : Type 0 where
  pub up_to_last : (index serial : ℕ) → seat index ≡ Some serial → serial ≤ server.last
  pub is_out : (index serial : ℕ) (peer : Client) → seat index ≡ Some serial → peer_of serial server.connections ≡ Some peer
      → is_used table index ≡ true

-- a connection could be let in, but no serial is left
abbrev pub IsSpent : ServerState → Type 0
IsSpent server = (length server.connections < server.limit) × (server.last ≡ 2 ^ 64 - 1)

-- a connection could be let in, but not from this address
abbrev pub IsAddressFull : List ℕ → ServerState → Type 0
IsAddressFull ip server =
    (length server.connections < server.limit) × (server.last < 2 ^ 64 - 1) × (count_from ip server.connections ≡ server.per_address)

-- room for one event more than the connections need
abbrev pub HasSpareRoom : Roll → Type 0
HasSpareRoom roll = roll.room (room_needed roll.server.connections + 1) ≡ true

abbrev pub goes_on_by : Effect → Bool
goes_on_by (opens n there) = true
goes_on_by (decides n decision) = true
goes_on_by (brings n from to) = not (is_retired to)
goes_on_by _ = false

-- whether a connection goes on by this event and keeps its place
abbrev pub goes_on : Event → Bool
goes_on event = goes_on_by (effect event)

abbrev pub leaver_by : Effect → Option ℕ
leaver_by (lets_go n from) = Some n
leaver_by _ = None

-- whether a connection goes by this event and its place is free
abbrev pub leaver : Event → Option ℕ
leaver event = leaver_by (effect event)
