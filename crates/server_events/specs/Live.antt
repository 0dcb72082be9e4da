-- Who is alive after a list of events, told from the events alone.
use Rattle.std.specs.Prelude.{◌≤◌, ℕ, length, take, List, Bool, true, false, ◌==◌, not, map, Option, Some, None, bytes_eq}
use Rattle.std.specs.List.{after_last, filter, filter_map, list_any}
use Rattle.rule_lookup.specs.Peers.{Client}
use Rattle.server_events.specs.declared.event.Event.{Event}
use Rattle.server_events.specs.declared.state.Connection.{Connection}
use Rattle.server_events.specs.ServerState.{Effect, lets_in, opens, decides, brings, lets_go, ends_all, effect, ends, retires}

abbrev pub stops_by : Effect → Bool
stops_by ends_all = true
stops_by _ = false

-- all connections end at once
abbrev pub is_stop : Event → Bool
is_stop event = stops_by (effect event)

-- the events after the last stop, or all if there was none
abbrev pub since_stop : List Event → List Event
since_stop history = after_last is_stop history

-- a connection that was let in
pub record Life : Type 0 where
  pub serial : ℕ
  pub peer : Client

abbrev pub admission_by : Effect → Option Life
admission_by (lets_in n peer) = Some (record { serial = n; peer = peer })
admission_by _ = None

-- the connection that an event lets in
abbrev pub admission : Event → Option Life
admission event = admission_by (effect event)

abbrev pub concerns_by : ℕ → Effect → Bool
concerns_by n (opens m there) = n == m
concerns_by n (decides m decision) = n == m
concerns_by n (brings m from to) = n == m
concerns_by n (lets_go m from) = n == m
concerns_by n _ = false

-- something happens to the connection n, which was let in before
abbrev pub concerns : ℕ → Event → Bool
concerns n event = concerns_by n (effect event)

-- The connections that were admitted and have not ended, failed to start, been dropped or been stopped. Retired ones
-- stay until a stop.
abbrev pub live_of : List Event → List Life
live_of history =
    let recent = since_stop history in
    filter (λ (x : Life). not (list_any (ends x.serial) recent)) (filter_map admission recent)

-- the connections whose peer has an address
abbrev pub live_at : List ℕ → List Event → List Life
live_at ip history = filter (λ (x : Life). bytes_eq x.peer.ip ip) (live_of history)

-- the retired connections
abbrev pub retired_of : List Event → List Life
retired_of history =
    filter (λ (x : Life). list_any (retires x.serial) (since_stop history)) (live_of history)

-- the serials of connections, in the same order
abbrev pub serials_of : List Life → List ℕ
serials_of lives = map (λ (x : Life). x.serial) lives

-- along a list of events no more than this many are ever alive
abbrev pub KeepsLimit : ℕ → List Event → Type 0
KeepsLimit limit history = (k : ℕ) → length (live_of (take k history)) ≤ limit

-- along a list of events no more than this many are ever alive from one address
abbrev pub KeepsAddressLimit : ℕ → List Event → Type 0
KeepsAddressLimit limit history = (ip : List ℕ) (k : ℕ) → length (live_at ip (take k history)) ≤ limit

-- connections without their stages
abbrev pub life_of : Connection → Life
life_of c = record { serial = c.serial; peer = c.peer }

abbrev pub lives_of : List Connection → List Life
lives_of cs = map life_of cs
