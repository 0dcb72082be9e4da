-- A run of a server: all its events since no connection had come.
use Rattle.std.specs.Prelude.{◌≡◌, ◌-◌, ◌^◌, ⊤, true, List, [], ◌∷◌, length, map, min, IfSome}
use Rattle.server_events.specs.Journals.{Books}
use Rattle.server_events.specs.declared.journal.Noted.{Noted}
use Rattle.server_events.specs.ServerState.{ServerState, is_legal, start, state_after, is_connections}
use Rattle.server_events.specs.declared.event.Event.{Event}

-- each event is one of a connection
abbrev pub AreConnections : List Event → Type 0
AreConnections [] = ⊤
AreConnections (event ∷ events) = (is_connections event ≡ true) × AreConnections events

-- The events of a run are those of connections, and of nothing else. The table allows them, and they lead from the empty
-- state to this one. The journal counts them, as far as a u64 counts, and they are its events if it stores them.
pub record IsRun (books : Books) (server : ServerState) (events : List Event) : Type 0 where
  pub connections : AreConnections events
  pub legal : is_legal (start server.limit server.per_address) events ≡ true
  pub leads : server ≡ state_after (start server.limit server.per_address) events
  pub number : books.count ≡ min (length events) (2 ^ 64 - 1)
  pub stores : IfSome books.notes (λ notes. map (λ (n : Noted). n.event) notes ≡ events)

-- there is a run to this state, with these books
abbrev pub HasRunTo : Books → ServerState → Type 0
HasRunTo books server = ∥ ((events : List Event) × IsRun books server events) ∥₁
