-- How many events the connections that are alive may still have.
use Rattle.std.specs.Prelude.{◌≡◌, ℕ, ◌+◌, ◌-◌, List, [], ◌∷◌, Option, None, Some}
use Rattle.server_events.specs.declared.event.Stage.{Stage}
use Rattle.server_events.specs.declared.event.Stage.TheVariants.{Admitted, Opened, Decided, Started, Retired}
use Rattle.server_events.specs.declared.state.Connection.{Connection}
use Rattle.server_yard.specs.Rolls.{Roll}

-- by its stage: it is opened, decided, started, and ends or is retired; a retired one has no more
abbrev pub events_left : Stage → ℕ
events_left Admitted = 4
events_left Opened = 3
events_left (Decided verdict) = 2
events_left Started = 1
events_left Retired = 0

-- how many a connection may still have after its next
abbrev pub spare_events : Option Stage → ℕ
spare_events None = 0
spare_events (Some s) = events_left s - 1

-- how many events all of these connections may still have
abbrev pub room_needed : List Connection → ℕ
room_needed [] = 0
room_needed (c ∷ cs) = events_left c.stage + room_needed cs

-- a journal has as much room as before, beyond the events that its connections may still have
abbrev pub KeepsRoom : (old new : Roll) → Type 0
KeepsRoom old new = (n : ℕ) → new.room (n + room_needed new.server.connections) ≡ old.room (n + room_needed old.server.connections)
