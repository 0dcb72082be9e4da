-- A server, and the installers beside it, as processes of their own over one directory.
use Rattle.std.specs.Prelude.{◌≡◌, true, List, [], ◌∷◌, None}
use Rattle.server_events.specs.declared.event.Event.{Event}
use Rattle.server_events.specs.declared.event.Event.TheVariants.{Stop}
use Rattle.server_events.specs.ServerState.{is_connections, is_installations, start}
use Rattle.headline.specs.Steps.{Outside, Step}
use Rattle.headline.specs.Worlds.{World}

-- the world of a server that installs nothing: it knows of no text and of no installation, and sees the directory as
-- others left it
abbrev pub of_server : World → World
of_server w = record w { server = record w.server { phase = None }; accepted = []; acknowledged = 0; under_way = None }

-- the world of installers, one after another: without limits, connections and what these keep
abbrev pub of_installers : World → World
of_installers w = record w { server = record (start 0 0) { phase = w.server.phase }; kept = [] }

-- what installers have is as before
pub record KeepsInstallers (w v : World) : Type 0 where
  pub phase : v.server.phase ≡ w.server.phase
  pub accepted : v.accepted ≡ w.accepted
  pub acknowledged : v.acknowledged ≡ w.acknowledged
  pub under_way : v.under_way ≡ w.under_way

-- what a server has is as before
pub record KeepsServer (w v : World) : Type 0 where
  pub server : v.server ≡ record w.server { phase = v.server.phase }
  pub kept : v.kept ≡ w.kept

-- the server makes a step by itself
pub record ServerSteps (w : World) (event : Event) (v : World) : Type 0 where
  pub its : is_connections event ≡ true
  pub step : Step (of_server w) event (of_server v)
  pub others : KeepsInstallers w v

-- an installer makes a step by itself
pub record InstallerSteps (w : World) (event : Event) (v : World) : Type 0 where
  pub its : is_installations event ≡ true
  pub step : Step (of_installers w) event (of_installers v)
  pub others : KeepsServer w v

-- the steps of both, and of others, woven in any order; a stop ends both
pub data Woven : World → List Event → World → Type 0 where
  none : {w : World} → Woven w [] w
  serves : {u v w : World} {event : Event} {events : List Event} → ServerSteps u event v → Woven v events w → Woven u (event ∷ events) w
  installs : {u v w : World} {event : Event} {events : List Event} → InstallerSteps u event v → Woven v events w → Woven u (event ∷ events) w
  stops : {u v w : World} {events : List Event} → Step u Stop v → Woven v events w → Woven u (Stop ∷ events) w
  outside : {u v w : World} {events : List Event} → Outside u v → Woven v events w → Woven u events w
