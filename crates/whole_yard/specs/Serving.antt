-- One connection that is served by a yard, event by event.
use Rattle.std.specs.Prelude.{ℕ, Bool, true, false, List, [], ◌∷◌, Option, is_some}
use Rattle.rule_lookup.specs.declared.decision.Decision.{Decision}
use Rattle.server_events.specs.declared.event.Event.{Event}
use Rattle.server_events.specs.declared.event.Event.TheVariants.{Opened, Decided}
use Rattle.dir_calls.specs.Directory.{Directory}
use Rattle.headline.specs.Processes.{ServerSteps, of_server}
use Rattle.server_events.specs.ServerState.{Effect, lets_in, brings, lets_go, effect}
use Rattle.headline.specs.Worlds.{KeptFile, World}
use Rattle.server_yard.specs.Rolls.{Roll}
use Rattle.whole_yard.specs.Standing.{IsReachedBy, LeadsDecided, LeadsOn, LeadsOpened, Matches, YardState}

-- The calls that serve a connection from its admission on, each by its event. It is given up at once; or it opens the
-- rules, and is given up undecided; or it is decided by what it opened, and then given up, or its child runs or could
-- not be started. The last event tells which.
pub data Serves (n : ℕ) : YardState → List Event → YardState → Type 0 where
  at_once : {y z : YardState} {last : Event} → LeadsOn last y z → Serves n y (last ∷ []) z
  undecided : {x y z : YardState} {bytes : Option (List ℕ)} {last : Event}
      → LeadsOpened n bytes x y → LeadsOn last y z → Serves n x (Opened n (is_some bytes) ∷ last ∷ []) z
  decided : {x y z t : YardState} {bytes : Option (List ℕ)} {decision : Decision} {last : Event}
      → LeadsOpened n bytes x y → LeadsDecided n bytes decision y z → LeadsOn last z t
      → Serves n x (Opened n (is_some bytes) ∷ Decided n decision ∷ last ∷ []) t

-- a history of the headline leads to a world that is the yard's, whatever its connections keep
abbrev pub IsReachedOn : List Event → YardState → Type 0
IsReachedOn history y = (files : List KeptFile) × IsReachedBy history y files

-- the same yard over another directory
abbrev pub over : YardState → Directory → YardState
over y d = record y { directory = d }

-- the same yard with the state that a roll has
abbrev pub with_roll : YardState → Roll → YardState
with_roll y roll = record y { server = roll.server }

abbrev pub plain_by : Effect → Bool
plain_by (lets_in n peer) = true
plain_by (brings n from to) = true
plain_by (lets_go n from) = true
plain_by _ = false

-- an event of a connection by which it neither opens the rules nor is decided
abbrev pub is_plain : Event → Bool
is_plain event = plain_by (effect event)

-- What a server has of a world that it shares with installers is its yard's, over the directory as it is now.
abbrev pub IsServers : YardState → List KeptFile → World → Type 0
IsServers y files w = Matches (over y w.directory) files (of_server w)

-- the server makes a step by itself in this world, and what it has of the next one is its yard's again
abbrev pub StepsByItself : World → Event → YardState → List KeptFile → Type 0
StepsByItself w event z more = (v : World) × ServerSteps w event v × IsServers z more v
