-- Openings that take some time, while others change the directory.
use Rattle.std.specs.Prelude.{◌≡◌, ◌++◌, ℕ, List, [], ◌∷◌, Option, is_some}
use Rattle.server_events.specs.declared.event.Event.{Event}
use Rattle.server_events.specs.declared.event.Event.TheVariants.{Opened}
use Rattle.headline.specs.Processes.{InstallerSteps}
use Rattle.server_events.specs.ServerState.{after}
use Rattle.headline.specs.Steps.{Outside}
use Rattle.headline.specs.Worlds.{World, standing}

-- all but the server go on, step by step: installers, and whoever leaves the two names alone
pub data OthersGo : World → List Event → World → Type 0 where
  none : {w : World} → OthersGo w [] w
  installs : {u v w : World} {event : Event} {events : List Event} → InstallerSteps u event v → OthersGo v events w
      → OthersGo u (event ∷ events) w
  outside : {u v w : World} {events : List Event} → Outside u v → OthersGo v events w → OthersGo u events w

-- Others went on from one world to another while an opening was made. It found what stood under the rules name at a
-- moment of that time.
pub record FindsWithin (w v : World) (bytes : Option (List ℕ)) : Type 0 where
  pub before : List Event
  pub u : World
  pub first : OthersGo w before u
  pub found : bytes ≡ standing u
  pub behind : List Event
  pub rest : OthersGo u behind v

-- the history of an opening that takes time, with the opening at its moment
abbrev pub with_opening : {w v : World} {bytes : Option (List ℕ)} → ℕ → FindsWithin w v bytes → List Event
with_opening {w} {v} {bytes} n finds = finds.before ++ Opened n (is_some bytes) ∷ finds.behind

-- the world once the server has noted that connection n opened the rules and keeps this
abbrev pub noting : ℕ → Option (List ℕ) → World → World
noting n bytes v =
    record v { server = after v.server (Opened n (is_some bytes)); kept = v.kept ++ record { serial = n; bytes = bytes } ∷ [] }
