-- A connection that opened the rules for itself, beside its yard, which is told of it later.
use Rattle.std.specs.Prelude.{◌≡◌, ◌≢◌, ⊤, ℕ, Bool, true, false, not, List, [], ◌∷◌, Option, Some, is_some}
use Rattle.server_events.specs.Live.{concerns_by}
use Rattle.headline.specs.Processes.{Woven}
use Rattle.server_events.specs.ServerState.{Effect, effect, ends_all}
use Rattle.headline.specs.Worlds.{KeptFile, World, kept_by}
use Rattle.server_events.specs.declared.event.Event.{Event}
use Rattle.server_events.specs.declared.event.Event.TheVariants.{Opened}
use Rattle.whole_yard.specs.Serving.{IsServers}
use Rattle.whole_yard.specs.Standing.{YardState}

abbrev pub apart_by : ℕ → Effect → Bool
apart_by n ends_all = false
apart_by n x = not (concerns_by n x)

-- an event of another connection, and no stop
abbrev pub is_apart : ℕ → Event → Bool
is_apart n event = apart_by n (effect event)

-- each event is one of another connection, and no stop
abbrev pub AreApart : ℕ → List Event → Type 0
AreApart n [] = ⊤
AreApart n (event ∷ events) = (is_apart n event ≡ true) × AreApart n events

-- What the connection found in the world u is told after some events. The yard then is as if the connection had opened
-- the rules in u: it keeps what it found, and each other connection keeps what it kept.
pub record ToldLater (n : ℕ) (bytes : Option (List ℕ)) (u : World) (events : List Event) (files : List KeptFile) (z : YardState) : Type 0 where
  pub v : World
  pub woven : Woven u (Opened n (is_some bytes) ∷ events) v
  pub more : List KeptFile
  pub its : IsServers z more v
  pub keeps : kept_by n more ≡ Some bytes
  pub others : (m : ℕ) → m ≢ n → kept_by m more ≡ kept_by m files
