-- When the openings of a run found what they found, and the run among other processes over the same directory.
use Rattle.std.specs.Prelude.{◌≡◌, ◌==◌, ⊤, ℕ, Bool, true, false, List, [], ◌∷◌, ◌++◌, Ok, Option, Some, is_some, option_map}
use Rattle.cdb_files.specs.Reading.{reading}
use Rattle.rule_lookup.specs.Peers.{Client}
use Rattle.rule_lookup.specs.Decisions.{decision_from}
use Rattle.rule_lookup.specs.declared.decision.WhenMissing.{WhenMissing}
use Rattle.headline.specs.Headline.{IsKeptBy, Reaches}
use Rattle.server_events.specs.Live.{concerns_by}
use Rattle.headline.specs.Processes.{ServerSteps, Woven}
use Rattle.server_events.specs.ServerState.{Effect, ServerState, decides, lets_in, opens, after, effect, start, is_installations, peer_of}
use Rattle.headline.specs.Worlds.{IsStart, World, missing_in, standing}
use Rattle.server_events.specs.declared.event.Event.{Event}
use Rattle.server_events.specs.declared.event.Event.TheVariants.{Opened}

abbrev pub is_own_by : ℕ → Effect → Bool
is_own_by n (lets_in m peer) = n == m
is_own_by n x = concerns_by n x

-- an event of this connection
abbrev pub is_own : ℕ → Event → Bool
is_own n event = is_own_by n (effect event)

-- A server is told of an opening when it is over; before that the opening found its file. In the order of finding each
-- opening stands earlier by some events of other connections, or by none: so at some time since its connection was let
-- in.
pub data InOrderOfFinding : (events order : List Event) → Type 0 where
  same : {events : List Event} → InOrderOfFinding events events
  sooner : {order : List Event} (n : ℕ) (there : Bool) (event : Event) (before since : List Event) → is_own n event ≡ false
      → InOrderOfFinding (before ++ Opened n there ∷ event ∷ since) order
      → InOrderOfFinding (before ++ event ∷ Opened n there ∷ since) order

-- what the opening of each connection found, by its serial: the bytes of a file, or nothing
abbrev pub Found : Type 0
Found = ℕ → Option (List ℕ)

-- a decision is that of `decide` by what the opening of its own connection found, for its peer
abbrev pub IsByFound : Found → WhenMissing → ServerState → Effect → Type 0
IsByFound found missing s (decides n decision) =
    (peer : Client) → peer_of n s.connections ≡ Some peer → decision_from (option_map reading (found n)) missing peer ≡ Ok decision
IsByFound found missing s x = ⊤

-- each decision is so, in the state that the events before it lead to
abbrev pub AreByFound : Found → WhenMissing → ServerState → List Event → Type 0
AreByFound found missing s [] = ⊤
AreByFound found missing s (event ∷ events) =
    IsByFound found missing s (effect event) × AreByFound found missing (after s event) events

-- what an opening found stands there now; of no other event is anything asked
abbrev pub FindsWhatStands : Found → Effect → World → Type 0
FindsWhatStands found (opens n there) w = (found n ≡ standing w) × (there ≡ is_some (standing w))
FindsWhatStands found x w = ⊤

-- each event is one of an installation
abbrev pub AreInstallations : List Event → Type 0
AreInstallations [] = ⊤
AreInstallations (event ∷ events) = (is_installations event ≡ true) × AreInstallations events

-- the world that a server shares with others goes on without it: by steps of installers, and of others
pub record GoesWithout (w : World) (events : List Event) (v : World) : Type 0 where
  pub woven : Woven w events v
  pub installs : AreInstallations events

-- a history of the headline leads to a world
pub record IsHistoryTo (history : List Event) (w : World) : Type 0 where
  pub reached : Reaches history w
  pub keeps : IsKeptBy history w

-- A history leads to a world, and these are the server's next events. Whatever installers and others do before each of
-- them and after the last, all is a history of the headline, and the next event is a step of the server. If an opening
-- did not find what stands there, nothing is said of what follows.
abbrev pub IsPlayedOut : Found → List Event → (history : List Event) → World → Type 0
IsPlayedOut found [] history w =
    (others : List Event) (v : World) → GoesWithout w others v → IsHistoryTo (history ++ others) v
IsPlayedOut found (event ∷ events) history w =
    (others : List Event) (v : World) → GoesWithout w others v → IsHistoryTo (history ++ others) v
    × (FindsWhatStands found (effect event) v
    → (u : World) × ServerSteps v event u × IsPlayedOut found events ((history ++ others) ++ event ∷ []) u)

-- a world from which a run may begin: a start with these limits, and with what is decided without a file
pub record BeginsRun (missing : WhenMissing) (limit per_address : ℕ) (w : World) : Type 0 where
  pub starts : IsStart w
  pub empty : w.server ≡ start limit per_address
  pub decides : missing_in w ≡ missing
