-- A yard as worlds see it, and the steps that its calls are.
use Rattle.std.specs.Prelude.{◌≡◌, ◌++◌, ◌∷◌, ℕ, Bool, IsTrue, List, [], Option, None, Some, option_and_then, is_some}
use Rattle.dir_calls.specs.Directory.{Directory, content}
use Rattle.whole_yard.specs.UnderWay.{IsAsFar}
use Rattle.rules_install.specs.Installing.{Installing}
use Rattle.rule_lookup.specs.declared.decision.Decision.{Decision}
use Rattle.headline.specs.Headline.{Reaches}
use Rattle.server_events.specs.ServerState.{ServerState, start}
use Rattle.headline.specs.Steps.{Step}
use Rattle.headline.specs.Worlds.{Accepted, KeptFile, RulesName, StartsWith, World, kept_by}
use Rattle.server_events.specs.declared.event.Event.{Event}
use Rattle.server_events.specs.declared.event.Event.TheVariants.{Opened, Decided}

-- what a yard has of a world: the directory; the rules name with what is decided if nothing stands there; the limits,
-- the last serial, the connections with their peers and stages, and the phase; and the installation under way
pub record YardState : Type 0 where
  pub directory : Directory
  pub rules : Option RulesName
  pub server : ServerState
  pub installing : Option Installing

-- the world has the same installation under way, as far as it has come, or none
abbrev pub HasUnderWay : World → Option Installing → Type 0
HasUnderWay w None = w.under_way ≡ None
HasUnderWay w (Some s) = IsAsFar w s

-- A world is the yard's if its opened connections keep these files.
pub record Matches (y : YardState) (files : List KeptFile) (w : World) : Type 0 where
  pub directory : w.directory ≡ y.directory
  pub rules : w.rules ≡ y.rules
  pub server : w.server ≡ y.server
  pub installing : HasUnderWay w y.installing
  pub kept : w.kept ≡ files

-- From each world that is the yard's before an event, a step by that event leads to one that is the yard's after it.
abbrev pub Leads : Event → YardState → List KeptFile → YardState → List KeptFile → Type 0
Leads event y files z more = (w : World) → Matches y files w → (v : World) × Step w event v × Matches z more v

-- an event leads a yard on, whatever files its connections keep, and they go on to keep them
abbrev pub LeadsOn : Event → YardState → YardState → Type 0
LeadsOn event y z = (files : List KeptFile) → Leads event y files z files

-- a call leads on by its event; without an event the yard is as before
abbrev pub LeadsSome : Option Event → YardState → YardState → Type 0
LeadsSome None y z = z ≡ y
LeadsSome (Some event) y z = LeadsOn event y z

-- a connection opens the rules, and from now on keeps what it found
abbrev pub LeadsOpened : ℕ → Option (List ℕ) → YardState → YardState → Type 0
LeadsOpened n bytes y z =
    (files : List KeptFile) → Leads (Opened n (is_some bytes)) y files z (files ++ record { serial = n; bytes = bytes } ∷ [])

-- a decision leads the yard on, if its connection keeps this file, or none
abbrev pub LeadsDecided : ℕ → Option (List ℕ) → Decision → YardState → YardState → Type 0
LeadsDecided n bytes decision y z =
    (files : List KeptFile) → kept_by n files ≡ Some bytes → Leads (Decided n decision) y files z files

-- what stands under the rules name, if there is one
abbrev pub standing_of : YardState → Option (List ℕ)
standing_of y = option_and_then (λ (r : RulesName). content y.directory r.name) y.rules

-- A directory begins with one of some accepted texts under the rules name, compiled in a synced file, or with nothing
-- there, whatever names a stop leaves.
pub record Begins (d : Directory) (rules : Option RulesName) : Type 0 where
  pub texts : Accepted
  pub stand : StartsWith d rules texts

-- the directory is honest, and begins with one of these texts or with nothing
abbrev pub BeginsWell : Bool → Directory → Option RulesName → Type 0
BeginsWell honest d rules = IsTrue honest × Begins d rules

-- a yard that was just made: no connection, and nothing under way
pub record IsNew (y : YardState) : Type 0 where
  pub begins : Begins y.directory y.rules
  pub empty : y.server ≡ start y.server.limit y.server.per_address
  pub idle : y.installing ≡ None

-- A series of calls of a yard, each with its event: they lead from one yard, with the files that its connections keep, to another.
pub data Series : YardState → List KeptFile → List Event → YardState → List KeptFile → Type 0 where
  none : {y : YardState} {files : List KeptFile} → Series y files [] y files
  more : {x y z : YardState} {few some all : List KeptFile} {event : Event} {events : List Event}
      → Leads event x few y some → Series y some events z all → Series x few (event ∷ events) z all

-- a history of the headline leads to a world that is the yard's
abbrev pub IsReachedBy : List Event → YardState → List KeptFile → Type 0
IsReachedBy history y files = (w : World) × Reaches history w × Matches y files w
