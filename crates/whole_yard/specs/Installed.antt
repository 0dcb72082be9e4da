-- What the installations of a yard left in its directory.
use Rattle.std.specs.Prelude.{◌≡◌, ◌++◌, ⊤, ℕ, List, Option, None, Some, IfSome, map}
use Rattle.std.specs.List.{filter}
use Rattle.server_events.specs.ServerState.{is_installations}
use Rattle.server_events.specs.Journals.{Books}
use Rattle.rule_lookup.specs.Pairs.{Rule}
use Rattle.headline.specs.Steps.{Legal}
use Rattle.headline.specs.Worlds.{IsOf, IsStart, World}
use Rattle.server_events.specs.declared.event.Event.{Event}
use Rattle.server_yard.specs.Rolls.{IsHistory}
use Rattle.whole_yard.specs.Standing.{HasUnderWay, YardState}

-- the events of the installations alone
abbrev pub installs_of : List Event → List Event
installs_of history = filter is_installations history

-- The installations of a history, by themselves, are a history of the headline. It leads from a start to a world with
-- the yard's directory, rules name, phase and installation under way. The accepted texts of that world, behind those of
-- the start, are the lists of rules that are stored.
pub record IsInstalledBy (lists : Option (List (List Rule))) (y : YardState) (history : List Event) : Type 0 where
  pub first : World
  pub starts : IsStart first
  pub world : World
  pub legal : Legal first (installs_of history) world
  pub has_directory : world.directory ≡ y.directory
  pub has_rules : world.rules ≡ y.rules
  pub has_phase : world.server.phase ≡ y.server.phase
  pub has_installing : HasUnderWay world y.installing
  pub accepted : IfSome lists (λ all. world.accepted ≡ first.accepted ++ map Some all)

-- a history of a yard, and what its installations left, whose lists of rules are these if they are stored
pub record KeepsHistory (books : Books) (lists : Option (List (List Rule))) (y : YardState) : Type 0 where
  pub history : List Event
  pub is_history : IsHistory books y.server history
  pub installed : IsInstalledBy lists y history

-- an opened file that is compiled of rules, or that there was none
abbrev pub IsWholeFile : Option (List ℕ) → Type 0
IsWholeFile None = ⊤
IsWholeFile (Some file) = (rules : List Rule) × IsOf rules file
