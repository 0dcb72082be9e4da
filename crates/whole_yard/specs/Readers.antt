-- What a reader finds under the rules name of a yard, whatever a stop leaves there.
use Rattle.std.specs.Prelude.{◌≡◌, ◌≤◌, ◌+◌, ◌⊎◌, ℕ, Bool, true, false, List, ◌∷◌, ◌++◌, Option, None, Some, IfSome, slice_get}
use Rattle.std.specs.List.{count_by}
use Rattle.std.specs.FinMap.{get}
use Rattle.dir_calls.specs.Directory.{Directory}
use Rattle.dir_calls.specs.NameTable.{CanBeLeft, Names}
use Rattle.server_events.specs.Journals.{Books}
use Rattle.rule_lookup.specs.Pairs.{Rule}
use Rattle.dir_calls.specs.declared.phase.Phase.TheVariants.{Fresh, Done}
use Rattle.server_events.specs.ServerState.{Effect, comes_to, effect}
use Rattle.headline.specs.Worlds.{IsOf, RulesName}
use Rattle.server_events.specs.declared.event.Event.{Event}
use Rattle.server_events.specs.declared.event.Event.TheVariants.{Stepped}
use Rattle.whole_yard.specs.Installed.{KeepsHistory}
use Rattle.server_yard.specs.Rolls.{IsHistory}
use Rattle.whole_yard.specs.Standing.{YardState}

-- among these names the name stands for a synced file that is compiled of these rules
pub record NamesCompiled (d : Directory) (names : Names) (name : List ℕ) (rules : List Rule) : Type 0 where
  pub number : ℕ
  pub file : List ℕ
  pub named : get names name ≡ Some number
  pub synced : slice_get d.files number ≡ Some (record { bytes = file; synced = true })
  pub compiled : IsOf rules file

-- whatever a stop leaves under the name, it is absent, or stands for a synced file that is compiled of some rules
abbrev pub IsAbsentOrCompiled : Directory → List ℕ → Type 0
IsAbsentOrCompiled d name =
    (names : Names) → CanBeLeft d.names names → (get names name ≡ None) ⊎ ((rules : List Rule) × NamesCompiled d names name rules)

abbrev pub begins_by : Effect → Bool
begins_by (comes_to Fresh) = true
begins_by _ = false

-- whether an event is a first step, by which an installation begins
abbrev pub is_first : Event → Bool
is_first event = begins_by (effect event)

-- how many installations began, which is the number of the last of them
abbrev pub begun_in : List Event → ℕ
begun_in history = count_by is_first history

-- the name stands for a synced file that is compiled of a stored list; lists are numbered from 1, and this one is no older than a number
pub record NamesStored (lists : List (List Rule)) (least : ℕ) (d : Directory) (names : Names) (name : List ℕ) : Type 0 where
  pub position : ℕ
  pub rules : List Rule
  pub stored : slice_get lists position ≡ Some rules
  pub recent : least ≤ position + 1
  pub there : NamesCompiled d names name rules

-- Since an installation answered `Done`: whatever a stop leaves under the name, it stands for a file of the stored list of that installation
-- or of a later one.
abbrev pub NamesStoredSinceDone : List Event → List (List Rule) → Directory → List ℕ → Type 0
NamesStoredSinceDone history lists d name =
    (before later : List Event) → history ≡ before ++ Stepped Done ∷ later
    → (names : Names) → CanBeLeft d.names names → NamesStored lists (begun_in before) d names name

-- a yard that follows rules, as its type keeps it
pub record KeptYard : Type 0 where
  pub books : Books
  pub lists : Option (List (List Rule))
  pub state : YardState
  pub rules : RulesName
  pub follows : state.rules ≡ Some rules
  pub kept : KeepsHistory books lists state

-- what readers find in a yard, told from its history
pub record ReadersFind (books : Books) (lists : Option (List (List Rule))) (y : YardState) (rules : RulesName) : Type 0 where
  pub history : List Event
  pub is_history : IsHistory books y.server history
  pub always : IsAbsentOrCompiled y.directory rules.name
  pub since_done : IfSome lists (λ all. NamesStoredSinceDone history all y.directory rules.name)
