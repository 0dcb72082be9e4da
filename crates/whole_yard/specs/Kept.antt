-- The installation that a yard keeps.
use Rattle.std.specs.Prelude.{◌≡◌, ◌≢◌, ℕ, Bool, IsTrue, List, Option, None, Some, true, false, option_map}
use Rattle.std.specs.declared.alloc.Global.{Global}
use Rattle.std.specs.declared.vec.Vec.{Vec}
use Rattle.std.proofs.Props.{props}
use Rattle.dir_calls.specs.Directory.{Directory}
use Rattle.server_events.specs.ServerState.{ServerState}
use Rattle.rule_lookup.specs.Pairs.{Rule}
use Rattle.rule_lookup.specs.declared.decision.WhenMissing.{WhenMissing}
use Rattle.rules_install.specs.Installing.{Fits, FitsPhase, Installing}
use Rattle.rules_install.specs.Installs.{installing}
use Rattle.dir_calls.specs.declared.phase.Phase.{Phase}
use Rattle.dir_calls.specs.declared.phase.Phase.TheVariants.{Fresh, Filling, Synced, Named, Done}
use Rattle.headline.specs.Worlds.{RulesName}
use Rattle.whole_yard.specs.Standing.{YardState}
use Rattle.whole_yard.specs.declared.yard.Installation.{Installation}
use Rattle.whole_yard.specs.declared.yard.Installation.TheVariants.{Idle, UnderWay, AtDone}

-- the rules name, and what is decided if no file stands there
abbrev pub rules_of : Option (List ℕ × WhenMissing) → Option RulesName
rules_of rules = option_map (λ r. record { name = r.0; missing = r.1 }) rules

-- the rules of the installations that made their first step, in order; if they are stored
abbrev pub lists_of : Option (Vec (List Rule) Global) → Option (List (List Rule))
lists_of lists = option_map (λ (all : Vec (List Rule) Global). all.items) lists

-- the installation that is under way
abbrev pub installing_of : Installation → Option Installing
installing_of Idle = None
installing_of (UnderWay install) = Some (installing install)
installing_of AtDone = None

-- what a yard of these parts has of a world
abbrev pub state_of : ServerState → Directory → Option (List ℕ × WhenMissing) → Installation → YardState
state_of server directory rules installation = record {
  directory = directory;
  rules = rules_of rules;
  server = server;
  installing = installing_of installation;
}

-- how far it has come
abbrev pub phase_of : Option Installing → Option Phase
phase_of None = None
phase_of (Some s) = s.reached

-- An installation that is under way made its first step and not its last, met no fault, and is for the rules name.
pub record IsGoing (s : Installing) (rules : Option RulesName) : Type 0 where
  pub is_open : s.over ≡ false
  pub begun : s.reached ≢ None
  pub undone : s.reached ≢ Some Done
  pub for_rules : (r : RulesName) → rules ≡ Some r → s.names.cdb ≡ r.name
  pub follows : rules ≢ None

-- the installation that is kept is one that is under way, if there is one
abbrev pub IsKeptInstallation : Option Installing → Option RulesName → Type 0
IsKeptInstallation kept rules = (s : Installing) → kept ≡ Some s → IsGoing s rules

-- over an honest directory the installation that is kept finds the directory as its steps left it
abbrev pub FindsItsFile : Bool → Option Installing → Directory → Type 0
FindsItsFile honest kept d = IsTrue honest → (s : Installing) → kept ≡ Some s → Fits s d

FitsPhase-prop : (s : Installing) (d : Directory) (o : Option Phase) → IsProp (FitsPhase s d o)
FitsPhase-prop s d None = hlevel props
FitsPhase-prop s d (Some Fresh) = hlevel props
FitsPhase-prop s d (Some Filling) = hlevel props
FitsPhase-prop s d (Some Synced) = hlevel props
FitsPhase-prop s d (Some Named) = hlevel props
FitsPhase-prop s d (Some Done) = hlevel props

pub FindsItsFile-prop : (honest : Bool) (kept : Option Installing) (d : Directory) → IsProp (FindsItsFile honest kept d)
FindsItsFile-prop honest kept d = hlevel (props, FitsPhase-prop)

-- whether an installation is kept: under way, or done
abbrev pub is_kept : Installation → Bool
is_kept Idle = false
is_kept (UnderWay install) = true
is_kept AtDone = true
