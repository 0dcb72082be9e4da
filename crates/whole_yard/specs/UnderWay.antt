-- Installations that are under way in a world, and what their steps do there.
use Rattle.std.specs.Prelude.{◌≡◌, ◌⊎◌, ⊤, ℕ, false, Option, None, Some, Result, Ok, Err}
use Rattle.dir_calls.specs.Directory.{Directory}
use Rattle.dir_calls.specs.Images.{IsImage}
use Rattle.dir_calls.specs.declared.fault.DirFault.TheVariants.{Device}
use Rattle.dir_calls.specs.declared.dir.Dir.{Ghosts}
use Rattle.rule_lookup.specs.declared.decision.WhenMissing.{WhenMissing}
use Rattle.rules_install.specs.Installing.{Installing}
use Rattle.rules_install.specs.NamePair.{NamePair}
use Rattle.dir_calls.specs.declared.phase.Phase.{Phase}
use Rattle.dir_calls.specs.declared.phase.Phase.TheVariants.{Fresh, Filling, Synced, Named, Done}
use Rattle.rules_install.specs.declared.fault.InstallFault.{InstallFault}
use Rattle.rules_install.specs.declared.fault.InstallFault.TheVariants.{Disk}
use Rattle.headline.specs.Steps.{MayLeave, Step}
use Rattle.headline.specs.Worlds.{RulesName, UnderWay, World}
use Rattle.server_events.specs.declared.event.Event.TheVariants.{Stepped, StepFailed}

-- the name of an installation's rules file, and what a server decides if no file stands there
abbrev pub rules_named : NamePair → WhenMissing → RulesName
rules_named names missing = record { name = names.cdb; missing = missing }

-- an installation as a world has it, with the number of its text
abbrev pub as_under_way : Installing → ℕ → UnderWay
as_under_way s number = record { rules = s.rules; number = number; tmp = s.names.tmp }

-- a world has this installation under way, as far as it has come
pub record IsAsFar (w : World) (s : Installing) : Type 0 where
  pub number : ℕ
  pub under_way : w.under_way ≡ Some (as_under_way s number)
  pub phase : w.server.phase ≡ s.reached

-- a world has an installation under way as far as it has come, from its first step on until it is done
abbrev pub HasReached : World → Installing → Option Phase → Type 0
HasReached w s None = ⊤
HasReached w s (Some Fresh) = IsAsFar w s
HasReached w s (Some Filling) = IsAsFar w s
HasReached w s (Some Synced) = IsAsFar w s
HasReached w s (Some Named) = IsAsFar w s
HasReached w s (Some Done) = ⊤

-- an installation is under way in a world that has its directory and its rules name; unless it is over, the world has
-- it as far as it has come
pub record IsUnderWay (w : World) (s : Installing) (d : Directory) : Type 0 where
  pub directory : w.directory ≡ d
  pub missing : WhenMissing
  pub rules : w.rules ≡ Some (rules_named s.names missing)
  pub reached : s.over ≡ false → HasReached w s s.reached

-- the world after a step, by its answer
abbrev pub Arrives : World → Installing → Directory → Result Phase InstallFault → Type 0
Arrives w t e (Ok phase) = (v : World) × Step w (Stepped phase) v × IsUnderWay v t e
Arrives w t e (Err (Disk Device phase)) = (v : World) × Step w (StepFailed phase) v × IsUnderWay v t e
Arrives w t e (Err fault) = IsUnderWay w t e

-- each world in which an installation is under way goes on by its step
abbrev pub StepLeads : Installing → Installing → Directory → Directory → Result Phase InstallFault → Type 0
StepLeads s t d e result = (w : World) → IsUnderWay w s d → Arrives w t e result

-- A stop since a step of an installation began left what a stop may leave of each such world, or of the directory after
-- the step.
abbrev pub Leaves : {D F : Type 0} → Ghosts D F → Installing → D → D → Type 0
Leaves tells s old new =
    (w : World) (image : Directory) → IsUnderWay w s (tells.state old) → tells.left_since new (tells.moment old) image
    → MayLeave w image ⊎ IsImage (tells.state new) image
