-- The steps of an installation up to its end, as a series of events.
use Rattle.std.specs.Prelude.{List, [], ◌∷◌, ◌++◌, map, Result, Ok, Err}
use Rattle.dir_calls.specs.Directory.{Directory}
use Rattle.whole_yard.specs.UnderWay.{IsUnderWay}
use Rattle.rules_install.specs.Installing.{Installing}
use Rattle.dir_calls.specs.declared.phase.Phase.{Phase}
use Rattle.rules_install.specs.declared.fault.InstallFault.{InstallFault}
use Rattle.rules_install.specs.declared.fault.InstallFault.TheVariants.{Disk}
use Rattle.headline.specs.Steps.{Legal}
use Rattle.headline.specs.Worlds.{World}
use Rattle.server_events.specs.declared.event.Event.{Event}
use Rattle.server_events.specs.declared.event.Event.TheVariants.{Stepped, StepFailed}

-- the events of the steps that came to these phases
abbrev pub stepped_to : List Phase → List Event
stepped_to phases = map (λ (phase : Phase). Stepped phase) phases

-- the event of the step that failed, if the last one did
abbrev pub failure_of : Result (Unit {0}) InstallFault → List Event
failure_of (Ok done) = []
failure_of (Err (Disk fault phase)) = StepFailed phase ∷ []
failure_of (Err fault) = []

-- Steps that came to some phases, and a failed one if the last failed, lead from this world to one in which the
-- installation is under way as far as it has come.
pub record LeadsAlong (w : World) (t : Installing) (e : Directory) (result : Result (Unit {0}) InstallFault) : Type 0 where
  pub phases : List Phase
  pub v : World
  pub legal : Legal w (stepped_to phases ++ failure_of result) v
  pub there : IsUnderWay v t e
