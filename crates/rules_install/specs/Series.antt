-- The steps of an installation, one after another.
use Rattle.std.specs.Prelude.{◌≡◌, ◌≢◌, false, Some, Result, Ok, Err}
use Rattle.dir_calls.specs.Directory.{Directory}
use Rattle.rules_install.specs.Installing.{Installing, IsConsistent, Fits, next_phase}
use Rattle.rules_install.specs.Steps.{Changes, Goes, IsOfDevice, IsSame}
use Rattle.dir_calls.specs.declared.phase.Phase.{Phase}
use Rattle.dir_calls.specs.declared.phase.Phase.TheVariants.{Done}
use Rattle.rules_install.specs.declared.fault.InstallFault.{InstallFault}

-- an installation may make a step
pub record MayStepFrom (s : Installing) : Type 0 where
  pub consistent : IsConsistent s
  pub is_open : s.over ≡ false
  pub undone : s.reached ≢ Some Done

-- it makes one, and answers this
pub record MakesStep (s t : Installing) (d e : Directory) (result : Result Phase InstallFault) : Type 0 where
  pub may : MayStepFrom s
  pub fits : Fits s d
  pub same : IsSame s t
  pub goes : Goes (next_phase s) s t result
  pub changes : Changes s (next_phase s) d e result
  pub device : IsOfDevice result

-- Steps that each came to its phase lead from an installation and a directory to these.
pub data ComesTo : Installing → Directory → Installing → Directory → Type 0 where
  none : {s : Installing} {d : Directory} → ComesTo s d s d
  further : {s t u : Installing} {d e f : Directory} {phase : Phase} → ComesTo s d t e → MakesStep t u e f (Ok phase) → ComesTo s d u f

-- All steps that a run made: each came to its phase, but for the last one if the run ended with a fault.
abbrev pub IsSeries : Installing → Installing → Directory → Directory → Result (Unit {0}) InstallFault → Type 0
IsSeries s t d e (Ok done) = ComesTo s d t e
IsSeries s t d e (Err fault) = (u : Installing) × (f : Directory) × ComesTo s d u f × MakesStep u t f e (Err fault)
