-- The steps that a run of `tcprules` makes of its installation.
use Rattle.std.specs.Prelude.{◌≡◌, ◌⊎◌, ⊤, false, Some, OnOk, Result, Ok, Err}
use Rattle.dir_calls.specs.Calls.{after, settles}
use Rattle.dir_calls.specs.Clearing.{SparesOthers}
use Rattle.dir_calls.specs.Directory.{Directory}
use Rattle.dir_calls.specs.declared.fault.DirFault.TheVariants.{Device as DeviceFault}
use Rattle.rules_install.specs.Installing.{Installing}
use Rattle.rules_install.specs.Series.{IsSeries, MakesStep}
use Rattle.dir_calls.specs.declared.phase.Phase.TheVariants.{Fresh}
use Rattle.rules_install.specs.declared.fault.InstallFault.{InstallFault}
use Rattle.rules_install.specs.declared.fault.InstallFault.TheVariants.{Disk, OutOfMemory as NoMemory}
use Rattle.rules_tools.specs.declared.tcprules.TcprulesFault.{TcprulesFault}
use Rattle.rules_tools.specs.declared.tcprules.TcprulesFault.TheVariants.{Device, OutOfMemory}

-- its first step was made
abbrev pub IsBegun : Installing → Type 0
IsBegun s = (s.reached ≡ Some Fresh) × (s.over ≡ false)

-- The first step makes the scratch file in the directory that is met, and then all changes of names are made lasting. Without memory nothing
-- was done.
abbrev pub Begins : Installing → Installing → Directory → Directory → Result (Unit {0}) InstallFault → Type 0
Begins s t old new (Ok done) = (made : Directory) × MakesStep s t old made (Ok Fresh) × (new ≡ after settles made)
Begins s t old new (Err NoMemory) = new ≡ old
Begins s t old new (Err fault) = ⊤

-- The steps of this installation are made one after another: the first one in the directory that is met; then all changes of names are made
-- lasting; then the others, and where all are made their end is the new directory. After the last of them each name but the scratch name stands for
-- the file that it stood for.
pub record MakesSteps (s : Installing) (old new : Directory) (result : Result (Unit {0}) InstallFault) : Type 0 where
  pub t : Installing
  pub made : Directory
  pub first : MakesStep s t old made (Ok Fresh)
  pub u : Installing
  pub end : Directory
  pub series : IsSeries t u (after settles made) end result
  pub last : OnOk result (new ≡ end)
  pub spares : SparesOthers s.names.tmp end new

-- the same, by how it ends: where the first one failed, or the names could not be made lasting behind it, each other name stands for the file
-- that it stood for; and without memory perhaps nothing was done
abbrev pub MakesSeries : Installing → Directory → Directory → Result (Unit {0}) InstallFault → Type 0
MakesSeries s old new (Err (Disk fault Fresh)) = SparesOthers s.names.tmp old new
MakesSeries s old new (Err NoMemory) = (new ≡ old) ⊎ MakesSteps s old new (Err NoMemory)
MakesSeries s old new result = MakesSteps s old new result

-- and by what is told; where a text or its paths are refused none is made
abbrev pub TellsSeries : Installing → Directory → Directory → Result (Unit {0}) TcprulesFault → Type 0
TellsSeries s old new (Ok done) = MakesSteps s old new (Ok done)
TellsSeries s old new (Err (Device phase)) = MakesSeries s old new (Err (Disk DeviceFault phase))
TellsSeries s old new (Err OutOfMemory) = MakesSeries s old new (Err NoMemory)
TellsSeries s old new (Err fault) = ⊤
