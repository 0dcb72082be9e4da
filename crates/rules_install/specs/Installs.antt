-- What an installation is.
use Rattle.std.specs.Prelude.{◌≡◌, ◌≢◌, ℕ, Bool, true, false, length, Some, Result}
use Rattle.dir_calls.specs.Directory.{Directory}
use Rattle.dir_calls.specs.declared.dir.Dir.{Ghosts}
use Rattle.rules_install.specs.Filled.{blank_file}
use Rattle.rules_install.specs.Installing.{Installing, next_phase}
use Rattle.rules_install.specs.Steps.{Changes, Goes, StepKeeps, StepStops, StepsTo}
use Rattle.dir_calls.specs.declared.phase.Phase.{Phase}
use Rattle.dir_calls.specs.declared.phase.Phase.TheVariants.{Done}
use Rattle.rules_install.specs.declared.fault.InstallFault.{InstallFault}
use Rattle.rules_install.specs.declared.install.Install.{Install}

abbrev pub installing : Install → Installing
installing i = record { rules = i.pieces; names = i.names; filled = i.filled; patched = i.patched; reached = i.reached; over = i.over }

-- a step answered a fault of the directory, or none did
abbrev pub IsOver : Install → Type 0
IsOver i = (installing i).over ≡ true

abbrev pub IsOpen : Install → Type 0
IsOpen i = (installing i).over ≡ false

-- the last step was made, or not
abbrev pub IsAtDone : Install → Type 0
IsAtDone i = (installing i).reached ≡ Some Done

abbrev pub IsUndone : Install → Type 0
IsUndone i = (installing i).reached ≢ Some Done

-- all bytes of the file were appended
abbrev pub HasAllBytes : Install → Type 0
HasAllBytes i = (installing i).filled ≡ length (blank_file (installing i).rules)

-- a step does nothing, and answers this
abbrev pub OnlyAnswers : {D : Type 0} → Result Phase InstallFault → Install → Install → D → D → Result Phase InstallFault → Type 0
OnlyAnswers answer i i' old new result = (result ≡ answer) × (installing i' ≡ installing i) × (new ≡ old)

-- the step to the next phase: what it answers, and how far the installation is then
abbrev pub StepGoes : Install → Install → Result Phase InstallFault → Type 0
StepGoes i i' result = Goes (next_phase (installing i)) (installing i) (installing i') result

-- the directory after it
abbrev pub StepChanges : Install → Directory → Directory → Result Phase InstallFault → Type 0
StepChanges i old new result = Changes (installing i) (next_phase (installing i)) old new result

-- all that a step to a phase promises, if the directory was as the steps before left it
abbrev pub Steps : {D F : Type 0} → Ghosts D F → Phase → Install → Install → D → D → Result Phase InstallFault → Type 0
Steps tells next i i' old new result =
    StepsTo tells next (installing i) (installing i') old new result

-- what stands under the name of the rules file, whenever the machine stops since it began
abbrev pub KeepsText : {D F : Type 0} → Ghosts D F → Install → D → D → Type 0
KeepsText tells i old new = StepKeeps tells (next_phase (installing i)) (installing i) old new

-- all that a stop since it began may have left
abbrev pub StopsWithin : {D F : Type 0} → Ghosts D F → Install → D → D → Type 0
StopsWithin tells i old new = StepStops tells (next_phase (installing i)) (installing i) old new
