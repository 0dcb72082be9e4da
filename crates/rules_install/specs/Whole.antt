-- Which text is installed, and what all steps of its installation answer.
use Rattle.std.specs.Prelude.{◌≡◌, ◌≢◌, ◌<◌, ◌≤◌, ⊤, ℕ, true, false, List, ◌∷◌, Option, None, Some, Result, Ok, Err}
use Rattle.dir_calls.specs.Directory.{Directory, file_at}
use Rattle.dir_calls.specs.Lasting.{HasAmong, LastsAmong}
use Rattle.dir_calls.specs.Moments.{LeavesOnly}
use Rattle.dir_calls.specs.declared.fault.DirFault.TheVariants.{Device}
use Rattle.dir_calls.specs.declared.dir.Dir.{Ghosts}
use Rattle.cdb_files.specs.Image.{finished_length, limit_of}
use Rattle.cdb_files.specs.Compiled.{stored}
use Rattle.cdb_files.specs.Reading.{reading}
use Rattle.rule_lines.specs.Faults.{IsAccepted, Refuses}
use Rattle.rule_lookup.specs.Pairs.{pairs_of}
use Rattle.rule_lookup.specs.Decisions.{decision_by, decision_of}
use Rattle.rule_lookup.specs.Peers.{Client}
use Rattle.rule_lines.specs.declared.limits.Limits.{Limits}
use Rattle.rule_lines.specs.declared.fault.ParseFault.TheVariants.{Line as LineOf}
use Rattle.rules_install.specs.Filled.{whole_file}
use Rattle.rules_install.specs.NamePair.{NamePair}
use Rattle.rules_install.specs.Installing.{Installing, FitsPhase, begun, next_phase, synced_file}
use Rattle.rules_install.specs.Steps.{Changes, IsOfDevice, IsSame}
use Rattle.dir_calls.specs.declared.phase.Phase.{Phase}
use Rattle.dir_calls.specs.declared.phase.Phase.TheVariants.{Named, Done}
use Rattle.rules_install.specs.declared.fault.InstallFault.{InstallFault}
use Rattle.rules_install.specs.declared.fault.InstallFault.TheVariants.{Line, TooLarge, Disk, Over, OutOfMemory}

-- the text is accepted, and its file keeps the limit
abbrev pub MayBeInstalled : Limits → List ℕ → Type 0
MayBeInstalled limits text = IsAccepted limits text × (finished_length (stored (pairs_of text)) ≤ limit_of limits.file)

-- a text is refused with this fault, or there was no memory
abbrev pub RefusesText : Limits → List ℕ → InstallFault → Type 0
RefusesText limits text (Line fault) = Refuses limits text (LineOf fault)
RefusesText limits text TooLarge = IsAccepted limits text × (limit_of limits.file < finished_length (stored (pairs_of text)))
RefusesText limits text OutOfMemory = ⊤
RefusesText limits text (Disk fault phase) = ⊥
RefusesText limits text Over = ⊥

-- which text gets which answer when its installation begins
abbrev pub Begins : {T : Type 0} → Limits → List ℕ → Result T InstallFault → Type 0
Begins limits text (Ok install) = MayBeInstalled limits text
Begins limits text (Err fault) = RefusesText limits text fault

-- All steps end with `Done`; or with a fault of the directory, with the phase that was to be reached, after which the installation is
-- over; or for want of memory, after which it is not.
abbrev pub EndsRun : Installing → Result (Unit {0}) InstallFault → Type 0
EndsRun s (Ok done) = (s.reached ≡ Some Done) × (s.over ≡ false)
EndsRun s (Err (Disk fault phase)) = (next_phase s ≡ phase) × (s.over ≡ true)
EndsRun s (Err OutOfMemory) = s.over ≡ false
EndsRun s (Err fault) = ⊥

-- A directory after the call on the way to a phase failed: the steps before had left it as they do, or it was this one
-- if no step was made.
pub record FailsAt (start : Installing) (phase : Phase) (old new : Directory) : Type 0 where
  pub under_way : Installing
  pub same : IsSame start under_way
  pub undone : under_way.reached ≢ Some Done
  pub next : next_phase under_way ≡ phase
  pub before : Directory
  pub fits : FitsPhase under_way before under_way.reached
  pub first : under_way.reached ≡ None → before ≡ old
  pub changes : Changes under_way phase before new (Err (Disk Device phase))

-- a fault has the phase whose call failed
abbrev pub TellsWhere : Installing → Directory → Directory → InstallFault → Type 0
TellsWhere start old new (Disk fault phase) = FailsAt start phase old new
TellsWhere start old new fault = ⊤

-- if the answer is `Done`, the whole file stands under the name of the rules file
abbrev pub StandsAtDone : Installing → Directory → InstallFault → Type 0
StandsAtDone start new (Disk fault Done) = file_at new start.names.cdb ≡ Some (synced_file start.rules)
StandsAtDone start new fault = ⊤

-- the installation of a text, before its first step
abbrev pub begun_of : List ℕ → NamePair → Installing
begun_of text names = begun (pairs_of text) names

-- a fault of the directory is its device's
abbrev pub IsDeviceFault : InstallFault → Type 0
IsDeviceFault fault = IsOfDevice (Err fault)

-- what stands under a name decides each peer as a text does
abbrev pub DecidesAs : Option (List ℕ) → List ℕ → Type 0
DecidesAs bytes text =
    (file : List ℕ) × (bytes ≡ Some file) × ((peer : Client) → decision_by (reading file) peer ≡ Ok (decision_of text peer))

-- what may stand under the name of the rules file afterwards, if one of these stood there before: the new file too, but
-- not after a fault on the way to a phase before `Named`
abbrev pub may_have : Result (Unit {0}) InstallFault → List ℕ → List (Option (List ℕ)) → List (Option (List ℕ))
may_have (Ok done) file olds = Some file ∷ olds
may_have (Err (Disk fault Named)) file olds = Some file ∷ olds
may_have (Err (Disk fault Done)) file olds = Some file ∷ olds
may_have (Err fault) file olds = olds

-- whenever the machine stopped since a run of steps began, what stood under the name of the rules file stands there, or the whole
-- file
abbrev pub RunKeeps : {D F : Type 0} → Ghosts D F → Installing → D → D → Type 0
RunKeeps tells s old new =
    (olds : List (Option (List ℕ))) → LastsAmong (tells.state old) s.names.cdb olds
    → LeavesOnly tells.moment tells.left_since old new (HasAmong s.names.cdb (Some (whole_file s.rules) ∷ olds))

-- the same at its end, by its answer
abbrev pub RunLasts : Installing → Directory → Directory → Result (Unit {0}) InstallFault → Type 0
RunLasts s old new result =
    (olds : List (Option (List ℕ))) → LastsAmong old s.names.cdb olds
    → LastsAmong new s.names.cdb (may_have result (whole_file s.rules) olds)
