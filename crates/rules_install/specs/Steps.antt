-- What a step of an installation does, by its answer.
use Rattle.std.specs.Prelude.{◌≡◌, ◌≢◌, ◌⊎◌, ◌<◌, ◌≤◌, ◌^◌, ◌-◌, ⊤, ℕ, IsTrue, true, false, List, ◌∷◌, Option, Some, Result, Ok, Err, IfErr}
use Rattle.dir_calls.specs.Directory.{Directory}
use Rattle.dir_calls.specs.Calls.{Call, makes, appends, patches, syncs, renames, settles, after}
use Rattle.dir_calls.specs.Outcomes.{Fails, LeftBy}
use Rattle.dir_calls.specs.Lasting.{LastsAmong, HasAmong}
use Rattle.dir_calls.specs.Moments.{Elapses, LeavesOnly}
use Rattle.dir_calls.specs.declared.fault.DirFault.{DirFault}
use Rattle.dir_calls.specs.declared.fault.DirFault.TheVariants.{Device, OutOfMemory as NoMemory}
use Rattle.dir_calls.specs.declared.dir.Dir.{Ghosts}
use Rattle.rules_install.specs.Filled.{whole_file}
use Rattle.rules_install.specs.Installing.{Installing, Fits}
use Rattle.dir_calls.specs.declared.phase.Phase.{Phase}
use Rattle.dir_calls.specs.declared.phase.Phase.TheVariants.{Fresh, Filling, Synced, Named, Done}
use Rattle.rules_install.specs.declared.fault.InstallFault.{InstallFault}
use Rattle.rules_install.specs.declared.fault.InstallFault.TheVariants.{Disk, OutOfMemory}

-- the one call of the directory on the way to a phase
abbrev pub IsCallOf : Installing → Phase → Call → Type 0
IsCallOf s Fresh call = call ≡ makes s.names.tmp
IsCallOf s Filling call = ((piece : List ℕ) × (call ≡ appends piece)) ⊎ ((position : ℕ) × (bytes : List ℕ) × (call ≡ patches position bytes))
IsCallOf s Synced call = call ≡ syncs
IsCallOf s Named call = call ≡ renames s.names.tmp s.names.cdb
IsCallOf s Done call = call ≡ settles

-- the directory after a step to a phase: after its call, or what that leaves if the device failed, or as before
abbrev pub Changes : Installing → Phase → Directory → Directory → Result Phase InstallFault → Type 0
Changes s next old new (Ok phase) = (call : Call) × IsCallOf s next call × (new ≡ after call old)
Changes s next old new (Err (Disk Device phase)) = (call : Call) × IsCallOf s next call × Fails call old new
Changes s next old new (Err fault) = new ≡ old

-- the same installation, one step further
pub record IsSame (old new : Installing) : Type 0 where
  pub rules : new.rules ≡ old.rules
  pub names : new.names ≡ old.names

-- the scratch file is filled as far as before
pub record HasFilled (old new : Installing) : Type 0 where
  pub filled : new.filled ≡ old.filled
  pub patched : new.patched ≡ old.patched

-- what a step to a phase answers, and how far the installation is then
abbrev pub Goes : Phase → Installing → Installing → Result Phase InstallFault → Type 0
Goes next old new (Ok phase) = (phase ≡ next) × (new.reached ≡ Some next) × (new.over ≡ false)
Goes next old new (Err (Disk fault phase)) = (phase ≡ next) × (new.reached ≡ old.reached) × (new.over ≡ true) × (fault ≢ NoMemory)
Goes next old new (Err OutOfMemory) = new ≡ old
Goes next old new (Err fault) = ⊥

-- what may stand under the name of the rules file during the step to a phase, if one of these stood there before
abbrev pub may_stand : Phase → List ℕ → List (Option (List ℕ)) → List (Option (List ℕ))
may_stand Named file olds = Some file ∷ olds
may_stand phase file olds = olds

-- A step to a phase keeps what stood under the name of the rules file, or its rename puts the whole file there: at its
-- end, and whenever the machine stops since it began.
pub record StepKeeps {D F : Type 0} (tells : Ghosts D F) (next : Phase) (s : Installing) (old new : D) : Type 0 where
  pub lasts : (olds : List (Option (List ℕ))) → LastsAmong (tells.state old) s.names.cdb olds
      → LastsAmong (tells.state new) s.names.cdb (may_stand next (whole_file s.rules) olds)
  pub any_moment : (olds : List (Option (List ℕ))) → LastsAmong (tells.state old) s.names.cdb olds
      → LeavesOnly tells.moment tells.left_since old new (HasAmong s.names.cdb (may_stand next (whole_file s.rules) olds))

-- Whenever the machine stopped since a step to a phase began: it left what it could leave before, or what a stop leaves
-- before, within or right after the step's one call.
pub record StepStops {D F : Type 0} (tells : Ghosts D F) (next : Phase) (s : Installing) (old new : D) : Type 0 where
  pub call : Call
  pub is_call : IsCallOf s next call
  pub time : Elapses (tells.moment old) (tells.moment new) (tells.left_since old) (tells.left_since new)
      (LeftBy call (tells.state old) (tells.state new))

-- the answer of a step to a phase, by that of its call of the directory
abbrev pub answer_of : {T : Type 0} → Phase → Result T DirFault → Result Phase InstallFault
answer_of next (Ok done) = Ok next
answer_of next (Err NoMemory) = Err OutOfMemory
answer_of next (Err fault) = Err (Disk fault next)

-- the installation after it
abbrev pub noted : {T : Type 0} → Phase → Installing → Result T DirFault → Installing
noted next s (Ok done) = record s { reached = Some next }
noted next s (Err NoMemory) = s
noted next s (Err fault) = record s { over = true }

-- a fault of the directory is its device's
abbrev pub IsOfDevice : Result Phase InstallFault → Type 0
IsOfDevice (Err (Disk fault phase)) = fault ≡ Device
IsOfDevice result = ⊤

-- a failure of the device was counted, or no more can be
abbrev pub HasFailed : ℕ → ℕ → Type 0
HasFailed before now = (before < now) ⊎ (now ≡ 2 ^ 64 - 1)

-- the device is blamed only if it failed
abbrev pub BlamesFault : ℕ → ℕ → InstallFault → Type 0
BlamesFault before now (Disk Device phase) = HasFailed before now
BlamesFault before now fault = ⊤

abbrev pub BlamesDevice : ℕ → ℕ → Result Phase InstallFault → Type 0
BlamesDevice before now result = IfErr result (BlamesFault before now)

-- all that a step to a phase promises, if the directory was as the steps before left it
pub record StepsTo {D F : Type 0} (tells : Ghosts D F)
    (next : Phase) (s s' : Installing) (old new : D) (result : Result Phase InstallFault) : Type 0 where
  pub same : IsSame s s'
  pub goes : Goes next s s' result
  pub kept : (result ≡ Ok Filling → ⊥) → HasFilled s s'
  pub fits : IsTrue tells.honest → Fits s' (tells.state new)
  pub changes : IsTrue tells.honest → Changes s next (tells.state old) (tells.state new) result
  pub keeps : IsTrue tells.honest → StepKeeps tells next s old new
  pub stops : IsTrue tells.honest → StepStops tells next s old new
  pub settling : next ≡ Done → result ≢ Err OutOfMemory
  pub device : IsTrue tells.honest → IsOfDevice result
  pub failures : tells.failed old ≤ tells.failed new
  pub blames : BlamesDevice (tells.failed old) (tells.failed new) result
