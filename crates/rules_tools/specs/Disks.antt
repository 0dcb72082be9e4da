-- How an installation ends on the disk.
use Rattle.std.specs.Prelude.{◌≡◌, ◌≤◌, ⊤, ℕ, Bool, true, false, Result, Ok, Err}
use Rattle.dir_calls.specs.declared.fault.DirFault.TheVariants.{Device}
use Rattle.rules_install.specs.Steps.{HasFailed}
use Rattle.dir_calls.specs.declared.phase.Phase.TheVariants.{Fresh}
use Rattle.rules_install.specs.declared.fault.InstallFault.{InstallFault}
use Rattle.rules_install.specs.declared.fault.InstallFault.TheVariants.{Disk, OutOfMemory}

-- by some time since then, the device had failed
abbrev pub HasFailedSince : ℕ → ℕ → Type 0
HasFailedSince before now = (mid : ℕ) × HasFailed before mid × (mid ≤ now)

-- the device is blamed only where it failed
abbrev pub BlamesDisk : ℕ → ℕ → InstallFault → Type 0
BlamesDisk before now (Disk Device phase) = HasFailedSince before now
BlamesDisk before now fault = ⊤

-- an installation is not begun: the directory failed on the way to the first phase, or there was no memory
abbrev pub IsAtFresh : InstallFault → Type 0
IsAtFresh (Disk fault phase) = phase ≡ Fresh
IsAtFresh OutOfMemory = ⊤
IsAtFresh fault = ⊥

-- it failed by a fault of the disk
abbrev pub fails_on_disk : Result (Unit {0}) InstallFault → Bool
fails_on_disk (Err (Disk fault phase)) = true
fails_on_disk result = false

-- an installation ends on the disk: it is done, or fails by a fault of the directory or for want of memory
abbrev pub EndsOnDisk : Result (Unit {0}) InstallFault → Type 0
EndsOnDisk (Ok done) = ⊤
EndsOnDisk (Err (Disk fault phase)) = ⊤
EndsOnDisk (Err OutOfMemory) = ⊤
EndsOnDisk (Err fault) = ⊥
