-- What becomes of the scratch file after a fault.
use Rattle.std.specs.Prelude.{◌≡◌, ⊤, ℕ, List, Option, None, Some, Result, Err}
use Rattle.dir_calls.specs.Directory.{Directory, number_of}
use Rattle.dir_calls.specs.declared.fault.DirFault.{DirFault}
use Rattle.dir_calls.specs.declared.fault.DirFault.TheVariants.{Device, OutOfMemory}
use Rattle.rules_install.specs.Steps.{HasFailed}
use Rattle.rules_install.specs.declared.fault.InstallFault.{InstallFault}
use Rattle.rules_install.specs.declared.fault.InstallFault.TheVariants.{Disk}
use Rattle.rules_tools.specs.declared.tcprules.TcprulesFault.{TcprulesFault}
use Rattle.rules_tools.specs.declared.tcprules.TcprulesFault.TheVariants.{Device as DeviceAt}

-- the device failed, and then once more
abbrev pub HasFailedTwice : ℕ → ℕ → Type 0
HasFailedTwice before now = (mid : ℕ) × HasFailed before mid × HasFailed mid now

-- a name was to be taken away: nothing stands there, or it is noted why something may, for a failure of the device or for want of memory
abbrev pub IsTakenAway : List ℕ → Directory → Type 0 → Option DirFault → Type 0
IsTakenAway name d Failed None = number_of d name ≡ None
IsTakenAway name d Failed (Some Device) = Failed
IsTakenAway name d Failed (Some OutOfMemory) = ⊤
IsTakenAway name d Failed (Some fault) = ⊥

-- a fact that holds after a fault of the disk
abbrev pub AfterFault : Type 0 → Result (Unit {0}) InstallFault → Type 0
AfterFault fact (Err (Disk fault phase)) = fact
AfterFault fact result = ⊤

-- the same by what is told of it
abbrev pub AfterFaultTold : Type 0 → Result (Unit {0}) TcprulesFault → Type 0
AfterFaultTold fact (Err (DeviceAt phase)) = fact
AfterFaultTold fact result = ⊤
