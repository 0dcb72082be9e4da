-- What is told of a failure, with its cause.
use Rattle.std.specs.Prelude.{ℤ, Option, Some, None, Result, Ok, Err}
use Rattle.rules_tools.specs.declared.cause.CauseOf.{CauseOf}
use Rattle.rules_tools.specs.declared.cause.CauseOf.TheVariants.{Input, Output}
use Rattle.rules_tools.specs.declared.cause.ErrorCause.{ErrorCause}
use Rattle.rules_tools.specs.declared.tcprules.RulesFailure.{RulesFailure}
use Rattle.rules_tools.specs.declared.tcprules.TcprulesFault.{TcprulesFault}
use Rattle.rules_tools.specs.declared.tcprules.TcprulesFault.TheVariants.{ReadFault, Device}
use Rattle.rules_tools.specs.declared.tcprulescheck.CheckFailure.{CheckFailure}
use Rattle.rules_tools.specs.declared.tcprulescheck.CheckFault.{CheckFault}
use Rattle.rules_tools.specs.declared.tcprulescheck.CheckFault.TheVariants as check

-- the cause of a call of the system that has a number for its error
abbrev pub cause_of : CauseOf → Option ℤ → Option ErrorCause
cause_of of None = None
cause_of of (Some error) = Some (record { of = of; error = error })

-- a failure of which no cause is told
abbrev pub without_cause : TcprulesFault → RulesFailure
without_cause fault = record { fault = fault; cause = None }

-- what is told of a run of `tcprules`: of a fault of reading the number that the reader noted, and of one of the disk what that told
abbrev pub failure_of : Result (Unit {0}) TcprulesFault → Option ℤ → Option ErrorCause → Result (Unit {0}) RulesFailure
failure_of (Ok done) reading disk = Ok done
failure_of (Err ReadFault) reading disk = Err (record { fault = ReadFault; cause = cause_of Input reading })
failure_of (Err (Device phase)) reading disk = Err (record { fault = Device phase; cause = disk })
failure_of (Err fault) reading disk = Err (without_cause fault)

-- the cause that is told of a fault of `tcprulescheck`: what the folders tell, or the number that the writer noted
abbrev pub check_cause : CheckFault → Option ErrorCause → Option ℤ → Option ErrorCause
check_cause check.NoFile folders writing = folders
check_cause check.Device folders writing = folders
check_cause check.ReadFault folders writing = folders
check_cause check.WriteFault folders writing = cause_of Output writing
check_cause fault folders writing = None

-- and what is told of a run of it
abbrev pub check_failure_of : Result (Unit {0}) CheckFault → Option ErrorCause → Option ℤ → Result (Unit {0}) CheckFailure
check_failure_of (Ok done) folders writing = Ok done
check_failure_of (Err fault) folders writing = Err (record { fault = fault; cause = check_cause fault folders writing })
