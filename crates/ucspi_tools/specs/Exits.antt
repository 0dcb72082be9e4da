-- With which code a run of a tool exits.
use Rattle.std.specs.Prelude.{ℕ, Bool, ◌&&◌, Result, Ok, Err, if◌then◌else◌}
use Rattle.child_jobs.specs.declared.outcome.Status.{Status}
use Rattle.child_jobs.specs.declared.outcome.Status.TheVariants.{Code, Signal}
use Rattle.rules_tools.specs.declared.review.ReviewFault.{ReviewFault}
use Rattle.rules_tools.specs.declared.review.ReviewFault.TheVariants as review
use Rattle.rules_tools.specs.declared.tcprules.TcprulesFault.{TcprulesFault}
use Rattle.rules_tools.specs.declared.tcprules.TcprulesFault.TheVariants as rules
use Rattle.rules_tools.specs.declared.tcprulescheck.CheckFault.{CheckFault}
use Rattle.rules_tools.specs.declared.tcprulescheck.CheckFault.TheVariants as check
use Rattle.server_parts.specs.declared.fault.ServerFault.TheVariants.{BadHosts}
use Rattle.server_parts.specs.declared.fault.TcpserverFault.{TcpserverFault}
use Rattle.server_parts.specs.declared.fault.TcpserverFault.TheVariants as server
use Rattle.server_words.specs.Faults as words
use Rattle.script_words.specs.declared.fault.SimFault.{SimFault}
use Rattle.script_words.specs.declared.fault.SimFault.TheVariants.{BadCommand, ReadFault, WriteFault, OutOfMemory}
use Rattle.ucspi_tools.specs.declared.fault.ToolFault.{ToolFault}
use Rattle.ucspi_tools.specs.declared.fault.ToolFault.TheVariants as tool

-- 100 for a bad command, and 111 for a fault of the system
abbrev pub script_exit : SimFault → ℕ
script_exit (BadCommand n) = 100
script_exit ReadFault = 111
script_exit WriteFault = 111
script_exit OutOfMemory = 111

-- 100 for wrong paths or a refused text, and 111 for a fault of the system
abbrev pub rules_exit : TcprulesFault → ℕ
rules_exit rules.ReadFault = 111
rules_exit (rules.Device phase) = 111
rules_exit rules.OutOfMemory = 111
rules_exit fault = 100

-- 100 for a refused text, and 111 for a fault of the system
abbrev pub review_exit : ReviewFault → ℕ
review_exit (review.Text fault) = 100
review_exit fault = 111

-- that of a text which was looked over: 1 where it has a warning and that makes the run fail
abbrev pub warned_exit : Bool → Bool → ℕ
warned_exit strict warned = if strict && warned then 1 else 0

-- 100 for a wrong variable, and 111 for all that is amiss with the file or the system
abbrev pub check_exit : CheckFault → ℕ
check_exit check.BadIp = 100
check_exit check.BadHost = 100
check_exit check.BadInfo = 100
check_exit fault = 111

-- that of wrong words; 100 for a line of the host table, and 111 for a fault of the system
abbrev pub server_exit : TcpserverFault → ℕ
server_exit (server.Words fault) = words.exit_of fault
server_exit (server.Server (BadHosts line)) = 100
server_exit (server.Server fault) = 111

-- 100 for wrong words; a stream or standard output that fails, a program that can't be run, and want of memory are faults of the system
abbrev pub exit_of : ToolFault → ℕ
exit_of (tool.UsageOf tool detail) = 100
exit_of tool.Usage = 100
exit_of (tool.Server fault) = server_exit fault
exit_of (tool.Script fault) = script_exit fault
exit_of (tool.Rules fault) = rules_exit fault
exit_of (tool.Review fault) = review_exit fault
exit_of (tool.Check fault) = check_exit fault
exit_of (tool.Filter fault) = 111
exit_of (tool.Between fault) = 111
exit_of tool.WriteFault = 111
exit_of tool.OutOfMemory = 111

-- the code of a program that was run, and 111 after a signal
abbrev pub status_exit : Status → ℕ
status_exit (Code code) = code
status_exit Signal = 111

-- the code that a run answers, or that of its fault
abbrev pub end_code : Result ℕ ToolFault → ℕ
end_code (Ok code) = code
end_code (Err fault) = exit_of fault
