-- What `tcprules` tells of an installation that failed.
use Rattle.rule_lines.specs.declared.fault.LineFault.{LineFault}
use Rattle.rule_lines.specs.declared.fault.LineKind.{LineKind}
use Rattle.rule_lines.specs.declared.fault.LineKind.TheVariants.{LongText as TextIsLong}
use Rattle.dir_calls.specs.declared.phase.Phase.TheVariants.{Done}
use Rattle.rules_install.specs.declared.fault.InstallFault.{InstallFault}
use Rattle.rules_install.specs.declared.fault.InstallFault.TheVariants as install
use Rattle.rules_tools.specs.declared.tcprules.TcprulesFault.{TcprulesFault}
use Rattle.rules_tools.specs.declared.tcprules.TcprulesFault.TheVariants.{Line, LongText, TooLarge, Device, OutOfMemory}

-- a fault of a line, or of the whole text, which has no line
abbrev pub line_fault : LineFault → LineKind → TcprulesFault
line_fault fault TextIsLong = LongText
line_fault fault kind = Line fault

-- whatever failed of the disk is a device fault on the way to its phase; an installation that is over had failed on the way to its last
-- phase at the latest
abbrev pub told_fault : InstallFault → TcprulesFault
told_fault (install.Line fault) = line_fault fault fault.kind
told_fault install.TooLarge = TooLarge
told_fault (install.Disk fault phase) = Device phase
told_fault install.Over = Device Done
told_fault install.OutOfMemory = OutOfMemory
