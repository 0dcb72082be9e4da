-- Faults of a text as faults of its installation.
use Rattle.rule_lines.specs.declared.fault.ParseFault.{ParseFault}
use Rattle.rule_lines.specs.declared.fault.ParseFault.TheVariants.{Line as LineOf, OutOfMemory as NoMemory}
use Rattle.rules_install.specs.declared.fault.InstallFault.{InstallFault}
use Rattle.rules_install.specs.declared.fault.InstallFault.TheVariants.{Line, OutOfMemory}

abbrev pub of_parse : ParseFault → InstallFault
of_parse (LineOf fault) = Line fault
of_parse NoMemory = OutOfMemory
