-- What was found in a line, and how the call that writes warnings fails.
use Rattle.std.specs.Prelude.{◌≡◌, ℕ, List, ◌++◌, Some}
use Rattle.rule_lines.specs.declared.limits.Limits.{Limits}
use Rattle.rule_lines.specs.Faults.{fault_of, IsAccepted}
use Rattle.rule_warnings.specs.declared.findings.Findings.{Findings}
use Rattle.rule_warnings.specs.declared.report.WarnFault.{WarnFault}
use Rattle.rule_warnings.specs.declared.report.WarnFault.TheVariants.{Line, WriteFault, OutOfMemory}
use Rattle.rule_warnings.specs.declared.warning.WarningKind.{WarningKind}
use Rattle.rule_warnings.specs.declared.warning.WarningKind.TheVariants.{NoClient, UnknownUser, BlankName, NobodyElse, Ignored}
use Rattle.rule_warnings.specs.Warnings.{when, when_decided}

-- the kinds of warning that were found
abbrev pub kinds_in : Findings → List WarningKind
kinds_in found =
    when found.no_client NoClient ++ when found.unknown_user UnknownUser ++ when_decided found.decided_by ++ when found.blank_name BlankName
    ++ when found.nobody_else NobodyElse ++ when found.ignored Ignored

-- a refused text has the fault that is named; a writer fails only with an accepted one
abbrev pub WarnFails : Limits → List ℕ → WarnFault → Type 0
WarnFails limits text (Line fault) = fault_of limits text ≡ Some fault
WarnFails limits text WriteFault = IsAccepted limits text
WarnFails limits text OutOfMemory = Unit {0}

-- a text is refused with its fault, or there is no memory
abbrev pub RefusedBy : Limits → List ℕ → WarnFault → Type 0
RefusedBy limits text (Line fault) = fault_of limits text ≡ Some fault
RefusedBy limits text WriteFault = ⊥
RefusedBy limits text OutOfMemory = Unit {0}

-- what holds where a text is refused
abbrev pub OnRefusal : WarnFault → Type 0 → Type 0
OnRefusal (Line fault) fact = fact
OnRefusal WriteFault fact = Unit {0}
OnRefusal OutOfMemory fact = Unit {0}
