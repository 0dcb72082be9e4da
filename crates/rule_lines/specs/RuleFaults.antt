-- Why a line gives no rules, for contracts within the crate.
use Rattle.std.specs.Prelude.{◌≡◌, ℕ, Bool, true, false, is_none, List, Option, Some, None, if◌then◌else◌}
use Rattle.std.specs.Str.{is_utf8}
use Rattle.rule_lines.specs.declared.fault.LineKind.{LineKind}
use Rattle.rule_lines.specs.declared.fault.LineKind.TheVariants.{NoVerdict, BadSetting}
use Rattle.rule_lines.specs.declared.fault.RuleFault.{RuleFault}
use Rattle.rule_lines.specs.declared.fault.ParseFault.{ParseFault}
use Rattle.rule_lines.specs.declared.fault.ParseFault.TheVariants.{Line as AtLine, OutOfMemory as NoMemory}
use Rattle.rule_lines.specs.declared.fault.RuleFault.TheVariants.{Kind, OutOfMemory}
use Rattle.rule_lookup.specs.declared.instr.Verdict.{Verdict}
use Rattle.rule_lines.specs.Faults.{first_faulty}
use Rattle.rule_lookup.specs.Lines.{has_byte, lines_of}
use Rattle.rule_lookup.specs.Pairs.{settings_after, verdict_of}

-- text without a zero byte
abbrev pub IsPlain : List ℕ → Type 0
IsPlain bytes = (is_utf8 bytes ≡ true) × (has_byte 0 bytes ≡ false)

-- it has this fault, or there was no memory for its rules
abbrev pub Names : Option LineKind → RuleFault → Type 0
Names fault (Kind kind) = fault ≡ Some kind
Names fault OutOfMemory = Unit {0}

-- the fault of the first faulty line, or there was no memory for the rules of the lines
abbrev pub RefusesLines : ℕ → List ℕ → ParseFault → Type 0
RefusesLines limit text (AtLine fault) = first_faulty limit 1 (lines_of text) ≡ Some fault
RefusesLines limit text NoMemory = Unit {0}

-- the first two kinds of fault: of the word, and of what follows it
abbrev pub fault_behind : Bool → List ℕ → Option Verdict → Option LineKind
fault_behind is_text instructions None = Some NoVerdict
fault_behind is_text instructions (Some verdict) = if is_none (settings_after is_text verdict instructions) then Some BadSetting else None

-- the fault for which instructions can't be read
abbrev pub fault_within : Bool → List ℕ → Option LineKind
fault_within is_text instructions = fault_behind is_text instructions (verdict_of instructions)
