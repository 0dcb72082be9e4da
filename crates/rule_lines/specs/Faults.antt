-- Which lines are faulty, with their least kind, and the first fault of a text.
use Rattle.std.specs.Prelude.{◌≡◌, ℕ, ◌+◌, ◌≤◌, not, is_none, nat_lt, List, [], ◌∷◌, length, Option, Some, None, if◌then◌else◌}
use Rattle.std.specs.Str.{is_utf8}
use Rattle.rule_lines.specs.declared.fault.LineKind.{LineKind}
use Rattle.rule_lines.specs.declared.fault.LineKind.TheVariants.{NoVerdict, BadSetting, BadRange, NotText, NulByte, LongLine, LongText}
use Rattle.rule_lines.specs.declared.fault.LineFault.{LineFault}
use Rattle.rule_lines.specs.declared.fault.ParseFault.{ParseFault}
use Rattle.rule_lines.specs.declared.fault.ParseFault.TheVariants.{Line as AtLine, OutOfMemory}
use Rattle.rule_lines.specs.declared.limits.Limits.{Limits}
use Rattle.rule_lookup.specs.declared.instr.Verdict.{Verdict}
use Rattle.rule_lookup.specs.Lines.{Line, lines_of, trimmed, has_byte}
use Rattle.rule_lookup.specs.Pairs.{is_ignored, address_in, instructions_in, verdict_of, settings_after}
use Rattle.rule_lookup.specs.Spread.{is_bad_range}

-- what is wrong with a line whose instructions can be read: the kinds from the third on
abbrev pub fault_beside : ℕ → List ℕ → Option LineKind
fault_beside limit line =
    if is_bad_range (address_in line) then Some BadRange
    else (if not (is_utf8 line) then Some NotText
    else (if has_byte 0 line then Some NulByte
    else (if nat_lt limit (length line) then Some LongLine else None)))

-- the same where the word of the verdict was found, or not
abbrev pub fault_under : ℕ → List ℕ → Option Verdict → Option LineKind
fault_under limit line None = Some NoVerdict
fault_under limit line (Some verdict) =
    if is_none (settings_after (is_utf8 line) verdict (instructions_in line)) then Some BadSetting else fault_beside limit line

-- the least kind for which a trimmed line is faulty; an ignored line never is
abbrev pub fault_in : ℕ → List ℕ → Option LineKind
fault_in limit line = if is_ignored line then None else fault_under limit line (verdict_of (instructions_in line))

-- the fault of line n, or the first one of the lines after it
abbrev pub or_later : ℕ → Option LineKind → Option LineFault → Option LineFault
or_later n (Some kind) later = Some (record { line = n; kind = kind })
or_later n None later = later

-- the first faulty line, where the first of the lines has the number n
abbrev pub first_faulty : ℕ → ℕ → List Line → Option LineFault
first_faulty limit n [] = None
first_faulty limit n (line ∷ lines) = or_later n (fault_in limit (trimmed line.bytes)) (first_faulty limit (n + 1) lines)

-- the fault of a text: that it is too long, in line 0, or else its first faulty line
abbrev pub fault_of : Limits → List ℕ → Option LineFault
fault_of limits text =
    if nat_lt limits.text (length text) then Some (record { line = 0; kind = LongText }) else first_faulty limits.line 1 (lines_of text)

-- a text is accepted if it is within the text limit and no line is faulty
abbrev pub IsAccepted : Limits → List ℕ → Type 0
IsAccepted limits text = fault_of limits text ≡ None

-- a refusal names the fault of the text; want of memory comes only to a text within the limit, and says no more of it
abbrev pub Refuses : Limits → List ℕ → ParseFault → Type 0
Refuses limits text (AtLine fault) = fault_of limits text ≡ Some fault
Refuses limits text OutOfMemory = length text ≤ limits.text
