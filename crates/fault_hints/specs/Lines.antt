-- What is told behind the line of a fault of a rule text.
use Rattle.std.specs.Prelude.{ℕ, ◌==◌, nat_eq, List, [], ◌∷◌, ◌++◌, drop, codes, if◌then◌else◌}
use Rattle.std.specs.List.{starts_with, ends_with}
use Rattle.byte_text.specs.Fields.{field_text}
use Rattle.rule_lookup.specs.Lines.{is_blank}
use Rattle.rule_lines.specs.declared.fault.LineKind.{LineKind}
use Rattle.rule_lines.specs.declared.fault.LineKind.TheVariants.{NoVerdict, BadSetting, BadRange, NotText, NulByte, LongLine, LongText}
use Rattle.fault_hints.specs.declared.lines.TheConstants.{BEHIND, BLANK, LONG, LONG_TEXT, NUL, RANGE, RETURN, SETTINGS, TEXT, VERDICT}

-- what stands behind the word of the verdict
abbrev pub behind_word : List ℕ → List ℕ
behind_word instructions =
    if starts_with nat_eq instructions (codes "allow") then drop 5 instructions
    else (if starts_with nat_eq instructions (codes "deny") then drop 4 instructions else [])

-- what is wrong with settings behind their first comma: a blank, or what only a reader of settings knows
abbrev pub name_text : List ℕ → List ℕ
name_text [] = SETTINGS.now
name_text (b ∷ bs) = if is_blank b then BLANK.now else SETTINGS.now

-- what is wrong with settings
abbrev pub setting_text : List ℕ → List ℕ
setting_text [] = SETTINGS.now
setting_text (b ∷ bs) = if b == 44 then name_text bs else BEHIND.now

-- what was expected of a line of this kind, with these instructions
abbrev pub expected : LineKind → List ℕ → List ℕ
expected NoVerdict instructions = VERDICT.now
expected BadSetting instructions =
    if ends_with nat_eq instructions (13 ∷ []) then RETURN.now else setting_text (behind_word instructions)
expected BadRange instructions = RANGE.now
expected NotText instructions = TEXT.now
expected NulByte instructions = NUL.now
expected LongLine instructions = LONG.now
expected LongText instructions = LONG_TEXT.now

-- a line as it is shown: what stands before its first colon, and behind it
abbrev pub shown_text : List ℕ → List ℕ → List ℕ
shown_text address instructions = field_text address ++ codes ":" ++ field_text instructions

-- the line of a cause that shows it
abbrev pub line_text : LineKind → List ℕ → List ℕ → List ℕ
line_text kind address instructions =
    codes "tcprules: cause: " ++ shown_text address instructions ++ codes ": " ++ expected kind instructions ++ codes "\n"
