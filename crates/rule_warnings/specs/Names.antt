-- The names that the settings of a line set.
use Rattle.std.specs.Prelude.{ℕ, Bool, true, false, not, ◌&&◌, ◌||◌, nat_eq, List, [], ◌∷◌, Option, Some, None}
use Rattle.std.specs.List.{list_any, starts_with}
use Rattle.std.specs.Option.{option_map_or}
use Rattle.rule_lookup.specs.declared.instr.Verdict.{Verdict}
use Rattle.rule_lookup.specs.Lines.{has_byte}
use Rattle.rule_lookup.specs.Pairs.{instructions_in, is_ignored, settings_after, verdict_of}
use Rattle.rule_lookup.specs.Settings.{Assignment}

-- a blank or a tab
abbrev pub has_blank : List ℕ → Bool
has_blank name = has_byte 32 name || has_byte 9 name

-- what is set has a name with a blank
abbrev pub is_blank_setting : Assignment → Bool
is_blank_setting setting = has_blank setting.name

-- they are settings, and the name of one has a blank
abbrev pub blank_among : Option (List Assignment) → Bool
blank_among settings = option_map_or (list_any is_blank_setting) settings false

-- the same of the settings behind the word of a verdict
abbrev pub blank_behind : List ℕ → Option Verdict → Bool
blank_behind instructions None = false
blank_behind instructions (Some verdict) = blank_among (settings_after true verdict instructions)

-- the line is a rule, and a name in it has a blank; an accepted line is UTF-8
abbrev pub has_blank_name : List ℕ → Bool
has_blank_name line = not (is_ignored line) && blank_behind (instructions_in line) (verdict_of (instructions_in line))

-- the line is a rule for clients with a name: its address begins with `=`
abbrev pub names_host : List ℕ → Bool
names_host line = starts_with nat_eq line (61 ∷ []) && has_byte 58 line
