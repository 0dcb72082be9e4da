-- Which lines are rules, and the pairs of a text: its rules, one for each address, in order.
use Rattle.std.specs.Prelude.{ℕ, Bool, true, not, ◌||◌, ◌==◌, nat_eq, List, [], ◌∷◌, map, drop, codes, Option, Some, None, option_map, option_and_then, flat_map, if◌then◌else◌}
use Rattle.std.specs.List.{starts_with, before_first, after_first}
use Rattle.std.specs.Str.{is_utf8}
use Rattle.rule_lookup.specs.declared.instr.Verdict.{Verdict}
use Rattle.rule_lookup.specs.declared.instr.Verdict.TheVariants.{Allow, Deny}
use Rattle.rule_lookup.specs.declared.instr.Instr.{Instr}
use Rattle.rule_lookup.specs.Lines.{Line, lines_of, trimmed, has_byte}
use Rattle.rule_lookup.specs.Settings.{Assignment, settings_of}
use Rattle.rule_lookup.specs.Spread.{spread}

-- a line without an instruction: it is empty, begins with `#`, or has no colon
abbrev pub is_ignored : List ℕ → Bool
is_ignored [] = true
is_ignored (b ∷ bs) = b == 35 || not (has_byte 58 (b ∷ bs))

-- what stands before the first colon
abbrev pub address_in : List ℕ → List ℕ
address_in line = before_first (λ b. b == 58) line

-- what stands after the first colon
abbrev pub instructions_in : List ℕ → List ℕ
instructions_in line = after_first (λ b. b == 58) line

-- the word that instructions begin with
abbrev pub verdict_of : List ℕ → Option Verdict
verdict_of instructions =
    if starts_with nat_eq instructions (codes "allow") then Some Allow
    else (if starts_with nat_eq instructions (codes "deny") then Some Deny else None)

-- how long the word of a verdict is
abbrev pub word_length : Verdict → ℕ
word_length Allow = 5
word_length Deny = 4

-- the settings behind the word of the verdict
abbrev pub settings_after : Bool → Verdict → List ℕ → Option (List Assignment)
settings_after is_text verdict instructions = settings_of is_text (drop (word_length verdict) instructions)

-- the instruction of a verdict and settings
abbrev pub instr_with : Verdict → List Assignment → Instr
instr_with verdict settings = record { verdict = verdict; settings = settings }

-- what instructions say, if they say anything
abbrev pub instr_of : Bool → List ℕ → Option Instr
instr_of is_text instructions =
    option_and_then (λ verdict. option_map (instr_with verdict) (settings_after is_text verdict instructions)) (verdict_of instructions)

-- a rule: an address, and the instruction for it
pub record Rule : Type 0 where
  pub address : List ℕ
  pub instr : Instr

-- each address with the one instruction
abbrev pub pairs_with : Instr → List (List ℕ) → List Rule
pairs_with instr addresses = map (λ (address : List ℕ). record { address = address; instr = instr }) addresses

-- the pairs of a rule line, its address spread, with its instruction
abbrev pub pairs_under : Option Instr → List ℕ → List Rule
pairs_under None address = []
pairs_under (Some instr) address = pairs_with instr (spread address)

-- the pairs of a line that is a rule
abbrev pub rule_pairs : List ℕ → List Rule
rule_pairs line = pairs_under (instr_of (is_utf8 line) (instructions_in line)) (address_in line)

-- the pairs of a trimmed line: none where it is ignored
abbrev pub pairs_in : List ℕ → List Rule
pairs_in line = if is_ignored line then [] else rule_pairs line

-- the pairs of an accepted text; faulty lines are not left out here, since such a text has none
abbrev pub pairs_of : List ℕ → List Rule
pairs_of text = flat_map (λ (line : Line). pairs_in (trimmed line.bytes)) (lines_of text)
