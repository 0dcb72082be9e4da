-- The code of an instruction: the value under which a rule is stored.
use Rattle.std.specs.Prelude.{◌≡◌, ℕ, ◌&&◌, ◌==◌, nat_eq, List, [], ◌∷◌, ◌++◌, length, drop, Option, Some, None, option_map, option_and_then, flat_map, if◌then◌else◌}
use Rattle.std.specs.List.{AllByRecursion, starts_with, before_first, after_first}
use Rattle.rule_lookup.specs.declared.code.DecodeFault.{DecodeFault}
use Rattle.rule_lookup.specs.declared.code.DecodeFault.TheVariants.{Code, OutOfMemory}
use Rattle.rule_lookup.specs.declared.instr.Verdict.{Verdict}
use Rattle.rule_lookup.specs.declared.instr.Verdict.TheVariants.{Allow, Deny}
use Rattle.rule_lookup.specs.declared.instr.Instr.{Instr}
use Rattle.rule_lookup.specs.Lines.{Line, pieces_of, has_byte}
use Rattle.rule_lookup.specs.Pairs.{Rule, instr_with}
use Rattle.rule_lookup.specs.Settings.{Assignment, AreSettings, is_setting}

-- each setting of the instruction is one that it may have
abbrev pub IsInstr : Instr → Type 0
IsInstr instr = AreSettings instr.settings

-- each rule has an instruction that may be
abbrev pub AreRules : List Rule → Type 0
AreRules rules = AllByRecursion (λ (rule : Rule). IsInstr rule.instr) rules

-- `+NAME=VALUE` and a zero byte
abbrev pub setting_code : Assignment → List ℕ
setting_code setting = 43 ∷ setting.name ++ 61 ∷ setting.value ++ 0 ∷ []

-- `D` and a zero byte for deny, and nothing for allow
abbrev pub verdict_code : Verdict → List ℕ
verdict_code Allow = []
verdict_code Deny = 68 ∷ 0 ∷ []

-- the code of an instruction: that of its verdict, and then that of each setting
abbrev pub code_of : Instr → List ℕ
code_of instr = verdict_code instr.verdict ++ flat_map setting_code instr.settings

-- the bytes are the code of some instruction
abbrev pub IsCode : List ℕ → Type 0
IsCode bytes = (instr : Instr) × IsInstr instr × (code_of instr ≡ bytes)

-- the setting whose code, without its zero byte, the bytes are
abbrev pub setting_in : List ℕ → Option Assignment
setting_in [] = None
setting_in (b ∷ bs) =
    let setting : Assignment = record { name = before_first (λ x. x == 61) bs; value = after_first (λ x. x == 61) bs } in
    if b == 43 && has_byte 61 bs && is_setting setting then Some setting else None

-- the settings whose codes the pieces between zero bytes are
abbrev pub settings_in : List Line → Option (List Assignment)
settings_in [] = Some []
settings_in (piece ∷ pieces) =
    if piece.ended then option_and_then (λ setting. option_map (λ settings. setting ∷ settings) (settings_in pieces)) (setting_in piece.bytes)
    else None

-- settings, and behind them those whose codes the bytes are
abbrev pub settings_with : List Assignment → List ℕ → Option (List Assignment)
settings_with settings codes = option_map (λ later. settings ++ later) (settings_in (pieces_of 0 codes))

-- settings with codes behind them are other settings with the rest of these codes, whatever follows
abbrev pub ReadsOn : List Assignment → List ℕ → List Assignment → List ℕ → Type 0
ReadsOn old codes new rest = (later : List ℕ) → settings_with new (rest ++ later) ≡ settings_with old (codes ++ later)

-- the bytes end in the rest
abbrev pub IsEndOf : List ℕ → List ℕ → Type 0
IsEndOf bytes rest = (front : List ℕ) × (bytes ≡ front ++ rest)

-- whatever follows, the bytes are not the codes of settings
abbrev pub BeginsNone : List ℕ → Type 0
BeginsNone codes = (later : List ℕ) → settings_in (pieces_of 0 (codes ++ later)) ≡ None

-- the verdict of a code
abbrev pub verdict_in : List ℕ → Verdict
verdict_in bytes = if starts_with nat_eq bytes (verdict_code Deny) then Deny else Allow

-- the settings of a code, behind this verdict
abbrev pub settings_behind : Verdict → List ℕ → Option (List Assignment)
settings_behind verdict bytes = settings_in (pieces_of 0 (drop (length (verdict_code verdict)) bytes))

-- the instruction whose code the bytes are, if they are one
abbrev pub decoded : List ℕ → Option Instr
decoded bytes =
    let verdict = verdict_in bytes in
    option_map (instr_with verdict) (settings_behind verdict bytes)

-- a refusal to decode says that the bytes are no code; want of memory says nothing of them
abbrev pub RefusesCode : List ℕ → DecodeFault → Type 0
RefusesCode bytes (Code fault) = ¬ IsCode bytes
RefusesCode bytes OutOfMemory = Unit {0}
