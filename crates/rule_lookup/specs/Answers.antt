-- The lines that tell a decision.
use Rattle.std.specs.Prelude.{ℕ, List, ◌++◌, codes, flat_map}
use Rattle.rule_lookup.specs.declared.instr.Verdict.{Verdict}
use Rattle.rule_lookup.specs.declared.instr.Verdict.TheVariants.{Allow, Deny}
use Rattle.rule_lookup.specs.Settings.{Assignment}
use Rattle.rule_lookup.specs.declared.decision.Decision.{Decision}
use Rattle.rule_lookup.specs.declared.decision.Found.{Found}
use Rattle.rule_lookup.specs.declared.decision.Found.TheVariants.{Address, Default, NoFile}

-- what decided
abbrev pub found_line : Found → List ℕ
found_line (Address address) = codes "rule " ++ address ++ codes ":\n"
found_line Default = codes "default:\n"
found_line NoFile = codes "no such file\n"

-- a setting
abbrev pub setting_line : Assignment → List ℕ
setting_line setting =
    codes "set environment variable " ++ setting.name ++ codes "=" ++ setting.value ++ codes "\n"

-- the verdict, and for allow alone the settings before it
abbrev pub verdict_lines : Verdict → List Assignment → List ℕ
verdict_lines Allow settings = flat_map setting_line settings ++ codes "allow connection\n"
verdict_lines Deny settings = codes "deny connection\n"

-- a decision, a line each
abbrev pub answer_lines : Decision → List ℕ
answer_lines decision = found_line decision.found ++ verdict_lines decision.verdict decision.settings
