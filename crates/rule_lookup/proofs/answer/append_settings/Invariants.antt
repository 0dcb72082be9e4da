use Rattle.std.proofs.Common.{◌≡◌, ◌++◌, take, flat_map}
use Rattle.rule_lookup.specs.Answers.{setting_line}
use Rattle.rule_lookup.proofs.answer.append_settings.Given as goal

-- the lines of the settings so far
abbrev pub invariant-loop-setting : goal.invariant-loop-setting
invariant-loop-setting l = l.out.items ≡ l.initial.out.items ++ flat_map setting_line (take l.setting-index l.settings)
