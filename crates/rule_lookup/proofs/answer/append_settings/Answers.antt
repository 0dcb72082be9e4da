use Rattle.std.proofs.Common.{arith}
use Rattle.rule_lookup.specs.Answers.{setting_line}
use Rattle.rule_lookup.proofs.AppendLemmas.{append_more}
use Rattle.rule_lookup.proofs.answer.append_settings.Goals as goal

pub loop-setting-preserved : goal.loop-setting-preserved
loop-setting-preserved c =
    append_more setting_line c.args.settings.now c.loop-setting.setting-index c.setting-item.result c.args.out.now.items c.loop-setting.out.items c.append_setting.new.out.items (omega arith) c.setting-item.is c.loop-setting.invariant c.in_ok-append_setting.ensures
