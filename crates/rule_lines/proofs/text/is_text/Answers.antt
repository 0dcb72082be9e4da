use Rattle.std.proofs.Common.{◌∙◌}
use Rattle.rule_lines.proofs.FaultLemmas.{is_utf8-read}
use Rattle.rule_lines.proofs.text.is_text.Goals as goal

pub returns-else-plain : goal.returns-else-plain
returns-else-plain c = c.is_ok.ensures.value ∙ is_utf8-read c.args.bytes.now _ _ c.from_utf8.result c.from_utf8.ensures.cases
