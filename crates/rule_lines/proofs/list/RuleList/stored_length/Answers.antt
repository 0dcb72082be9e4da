-- The list measures its rules.
use Rattle.std.proofs.Common.{ap, ◌∙◌}
use Rattle.rule_lines.specs.Rows.{stored_length}
use Rattle.rule_lines.proofs.list.RuleList.stored_length.Goals as goal

pub returns : goal.returns
returns c = c.self.invariant.tallied.measured ∙ ap stored_length c.self.view_is
