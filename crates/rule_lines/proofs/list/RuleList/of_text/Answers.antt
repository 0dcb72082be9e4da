-- The list keeps that it is of a text.
use Rattle.std.proofs.Common.{subst}
use Rattle.rule_lines.specs.Texts.{AreOfText}
use Rattle.rule_lines.proofs.list.RuleList.of_text.Goals as goal

pub returns : goal.returns
returns c = subst AreOfText c.self.view_is c.self.invariant.of_text
