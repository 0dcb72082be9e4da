-- The list counts its rules, and keeps the codes of their instructions.
use Rattle.std.proofs.Common.{arith, ap, length, subst}
use Rattle.rule_lookup.specs.Codes.{AreRules}
use Rattle.rule_lines.proofs.KnownLemmas.{AreRules-kept}
use Rattle.rule_lines.proofs.list.RuleList.len.Goals as goal

pub returns-clause-count : goal.returns-clause-count
returns-clause-count c = omega (arith, c.self.invariant.tallied.counted, ap length c.self.view_is)

pub returns-clause-known : goal.returns-clause-known
returns-clause-known c = subst AreRules c.self.view_is (AreRules-kept c.self.inside.kept.items c.self.invariant.lines)
