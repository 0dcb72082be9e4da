use Rattle.rule_lines.proofs.KnownLemmas.{AreRules-accepted}
use Rattle.rule_lines.proofs.laws.known.Goals as goal

pub returns : goal.returns
returns c = AreRules-accepted
