use Rattle.rule_lines.proofs.KnownLemmas.{AreRules-accepted}
use Rattle.rule_lookup.specs.Pairs.{pairs_of}
use Rattle.rule_lookup.proofs.ListedLemmas.{decision_by-listed}
use Rattle.rule_lines.proofs.laws.accepted.Goals as goal

pub returns : goal.returns
returns c = λ limits text peer accepted. decision_by-listed (pairs_of text) peer (AreRules-accepted limits text accepted)
