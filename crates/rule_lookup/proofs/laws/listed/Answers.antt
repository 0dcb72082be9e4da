use Rattle.rule_lookup.proofs.ListedLemmas.{decision_by-listed}
use Rattle.rule_lookup.proofs.laws.listed.Goals as goal

pub returns : goal.returns
returns c = decision_by-listed
