use Rattle.rule_warnings.proofs.ExactLemmas.{no_peer, some_peer}
use Rattle.rule_warnings.proofs.laws.exact_forms.Goals as goal

pub returns-clause-some : goal.returns-clause-some
returns-clause-some c = some_peer

pub returns-clause-none : goal.returns-clause-none
returns-clause-none c = no_peer
