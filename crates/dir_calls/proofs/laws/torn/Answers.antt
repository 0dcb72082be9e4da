use Rattle.dir_calls.proofs.Torn.{torn_both, torn_neither}
use Rattle.dir_calls.proofs.laws.torn.Goals as goal

pub returns-clause-both : goal.returns-clause-both
returns-clause-both c d from to n may = torn_both d from to n may

pub returns-clause-neither : goal.returns-clause-neither
returns-clause-neither c d from to n may = torn_neither d from to n may
