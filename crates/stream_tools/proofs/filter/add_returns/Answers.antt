use Rattle.stream_tools.proofs.FilterLemmas.{whole}
use Rattle.stream_tools.proofs.filter.add_returns.Goals as goal

pub returns-clause-passed : goal.returns-clause-passed
returns-clause-passed g c = whole c.pass_on.ensures
