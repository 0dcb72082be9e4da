use Rattle.stream_tools.proofs.FilterLemmas.{came_by, deleted_nothing, whole}
use Rattle.stream_tools.proofs.filter.delete_returns.Goals as goal

pub pass_on-requires : goal.pass_on-requires
pass_on-requires g c = λ wrapper. deleted_nothing wrapper.held

pub returns-clause-passed : goal.returns-clause-passed
returns-clause-passed g c = whole (came_by c.new.ensures c.pass_on.ensures)

pub returns-clause-came : goal.returns-clause-came
returns-clause-came g c = came_by c.new.ensures c.pass_on.ensures
