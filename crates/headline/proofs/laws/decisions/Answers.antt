use Rattle.headline.proofs.Openings.{decided_by_standing, has_its_opening}
use Rattle.headline.proofs.laws.decisions.Goals as goal

pub returns-clause-by_what_stood : goal.returns-clause-by_what_stood
returns-clause-by_what_stood c x before u n peer decision reaches opens its = decided_by_standing before u reaches n x decision opens peer its

pub returns-clause-opened : goal.returns-clause-opened
returns-clause-opened c history x reaches n decision y step = has_its_opening history x y n decision reaches step
