use Rattle.std.proofs.Common.{sym, subst}
use Rattle.std.specs.Prelude.{Option, IsSomeAnd}
use Rattle.headline.specs.Steps.{IsWhole}
use Rattle.headline.specs.Worlds.{UnderWay}
use Rattle.headline.proofs.AfterStops.{after_stop}
use Rattle.headline.proofs.Others.{standing_on}
use Rattle.headline.proofs.laws.refusals.Goals as goal

pub returns-clause-whole : goal.returns-clause-whole
returns-clause-whole c w v step =
    let moves = step.moves in
    subst (λ (o : Option UnderWay). IsSomeAnd o (IsWhole w.directory)) (sym moves.1) moves.3

pub returns-clause-after_a_stop : goal.returns-clause-after_a_stop
returns-clause-after_a_stop c w n it = after_stop w it.stopped it.later it.then it.events it.event n it.stops it.goes_on it.step it.concerned

pub returns-clause-others : goal.returns-clause-others
returns-clause-others c w v bytes out there = standing_on w v bytes out there
