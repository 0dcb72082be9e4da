use Rattle.server_yard.specs.Yards.{yard_books, yard_server}
use Rattle.server_yard.proofs.Admitting.{all_within, each_within}
use Rattle.server_yard.proofs.Living.{counts_stored, lived}
use Rattle.server_yard.proofs.yard.Yard.history.Goals as goal

pub returns-clause-lived : goal.returns-clause-lived
returns-clause-lived g c = let self = c.args.self.now in lived (yard_books self) (yard_server self) self.history

pub returns-clause-limit : goal.returns-clause-limit
returns-clause-limit g c = let self = c.args.self.now in all_within _ (yard_server self) self.history

pub returns-clause-per_address : goal.returns-clause-per_address
returns-clause-per_address g c ip = let self = c.args.self.now in each_within _ (yard_server self) ip self.history

pub returns-clause-stored : goal.returns-clause-stored
returns-clause-stored g c = let self = c.args.self.now in counts_stored (yard_books self) (yard_server self) self.history
