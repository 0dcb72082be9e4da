use Rattle.whole_yard.proofs.Auditing.{whole_history}
use Rattle.whole_yard.proofs.laws.whole.Goals as goal

pub returns : goal.returns
returns c = λ notes receipts before right as_many others. whole_history notes receipts before right as_many others
