use Rattle.server_events.proofs.Illegal.{none_legal, legal_none, some_first, first_some}
use Rattle.server_events.proofs.laws.first_illegal.Goals as goal

pub returns-clause-none : goal.returns-clause-none
returns-clause-none c w history = (λ h. none_legal w history h, λ h. legal_none w history h)

pub returns-clause-some : goal.returns-clause-some
returns-clause-some c w history i = (λ h. some_first w history i h, λ h. first_some w history i h)
