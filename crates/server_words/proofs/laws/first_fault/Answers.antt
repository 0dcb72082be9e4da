use Rattle.server_words.proofs.CheckLemmas.{checks-found, options-found}
use Rattle.server_words.proofs.laws.first_fault.Goals as goal

pub returns-clause-options : goal.returns-clause-options
returns-clause-options c = options-found

pub returns-clause-checks : goal.returns-clause-checks
returns-clause-checks c = checks-found
