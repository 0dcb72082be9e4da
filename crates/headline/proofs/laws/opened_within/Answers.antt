use Rattle.headline.proofs.WithinLemmas.{moved_within}
use Rattle.headline.proofs.laws.opened_within.Goals as goal

pub returns : goal.returns
returns c w v n bytes finds admitted = moved_within w v n bytes finds admitted
