use Rattle.whole_yard.proofs.ReadersLemmas.{always_whole, since_done, one_each}
use Rattle.whole_yard.proofs.laws.readers.Goals as goal

pub returns : goal.returns
returns c = record { always = always_whole; since_done = since_done; one_each = one_each }
