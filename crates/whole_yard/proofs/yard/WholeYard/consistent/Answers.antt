use Rattle.whole_yard.specs.WholeYards.{whole_books, whole_lists, whole_state}
use Rattle.whole_yard.proofs.ReadersLemmas.{find_whole}
use Rattle.whole_yard.proofs.yard.WholeYard.consistent.Goals as goal

pub returns : goal.returns
returns g c = λ met.
    let self = c.args.self.now in
    find_whole (whole_books self) (whole_lists self) (whole_state self) (self.installed met)
