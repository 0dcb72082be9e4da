use Rattle.cdb_files.proofs.PieceLemmas.{two_numbers_windowed}
use Rattle.cdb_files.proofs.cdb_file.CdbFile.windowed_numbers.Goals as goal

pub returns-clause-numbers : goal.returns-clause-numbers
returns-clause-numbers g c = λ honest.
    let covers = c.in_ok-cover.ensures.covers in
    two_numbers_windowed (g.F.RulesFile.bytes c.args.self.now) c.cover.new.window c.args.position c.numbers.result (c.in_ok-cover.ensures.read honest) covers.0 covers.1 c.numbers.ensures
