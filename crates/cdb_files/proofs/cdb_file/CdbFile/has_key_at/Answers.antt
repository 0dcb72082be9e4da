use Rattle.std.proofs.Common.{ap, bytes_eq, length, ◌∙◌}
use Rattle.cdb_files.proofs.PieceLemmas.{part_windowed}
use Rattle.cdb_files.proofs.cdb_file.CdbFile.has_key_at.Goals as goal

pub returns-clause-same : goal.returns-clause-same
returns-clause-same g c = λ honest.
    let covers = c.in_ok-cover.ensures.covers in
    let part = part_windowed (g.F.RulesFile.bytes c.args.self.now) c.cover.new.window c.args.position (length c.args.key.now) (c.in_ok-cover.ensures.read honest) covers.0 covers.1 in
    c.eq.ensures ∙ ap (λ bytes. bytes_eq bytes c.args.key.now) (c.part.ensures ∙ part)
