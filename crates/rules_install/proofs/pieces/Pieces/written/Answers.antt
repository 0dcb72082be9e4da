use Rattle.std.proofs.Common.{◌<◌, ◌^◌, List, subst}
use Rattle.cdb_files.specs.Image.{finished_length}
use Rattle.cdb_files.specs.Compiled.{stored}
use Rattle.rule_lookup.specs.Pairs.{Rule}
use Rattle.rules_install.proofs.pieces.Pieces.written.Goals as goal

pub returns : goal.returns
returns c =
    let rules = c.args.self.now in
    c.pieces.ensures (stored rules) (subst (λ (list : List Rule). finished_length (stored list) < 2 ^ 32) c.self.view_is c.self.invariant.fits)
