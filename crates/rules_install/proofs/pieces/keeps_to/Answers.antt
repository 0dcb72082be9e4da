-- Numbers that reach the end of their room are over any limit.
use Rattle.std.proofs.Common.{arith}
use Rattle.std.proofs.lemmas.Bool.{le-leb, leb-true}
use Rattle.rules_install.proofs.LayoutLemmas.{finished_length-stored}
use Rattle.rules_install.proofs.pieces.keeps_to.Goals as goal

pub returns : goal.returns
returns c =
    let long = finished_length-stored c.args.list.now in (
      λ keeps. omega (arith, long, leb-true _ _ keeps, c.saturating_add.ensures, c.saturating_add-records.ensures, c.saturating_mul.ensures, c.len.ensures.count, c.stored_length.ensures, c.file_limit.ensures),
      λ fits. le-leb _ _ (omega (arith, long, fits, c.saturating_add.ensures, c.saturating_add-records.ensures, c.saturating_mul.ensures, c.len.ensures.count, c.stored_length.ensures, c.file_limit.ensures)),
    )
