-- The position that `memchr` finds splits the bytes.
use Rattle.memchr.specs.Find.{is_byte}
use Rattle.rule_lookup.proofs.FoundLemmas.{list_any-nowhere}
use Rattle.rule_lookup.proofs.SplitLemmas.{has_byte-before, split_at_position}
use Rattle.rule_lookup.proofs.code.split_at_byte.Goals as goal

pub returns-in_err-position : goal.returns-in_err-position
returns-in_err-position c = rw c.from_residual.ensures (list_any-nowhere (is_byte c.args.byte) _ c.in_err-position.ensures)

pub returns : goal.returns
returns c =
    let found = c.in_ok-position.ensures in
    (has_byte-before _ _ _ found.0.before, split_at_position _ _ _ found.0.high found.1)
