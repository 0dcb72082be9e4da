use Rattle.std.proofs.Common.{◌≡◌, true, refl, arith}
use Rattle.std.specs.Prelude.{is_none}
use Rattle.rule_warnings.specs.Tables.{line_under}
use Rattle.rule_warnings.proofs.TableLemmas.{noted-made}
use Rattle.rule_warnings.proofs.seen.Seen.note_made.Goals as goal

pub returns-in_ok-insert : goal.returns-in_ok-insert
returns-in_ok-insert c =
    let new : is_none (line_under c.args.self.now c.args.address.now) ≡ true = grind (arith, c.in_ok-line_of.ensures, c.is_none.ensures, c.if-is_none.true) in
    noted-made c.args.self.now (record c.args.self.now { made = c.insert.new.self }) c.in_ok-from_slice.field-0 c.args.address.now c.args.line
    c.in_ok-from_slice.ensures.items new refl refl c.in_ok-insert.ensures.updates
