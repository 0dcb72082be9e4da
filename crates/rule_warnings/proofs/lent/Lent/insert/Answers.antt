-- One table has the address, and the other stays.
use Rattle.std.proofs.Common.{refl, sym}
use Rattle.rule_warnings.proofs.LentLemmas.{noted-text, noted-whole, whole-updates}
use Rattle.rule_warnings.proofs.lent.Lent.insert.Goals as goal

pub returns-in_ok-insert : goal.returns-in_ok-insert
returns-in_ok-insert c =
    let old = c.args.self.now in
    let new = record old { whole = c.insert.new.self } in
    let octets = c.in-Some.octets in
    noted-whole old new c.args.address.now octets c.args.line (sym c.in-Some.ensures) c.requires refl (whole-updates octets old.whole new.whole c.args.line c.in_ok-insert.ensures.updates)

pub returns-in_ok-insert-2 : goal.returns-in_ok-insert-2
returns-in_ok-insert-2 c =
    let old = c.args.self.now in
    noted-text old (record old { texts = c.insert-in_default.new.self }) c.args.address c.args.line refl c.in_ok-insert-2.ensures.updates
