use Rattle.std.proofs.Common.{◌==◌, sym}
use Rattle.rule_lookup.proofs.FoundLemmas.{position_or_len-found}
use Rattle.rule_lines.proofs.RangeLemmas.{is_range-found, is_range-other, is_range-nowhere, spread-range, spread-other}
use Rattle.rule_lines.proofs.spread.read_address.Goals as goal
use Rattle.rule_lines.proofs.spread.read_address.Goals.{in_default-via-in-Some+else-is_none, in_default-via-in_default}

pub read_range-requires-clause-first : goal.read_range-requires-clause-first
read_range-requires-clause-first c = sym (position_or_len-found (λ b. b == 45) c.args.address.now c.in-Some.dash c.in-Some.ensures)

pub returns-in-Some : goal.returns-in-Some
returns-in-Some c =
    let address = c.args.address.now in
    spread-range address _ (is_range-found address c.in-Some.dash c.memchr2.result c.in-Some.ensures c.memchr2.ensures c.if-is_none.ensures) c.read_range.ensures

pub returns-in_default : goal.returns-in_default
returns-in_default c =
    let address = c.args.address.now in
    spread-other address
    elim c.in_default.branch [
      | in_default-via-in-Some+else-is_none w ↦ is_range-other address w.memchr2.result w.memchr2.ensures w.if-is_none.ensures
      | in_default-via-in_default w ↦ is_range-nowhere address w.in_default.ensures
    ]
