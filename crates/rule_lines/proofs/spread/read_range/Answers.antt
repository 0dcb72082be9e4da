use Rattle.std.proofs.Common.{sym, ap, ◌∙◌}
use Rattle.std.proofs.lemmas.Bool.{and_left, and_right, and_from}
use Rattle.std.specs.Str.Parse.{digits_value}
use Rattle.rule_lines.proofs.RangeLemmas.{addresses_of-parts}
use Rattle.rule_lookup.specs.Spread.{is_number, range_of}
use Rattle.rule_lines.proofs.spread.read_range.Goals as goal

pub returns-in_err-low : goal.returns-in_err-low
returns-in_err-low c =
    let range = range_of c.args.address.now in
    rw c.from_residual.ensures (and_left (is_number range.low) (is_number range.high) (ap is_number (sym c.cut_range-parts.ensures.low) ∙ c.in_err-low.ensures))

pub returns-in_err-high : goal.returns-in_err-high
returns-in_err-high c =
    let range = range_of c.args.address.now in
    rw c.from_residual-in_err-high.ensures (and_right (is_number range.low) (is_number range.high) (ap is_number (sym c.cut_range-parts.ensures.high) ∙ c.in_err-high.ensures))

pub returns : goal.returns
returns c =
    let range = range_of c.args.address.now in
    let parts = c.cut_range-parts.ensures in
    let low = c.in_ok-low.ensures in
    let high = c.in_ok-high.ensures in (
      and_from (is_number range.low) (is_number range.high) (ap is_number (sym parts.low) ∙ low.0) (ap is_number (sym parts.high) ∙ high.0),
      addresses_of-parts range _ _ c.in_ok-low.low c.in_ok-high.high _ parts.front parts.back (low.1 ∙ ap (digits_value 10) parts.low) (high.1 ∙ ap (digits_value 10) parts.high) c.numbers_between.ensures,
    )
