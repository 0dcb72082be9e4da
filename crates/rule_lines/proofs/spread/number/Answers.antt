use Rattle.std.proofs.Common.{◌≡◌, ◌+◌, ◌-◌, ◌*◌, get_or, arith, sym}
use Rattle.rule_lines.proofs.RangeLemmas.{IsReadTo-digit, is_number-other, is_number-large, is_number-read}
use Rattle.rule_lines.proofs.spread.number.Goals as goal

pub returns-then-not-is_ascii_digit : goal.returns-then-not-is_ascii_digit
returns-then-not-is_ascii_digit c =
    is_number-other c.args.part.now _ _ c.loop-byte.invariant.read c.loop-byte-test.true (sym c.if-not-is_ascii_digit.ensures.value)

pub returns-in_err-checked_mul : goal.returns-in_err-checked_mul
returns-in_err-checked_mul c =
    let read = IsReadTo-digit c.args.part.now _ _ c.loop-byte.invariant.read c.loop-byte-test.true (sym c.if-not-is_ascii_digit.ensures.value) in
    rw c.from_residual.ensures (is_number-large c.args.part.now _ _ read (omega (arith, c.in_err-checked_mul.ensures)))

pub returns-in_err-value : goal.returns-in_err-value
returns-in_err-value c =
    let read = IsReadTo-digit c.args.part.now _ _ c.loop-byte.invariant.read c.loop-byte-test.true (sym c.if-not-is_ascii_digit.ensures.value) in
    rw c.from_residual-in_err-value.ensures (is_number-large c.args.part.now _ _ read (omega (arith, c.in_err-value.ensures, c.in_ok-checked_mul.ensures, c.from.ensures)))

pub loop-byte-preserved : goal.loop-byte-preserved
loop-byte-preserved c =
    let read = IsReadTo-digit c.args.part.now _ _ c.loop-byte.invariant.read c.loop-byte-test.true (sym c.if-not-is_ascii_digit.ensures.value) in
    let value : c.in_ok-value.value ≡ c.loop-byte.value * 10 + (get_or c.args.part.now c.loop-byte.byte-index 0 - 48) = omega (arith, c.in_ok-value.ensures, c.in_ok-checked_mul.ensures, c.from.ensures) in
    record { read = rw value read; fits = omega (arith, c.in_ok-value.ensures) }

pub returns : goal.returns
returns c = is_number-read c.args.part.now _ _ c.loop-byte.invariant.read c.loop-byte-test.false c.loop-byte.invariant.fits
