use Rattle.std.proofs.Common.{◌≡◌, ◌∙◌, ◌<◌, ◌^◌, ℕ, List, Result, Ok, Err, Some, None, false, true, not, ◌&&◌, ◌==◌, nat_le, length, sym, arith}
use Rattle.std.specs.Result.{result_ok}
use Rattle.std.specs.Str.{all_ascii_digits}
use Rattle.std.specs.Str.Parse.{ParsesUnsigned, digits_value}
use Rattle.std.proofs.lemmas.Bool.{and_parts, cond-false, eqb-false, false_from_ne_true, leb-true, not-true}
use Rattle.std.proofs.lemmas.Str.Parse.{numerals_by_value, parse_digits, tells_all_ascii_digits}
use Rattle.server_words.specs.Numbers.{is_number_between, number_in}
use Rattle.server_words.proofs.number.number_in.Goals as goal

-- where nothing was read, the digits have a value outside the range
none_in : {E : Type 0} (text : List ℕ) (least greatest : ℕ) (read : Result ℕ E) → greatest < 2 ^ 64 → all_ascii_digits text ≡ true → ParsesUnsigned 64 10 text read → None ≡ result_ok read → None ≡ number_in text least greatest
none_in text least greatest (Ok n) fits digits parses none = cc
none_in text least greatest (Err e) fits digits parses none =
    let own = numerals_by_value (λ ds. all_ascii_digits ds ≡ true) tells_all_ascii_digits in
    let no_number = parse_digits own 64 text (Err e) parses digits in
    let test : is_number_between text least greatest ≡ false = false_from_ne_true (is_number_between text least greatest) (λ is.
    let parts = and_parts (not (length text == 0) && all_ascii_digits text) (nat_le least (digits_value 10 text) && nat_le (digits_value 10 text) greatest) is in
    let some = eqb-false (length text) 0 (not-true (length text == 0) (and_parts (not (length text == 0)) (all_ascii_digits text) parts.0).0) in
    let small = leb-true (digits_value 10 text) greatest (and_parts (nat_le least (digits_value 10 text)) (nat_le (digits_value 10 text) greatest) parts.1).1 in
    no_number (omega arith, omega arith)) in
    sym (cond-false (is_number_between text least greatest) (Some (digits_value 10 text)) None test)

pub returns-in_err-number : goal.returns-in_err-number
returns-in_err-number c =
    c.from_residual.ensures
    ∙ none_in c.args.text.now c.args.least c.args.greatest c.parse.result (omega arith) (sym c.if-not-are_digits.ensures) c.parse.ensures.value.0 c.in_err-number.ensures.value
