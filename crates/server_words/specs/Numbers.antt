-- Numbers in options.
use Rattle.std.specs.Prelude.{ℕ, ◌==◌, ◌&&◌, Bool, not, nat_le, List, length, Option, Some, None, if◌then◌else◌}
use Rattle.std.specs.Str.{all_ascii_digits}
use Rattle.std.specs.Str.Parse.{digits_value}

-- one or more decimal digits, with a value in the range
abbrev pub is_number_between : List ℕ → ℕ → ℕ → Bool
is_number_between text least greatest =
    (not (length text == 0) && all_ascii_digits text) && (nat_le least (digits_value 10 text) && nat_le (digits_value 10 text) greatest)

-- the number in the range that a text is
abbrev pub number_in : List ℕ → ℕ → ℕ → Option ℕ
number_in text least greatest = if is_number_between text least greatest then Some (digits_value 10 text) else None
