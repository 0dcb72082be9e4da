-- The addresses that the address of a rule line stands for.
use Rattle.std.specs.Prelude.{ℕ, ◌+◌, ◌-◌, Bool, not, ◌&&◌, ◌==◌, nat_le, min, List, [], ◌∷◌, ◌++◌, map, length, take, drop, decimal, if◌then◌else◌}
use Rattle.std.specs.List.{position_or_len, before_first, after_first, after_last, range_with_len}
use Rattle.std.specs.Str.{all_ascii_digits}
use Rattle.std.specs.Str.Parse.{digits_value}
use Rattle.std.specs.Char.{to_ascii_lowercase}
use Rattle.rule_lookup.specs.Lines.{has_byte}

-- a range has a `-`, and neither `=` nor `@`
abbrev pub is_range : List ℕ → Bool
is_range address = has_byte 45 address && not (has_byte 61 address) && not (has_byte 64 address)

-- the parts of a range: what stands before the number at the left of the first `-`, the two numbers, and what stands
-- after the number at its right
pub record Range : Type 0 where
  pub front : List ℕ
  pub low : List ℕ
  pub high : List ℕ
  pub back : List ℕ

-- the left number reaches back to the last dot, the right one to the next
abbrev pub range_of : List ℕ → Range
range_of address =
    let left = before_first (λ b. b == 45) address in
    let right = after_first (λ b. b == 45) address in
    let low = after_last (λ b. b == 46) left in
    let high = before_first (λ b. b == 46) right in
    record { front = take (length left - length low) left; low = low; high = high; back = drop (length high) right }

-- digits, maybe none, with a value of at most 4,294,967,295
abbrev pub is_number : List ℕ → Bool
is_number part = all_ascii_digits part && nat_le (digits_value 10 part) 4294967295

-- a range with a part that is no number
abbrev pub is_bad_range : List ℕ → Bool
is_bad_range address = is_range address && not (is_number (range_of address).low && is_number (range_of address).high)

-- one address for each number from the left to the right, rising; no number is above 255
abbrev pub addresses_of : Range → List (List ℕ)
addresses_of range =
    let low = digits_value 10 range.low in
    let high = min (digits_value 10 range.high) 255 in
    map (λ n. range.front ++ decimal n ++ range.back) (range_with_len low (high + 1 - low))

-- with the letters from the first `=` on in lower case
abbrev pub folded : List ℕ → List ℕ
folded address =
    let position = position_or_len (λ b. b == 61) address in
    take position address ++ map to_ascii_lowercase (drop position address)

-- what an address stands for
abbrev pub spread : List ℕ → List (List ℕ)
spread address = if is_range address then addresses_of (range_of address) else folded address ∷ []
