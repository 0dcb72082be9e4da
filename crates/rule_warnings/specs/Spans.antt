-- The ranges that stood in lines, and the numbers by which an address may be one of theirs, for contracts within the crate.
use Rattle.std.specs.Prelude.{ℕ, ◌+◌, Bool, true, not, ◌&&◌, ◌||◌, ◌==◌, nat_eq, nat_lt, nat_le, min, List, [], ◌∷◌, ◌++◌, length, take, drop, decimal, bytes_eq, Option, Some, None, option_map, option_and_then, if◌then◌else◌}
use Rattle.std.specs.List.{ends_with, position_or_len, range_with_len}
use Rattle.std.specs.Option.{option_map_or}
use Rattle.std.specs.Str.Parse.{digits_value}
use Rattle.rule_lookup.specs.Lines.{has_byte}
use Rattle.rule_lookup.specs.Spread.{is_number}
use Rattle.rule_lines.specs.declared.spread.Numbers.{Numbers}
use Rattle.rule_warnings.specs.declared.spans.Cut.{Cut}
use Rattle.rule_warnings.specs.declared.spans.Span.{Span}

-- the first of two lines, if there is one
abbrev pub sooner : Option ℕ → Option ℕ → Option ℕ
sooner line None = line
sooner line (Some other) = Some (option_map_or (λ n. min n other) line other)

-- whether a number is one of a range
abbrev pub has_number : Numbers → ℕ → Bool
has_number numbers number = nat_le numbers.first number && nat_lt number (numbers.first + numbers.count)

-- the first of the lines that are given for some things
abbrev pub soonest : {A : Type 0} → (A → Option ℕ) → List A → Option ℕ
soonest line [] = None
soonest line (x ∷ xs) = sooner (line x) (soonest line xs)

-- the line of a span that has the number
abbrev pub line_in : ℕ → Span → Option ℕ
line_in number span = if has_number span.numbers number then Some span.line else None

-- the first line of the spans that have it
abbrev pub line_among : List Span → ℕ → Option ℕ
line_among spans number = soonest (line_in number) spans

-- the number below 256 whose decimal text a part is
abbrev pub octet_in : List ℕ → Option ℕ
octet_in part =
    let value = digits_value 10 part in
    if is_number part && nat_lt value 256 && bytes_eq (decimal value) part then Some value else None

-- what may stand before a number: whole parts, each with its dot, and no `-`
abbrev pub is_front : List ℕ → Bool
is_front front = (length front == 0 || ends_with nat_eq front (46 ∷ [])) && not (has_byte 45 front)

-- what may stand behind it: nothing, or a dot and more
abbrev pub is_back : List ℕ → Bool
is_back [] = true
is_back (b ∷ bs) = b == 46

-- a range whose numbers are whole parts of addresses, and at most 255
abbrev pub is_cut : List ℕ → Numbers → List ℕ → Bool
is_cut front numbers back =
    is_front front && is_back back && nat_lt 0 numbers.count && nat_le (numbers.first + numbers.count) 256

-- the parts of an address around one of its numbers
pub record CutParts : Type 0 where
  pub front : List ℕ
  pub number : ℕ
  pub back : List ℕ

abbrev pub parts_of : Cut → CutParts
parts_of cut = record { front = cut.front.now; number = cut.number; back = cut.back.now }

-- what stands before a number, the number in the first bytes of the rest, and what stands behind it
abbrev pub with_part : List ℕ → List ℕ → ℕ → Option CutParts
with_part front rest len = option_map (λ n. record { front = front; number = n; back = drop len rest }) (octet_in (take len rest))

-- the same, where the number is the rest up to its first dot
abbrev pub cut_in : List ℕ → List ℕ → Option CutParts
cut_in front rest = if is_front front then with_part front rest (position_or_len (λ b. b == 46) rest) else None

-- an address, cut around the number that begins at a position
abbrev pub cut_at : List ℕ → ℕ → Option CutParts
cut_at address start = cut_in (take start address) (drop start address)

-- what stands around a number, with a `-` in its place
abbrev pub around : List ℕ → List ℕ → List ℕ
around front back = front ++ 45 ∷ back

-- the first line of the ranges that have an address by the number at a position, by the spans of what stands around it
abbrev pub line_from : (List ℕ → List Span) → List ℕ → ℕ → Option ℕ
line_from spans address start = option_and_then (λ cut. line_among (spans (around cut.front cut.back)) cut.number) (cut_at address start)

-- the first line of the ranges that have an address
abbrev pub line_spanned : (List ℕ → List Span) → List ℕ → Option ℕ
line_spanned spans address = soonest (line_from spans address) (range_with_len 0 (length address + 1))
