-- The table of the addresses that stood in lines, for contracts within the crate.
use Rattle.std.specs.Prelude.{◌≡◌, ℕ, ◌≤◌, nat_eq, ◌&&◌, is_none, is_some, List, [], Option, Some, None, bytes_eq, if◌then◌else◌}
use Rattle.std.specs.Cmp.Lexicographic.{pointwise}
use Rattle.std.specs.List.{list_any}
use Rattle.std.specs.Option.{option_map_or}
use Rattle.std.specs.HashMap.{get_by}
use Rattle.std.specs.declared.alloc.Global.{Global}
use Rattle.std.specs.declared.vec.Vec.{Vec}
use Rattle.rule_warnings.specs.declared.seen.Seen.{Seen}
use Rattle.rule_warnings.specs.declared.spans.Span.{Span}
use Rattle.rule_warnings.specs.LentLines.{either_line, line_lent}
use Rattle.rule_warnings.specs.Spans.{line_spanned}

-- the line of an address by itself: of those that stand in the text, and of those that were made
abbrev pub line_alone : Seen → List ℕ → Option ℕ
line_alone seen address =
    either_line (line_lent seen.lent address) (get_by (λ key. pointwise nat_eq address key.items) seen.made)

-- the spans that there are, or none
abbrev pub items_of : Option (Vec Span Global) → List Span
items_of spans = option_map_or (λ (spans : Vec Span Global). spans.items) spans []

-- the spans of the ranges with the same parts around their numbers
abbrev pub spans_under : Seen → List ℕ → List Span
spans_under seen around = items_of (get_by (λ key. pointwise nat_eq around key.items) seen.spans)

-- the line under an address
abbrev pub line_under : Seen → List ℕ → Option ℕ
line_under seen address = either_line (line_alone seen address) (line_spanned (spans_under seen) address)

-- no line after this one was noted
abbrev pub IsUpTo : Seen → ℕ → Type 0
IsUpTo seen line = (address : List ℕ) (n : ℕ) → line_under seen address ≡ Some n → n ≤ line

-- the line under an address, once one more address was noted under a line: it keeps the line that it had
abbrev pub noted : (List ℕ → Option ℕ) → List ℕ → ℕ → List ℕ → Option ℕ
noted first address line other = if is_none (first address) && bytes_eq address other then Some line else first other

-- the line of these addresses, where this is one of them
abbrev pub line_if_among : List (List ℕ) → ℕ → List ℕ → Option ℕ
line_if_among addresses line other = if list_any (bytes_eq other) addresses then Some line else None

-- the same, once all addresses of a line were noted
abbrev pub noted_all : (List ℕ → Option ℕ) → List (List ℕ) → ℕ → List ℕ → Option ℕ
noted_all first addresses line other = if is_some (first other) then first other else line_if_among addresses line other
