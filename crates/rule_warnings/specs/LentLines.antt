-- The lines of the addresses that stand in a text by themselves, for contracts within the crate.
use Rattle.std.specs.Prelude.{ℕ, nat_eq, List, Option, Some, None, option_and_then}
use Rattle.std.specs.Cmp.Lexicographic.{pointwise}
use Rattle.std.specs.HashMap.{get_by}
use Rattle.rule_lookup.specs.Addresses.{ipv4_in}
use Rattle.rule_warnings.specs.declared.lent.Lent.{Lent}

-- the one of two lines that there is, the first where there are both
abbrev pub either_line : Option ℕ → Option ℕ → Option ℕ
either_line None other = other
either_line (Some line) other = Some line

-- the line of a whole IPv4 address
abbrev pub line_whole : Lent → List ℕ → Option ℕ
line_whole lent address = option_and_then (λ octets. get_by (λ key. pointwise nat_eq octets key) lent.whole) (ipv4_in address)

-- the line of an address
abbrev pub line_lent : Lent → List ℕ → Option ℕ
line_lent lent address = either_line (get_by (λ key. pointwise nat_eq address key.now) lent.texts) (line_whole lent address)
