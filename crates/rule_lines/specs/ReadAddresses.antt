-- The addresses of an address that was read.
use Rattle.std.specs.Prelude.{ℕ, List, [], ◌∷◌}
use Rattle.rule_lines.specs.declared.spread.ReadAddress.{ReadAddress}
use Rattle.rule_lines.specs.declared.spread.ReadAddress.TheVariants.{One, Range}
use Rattle.rule_lines.specs.Rows.{addresses_under}
use Rattle.rule_lookup.specs.Spread.{folded}

-- one address, folded, or one for each number
abbrev pub addresses_read : ReadAddress → List (List ℕ)
addresses_read (One address) = folded address.now ∷ []
addresses_read (Range front numbers back) = addresses_under front.now numbers back.now
