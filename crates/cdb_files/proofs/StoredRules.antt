-- The pairs that rules are stored as.
use Rattle.std.proofs.Common.{◌≡◌, ℕ, List, [], ◌∷◌, true, false, bytes_eq, refl}
use Rattle.std.specs.Prelude.{if◌then◌else◌, find, Some}
use Rattle.rule_lookup.specs.Lookups.{code_under, found_among}
use Rattle.rule_lookup.specs.Pairs.{Rule}
use Rattle.cdb_files.specs.Format.{Pair}
use Rattle.cdb_files.specs.Compiled.{pair_of, stored}
use Rattle.cdb_files.specs.Reading.{first_value, value_of}

-- the first of them with a key is that of the first rule with this address
pub first_value-stored : (rules : List Rule) (address : List ℕ) → first_value (stored rules) address ≡ found_among rules address
first_value-stored [] address = refl
first_value-stored (rule ∷ rules) address =
    elim (bytes_eq rule.address address) as (λ b. value_of (if b then Some (pair_of rule) else find (λ (pair : Pair). bytes_eq pair.key address) (stored rules)) ≡ code_under (if b then Some rule else find (λ (r : Rule). bytes_eq r.address address) rules)) [
      | true ↦ refl
      | false ↦ first_value-stored rules address
    ]
