-- The addresses that a line was read with: how many they are, which stands at a position, and what a look-up finds among rules that have them.
use Rattle.std.proofs.Common.{◌≡◌, ℕ, zero, suc, ◌+◌, ◌<◌, Bool, true, cond, is_some, List, [], ◌∷◌, ◌++◌, length, get_or, Option, None, Some, unwrap_or, Bor, decimal, bytes_eq, inl, inr, refl, ap, ◌∙◌, arith}
use Rattle.std.specs.Option.{SomeIff}
use Rattle.std.specs.List.{find, Contains}
use Rattle.std.proofs.lemmas.Bool.{cases_Bool}
use Rattle.std.proofs.lemmas.List.FromFn.{length-map-range_with_len, get_or-map-range_with_len}
use Rattle.std.proofs.lemmas.Slice.Eq.{bytes_eq-Decides}
use Rattle.rule_lookup.specs.declared.instr.Instr.{Instr}
use Rattle.rule_lookup.specs.declared.instr.Verdict.TheVariants.{Allow}
use Rattle.rule_lines.specs.declared.spread.Numbers.{Numbers}
use Rattle.rule_lines.specs.declared.spread.ReadAddress.{ReadAddress}
use Rattle.rule_lines.specs.declared.spread.ReadAddress.TheVariants.{Range}
use Rattle.rule_lookup.specs.Codes.{IsCode, code_of, decoded}
use Rattle.rule_lines.specs.Kept.{the_instr}
use Rattle.rule_lookup.specs.Lookups.{Finding, Has, code_under, found_among}
use Rattle.rule_lookup.specs.Pairs.{Rule, pairs_with}
use Rattle.rule_lines.specs.ReadAddresses.{addresses_read}
use Rattle.rule_lines.specs.Rows.{addresses_under}
use Rattle.rule_lookup.proofs.CodeLemmas.{IsInstr-decoded, code_of-decoded}

-- a range has as many addresses as numbers
pub length-addresses_under : (front : List ℕ) (numbers : Numbers) (back : List ℕ) → length (addresses_under front numbers back) ≡ numbers.count
length-addresses_under front numbers back = length-map-range_with_len (λ n. front ++ decimal n ++ back) numbers.first numbers.count

-- the address at a position
pub get_or-addresses_under : (front : List ℕ) (numbers : Numbers) (back : List ℕ) (position : ℕ) (d : List ℕ) → position < numbers.count → get_or (addresses_under front numbers back) position d ≡ front ++ decimal (numbers.first + position) ++ back
get_or-addresses_under front numbers back position d inside =
    get_or-map-range_with_len (λ n. front ++ decimal n ++ back) numbers.first numbers.count position (numbers.first + position) d inside refl

-- the same of an address that was read
module _ (addresses : ReadAddress) (front : Bor (List ℕ)) (numbers : Numbers) (back : Bor (List ℕ)) (is : addresses ≡ Range front numbers back) (position : ℕ) (inside : position < length (addresses_read addresses)) where
  pub position-range : position < numbers.count
  position-range = omega (arith, ap (λ a. length (addresses_read a)) is, length-addresses_under front.now numbers back.now)

  pub get_or-range : get_or (addresses_read addresses) position [] ≡ front.now ++ decimal (numbers.first + position) ++ back.now
  get_or-range = ap (λ a. get_or (addresses_read a) position []) is ∙ get_or-addresses_under front.now numbers back.now position [] position-range

-- the rule of an address
abbrev pub rule_of : Instr → List ℕ → Rule
rule_of instr address = record { address = address; instr = instr }

-- what a look-up finds at a rule that has the address, or has not, and then among the rules after it
abbrev found_from : Rule → List Rule → List ℕ → Bool → Finding
found_from rule rules key matches = code_under (cond matches (Some rule) (find (λ (rule : Rule). bytes_eq rule.address key) rules))

-- a rule with the address is found among rules with one instruction
pub found_among-named : (instr : Instr) (addresses : List (List ℕ)) (rules : List Rule) (key : List ℕ) → Contains addresses key → found_among (pairs_with instr addresses ++ rules) key ≡ Has (code_of instr)
found_among-named instr [] rules key among = absurd (omega (arith, among.1))
found_among-named instr (address ∷ addresses) rules key (zero, inside, same) =
    ap (found_from (rule_of instr address) (pairs_with instr addresses ++ rules) key) ((bytes_eq-Decides address key).1 same)
found_among-named instr (address ∷ addresses) rules key (suc k, inside, same) =
    elim (cases_Bool (bytes_eq address key)) [
      | inl matches ↦ ap (found_from (rule_of instr address) (pairs_with instr addresses ++ rules) key) matches
      | inr differs ↦
          ap (found_from (rule_of instr address) (pairs_with instr addresses ++ rules) key) differs
          ∙ found_among-named instr addresses rules key (k, omega arith, same)
    ]

-- and where none of them has it, the look-up goes on
pub found_among-unnamed : (instr : Instr) (addresses : List (List ℕ)) (rules : List Rule) (key : List ℕ) → (Contains addresses key → ⊥) → found_among (pairs_with instr addresses ++ rules) key ≡ found_among rules key
found_among-unnamed instr [] rules key none = refl
found_among-unnamed instr (address ∷ addresses) rules key none =
    elim (cases_Bool (bytes_eq address key)) [
      | inl matches ↦ absurd (none (0, omega arith, (bytes_eq-Decides address key).0 matches))
      | inr differs ↦
          ap (found_from (rule_of instr address) (pairs_with instr addresses ++ rules) key) differs
          ∙ found_among-unnamed instr addresses rules key (λ among. none (suc among.0, omega (arith, among.1), among.2))
    ]

-- the code of the instruction of a code is that code
pub code_of-unwrap_or : (bytes : List ℕ) (instr : Option Instr) (other : Instr) → decoded bytes ≡ instr → is_some instr ≡ true → code_of (unwrap_or instr other) ≡ bytes
code_of-unwrap_or bytes (Some instr) other is some = code_of-decoded bytes instr is
code_of-unwrap_or bytes None other is some = cc

pub code_of-the_instr : (bytes : List ℕ) → is_some (decoded bytes) ≡ true → code_of (the_instr bytes) ≡ bytes
code_of-the_instr bytes some = code_of-unwrap_or bytes (decoded bytes) (record { verdict = Allow; settings = [] }) refl some

-- what decodes is a code
pub IsCode-from_some : (bytes : List ℕ) (instr : Option Instr) → decoded bytes ≡ instr → is_some instr ≡ true → IsCode bytes
IsCode-from_some bytes (Some instr) is some = (instr, IsInstr-decoded bytes instr is, code_of-decoded bytes instr is)
IsCode-from_some bytes None is some = cc

-- what a checked sum answers
pub SomeIff-Some : {X : Type 0} (r : Option X) (P : Type 0) (sum x : X) → r ≡ Some x → SomeIff r P sum → x ≡ sum
SomeIff-Some (Some y) P sum x is says = let same : x ≡ y = cc in same ∙ says.1
SomeIff-Some None P sum x is says = cc
