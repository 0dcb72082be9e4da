-- The rules of an open range among those of kept lines.
use Rattle.std.proofs.Common.{◌≡◌, ℕ, ◌+◌, ◌-◌, ◌<◌, true, is_some, List, [], ◌++◌, Some, Bor, length, get_or, slice_get, decimal, refl, sym, ap, ◌∙◌, subst, arith}
use Rattle.std.specs.Prelude.{Result, Ok, Err, OnOk, OnErr}
use Rattle.rule_lines.specs.declared.kept.FoundRule.{FoundRule}
use Rattle.rule_lines.specs.declared.open_range.OpenRange.{OpenRange}
use Rattle.rule_lines.specs.declared.spread.Numbers.{Numbers}
use Rattle.rule_lines.specs.declared.spread.ReadAddress.TheVariants.{Range}
use Rattle.rule_lookup.specs.Codes.{decoded}
use Rattle.rule_lines.specs.Kept.{IsFound, IsOpenAmong, IsStored, rule_of_range, rules_in, the_instr}
use Rattle.rule_lines.specs.ReadAddresses.{addresses_read}
use Rattle.rule_lines.proofs.RowLemmas.{code_of-the_instr, get_or-range, length-addresses_under}

-- a closed range has no rules
pub IsOpenAmong-none : (kept : List ℕ) (range : OpenRange) → range.numbers.count ≡ 0 → IsOpenAmong kept range
IsOpenAmong-none kept range none = record {
  rules = λ position inside. absurd (omega (arith, none, inside));
  decodes = λ some. absurd (omega (arith, none, some));
}

-- the range of a rule that was found
module _ (kept : List ℕ) (i : ℕ) (found : FoundRule) (is : IsFound kept i found) (front : Bor (List ℕ)) (numbers : Numbers) (back : Bor (List ℕ)) (range_is : found.line.addresses ≡ Range front numbers back)
    (range : OpenRange) (before : range.before ≡ i - found.position) (front_is : range.front.items ≡ front.now) (numbers_are : range.numbers ≡ numbers) (back_is : range.back.items ≡ back.now) (code_is : range.code.items ≡ found.line.code.now) where
  address : (position : ℕ) → position < numbers.count → get_or (addresses_read found.line.addresses) position [] ≡ range.front.items ++ decimal (range.numbers.first + position) ++ range.back.items
  address position inside =
      get_or-range found.line.addresses front numbers back range_is position (within position inside)
      ∙ (λ j. sym front_is j ++ decimal ((sym numbers_are j).first + position) ++ sym back_is j)
    where
      within : (position : ℕ) → position < numbers.count → position < length (addresses_read found.line.addresses)
      within position inside = omega (arith, inside, ap (λ a. length (addresses_read a)) range_is, length-addresses_under front.now numbers back.now)

  rule_at_position : (position : ℕ) → position < range.numbers.count → slice_get (rules_in kept) (range.before + position) ≡ Some (rule_of_range range position)
  rule_at_position position inside =
      let below : position < numbers.count = subst (λ (n : Numbers). position < n.count) numbers_are inside in
      let within : position < length (addresses_read found.line.addresses) = omega (arith, below, ap (λ a. length (addresses_read a)) range_is, length-addresses_under front.now numbers back.now) in
      ap (λ n. slice_get (rules_in kept) (n + position)) before
      ∙ is.others position within
      ∙ (λ j. Some (record { address = address position below j; instr = the_instr (sym code_is j) }))

  pub IsOpenAmong-found : IsOpenAmong kept range
  IsOpenAmong-found = record {
    rules = rule_at_position;
    decodes = λ some. ap (λ code. is_some (decoded code)) code_is ∙ is.decodes;
  }

-- a rule of it, as it is written
pub IsStored-range : (kept : List ℕ) (range : OpenRange) (i position : ℕ) (key code : List ℕ) → IsOpenAmong kept range → position < range.numbers.count → range.before + position ≡ i
    → key ≡ range.front.items ++ decimal (range.numbers.first + position) ++ range.back.items → code ≡ range.code.items → IsStored (slice_get (rules_in kept) i) true key code
IsStored-range kept range i position key code is inside at key_is code_is =
    let here : slice_get (rules_in kept) i ≡ Some (rule_of_range range position) = ap (slice_get (rules_in kept)) (sym at) ∙ is.rules position inside in
    subst (λ rule. IsStored rule true key code) (sym here)
    (refl, key_is, code_is ∙ sym (code_of-the_instr range.code.items (is.decodes (omega (arith, inside)))))

-- the range that was begun for a rule that was found, or closed for want of memory
pub IsOpenAmong-begun : {E : Type 0} (kept : List ℕ) (i : ℕ) (found : FoundRule) (front : Bor (List ℕ)) (numbers : Numbers) (back : Bor (List ℕ)) (range : OpenRange) (r : Result (Unit {0}) E) → IsFound kept i found → found.line.addresses ≡ Range front numbers back
    → OnOk r (range.before ≡ i - found.position) → OnOk r (range.front.items ≡ front.now) → OnOk r (range.numbers ≡ numbers) → OnOk r (range.back.items ≡ back.now) → OnOk r (range.code.items ≡ found.line.code.now) → OnErr r (range.numbers.count ≡ 0)
    → IsOpenAmong kept range
IsOpenAmong-begun kept i found front numbers back range (Ok done) is range_is before front_is numbers_are back_is code_is closed =
    IsOpenAmong-found kept i found is front numbers back range_is range before front_is numbers_are back_is code_is
IsOpenAmong-begun kept i found front numbers back range (Err e) is range_is before front_is numbers_are back_is code_is closed = IsOpenAmong-none kept range closed
