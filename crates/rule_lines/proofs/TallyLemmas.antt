-- How long rules are where they are stored.
use Rattle.std.proofs.Common.{◌≡◌, ℕ, ◌+◌, ◌<◌, Option, None, Some, List, [], ◌∷◌, ◌++◌, length, take, decimal, refl, sym, ap, ◌∙◌, subst, arith, length-append}
use Rattle.std.specs.Option.{IfSome}
use Rattle.std.proofs.lemmas.List.Sums.{sum_by-append, sum_by-cons, sum_by_more}
use Rattle.rule_lookup.specs.declared.instr.Instr.{Instr}
use Rattle.rule_lines.specs.declared.kept.Tally.{Tally}
use Rattle.rule_lines.specs.declared.spread.Numbers.{Numbers}
use Rattle.rule_lookup.specs.Codes.{code_of}
use Rattle.rule_lines.specs.Kept.{Tallies}
use Rattle.rule_lookup.specs.Pairs.{Rule, pairs_with}
use Rattle.rule_lines.specs.Rows.{addresses_under, length_with, rule_length, stored_length}
use Rattle.rule_lines.proofs.RowLemmas.{get_or-addresses_under, length-addresses_under, rule_of}

-- rules with one instruction are as long as their addresses with its code
pub stored_length-pairs_with : (instr : Instr) (addresses : List (List ℕ)) → stored_length (pairs_with instr addresses) ≡ length_with (length (code_of instr)) addresses
stored_length-pairs_with instr [] = refl
stored_length-pairs_with instr (address ∷ addresses) =
    sum_by-cons rule_length (rule_of instr address) (pairs_with instr addresses)
    ∙ ap (λ n. length address + length (code_of instr) + n) (stored_length-pairs_with instr addresses)
    ∙ sym (sum_by-cons (λ (a : List ℕ). length a + length (code_of instr)) address addresses)

-- the tally of rules behind others
pub Tallies-append : (rules more : List Rule) (tally other both : Tally) → Tallies rules tally → Tallies more other → both.rules ≡ tally.rules + other.rules → both.bytes ≡ tally.bytes + other.bytes → Tallies (rules ++ more) both
Tallies-append rules more tally other both first second counted measured = record {
  counted = omega (arith, counted, first.counted, second.counted, length-append rules more);
  measured = omega (arith, measured, first.measured, second.measured, sum_by-append rule_length rules more);
}

-- one address of a range more
pub length_with-more : (code : ℕ) (front : List ℕ) (numbers : Numbers) (back : List ℕ) (position : ℕ) → position < numbers.count
    → length_with code (take (position + 1) (addresses_under front numbers back))
    ≡ length_with code (take position (addresses_under front numbers back)) + (length front + length back + code + length (decimal (numbers.first + position)))
length_with-more code front numbers back position inside =
    let number = decimal (numbers.first + position) in
    let address = front ++ number ++ back in
    sum_by_more (λ (a : List ℕ). length a + code) (addresses_under front numbers back) position [] (omega (arith, inside, length-addresses_under front numbers back))
    ∙ ap (λ (a : List ℕ). length_with code (take position (addresses_under front numbers back)) + (length a + code)) (get_or-addresses_under front numbers back position [] inside)
    ∙ ap (λ n. length_with code (take position (addresses_under front numbers back)) + n)
    (let long : length address + code ≡ length front + length back + code + length number = omega (arith, length-append (front ++ number) back, length-append front number) in long)

-- what is so of a value that there is
pub IfSome-is : {X : Type 0} (P : X → Type 0) (r : Option X) (x : X) → r ≡ Some x → IfSome r P → P x
IfSome-is P (Some y) x is so = let same : y ≡ x = cc in subst P same so
IfSome-is P None x is so = absurd (cc)
