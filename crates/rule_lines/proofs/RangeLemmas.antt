-- Ranges: the value of a part that is read digit by digit, and the positions at which an address is cut.
use Rattle.std.proofs.Common.{◌≡◌, ℕ, ◌+◌, ◌-◌, ◌*◌, ◌^◌, ◌<◌, ◌≤◌, true, false, ◌&&◌, ⊎_elim, Option, None, Some, is_some, MatchOption, ◌==◌, not, min, List, [], ◌∷◌, ◌++◌, map, decimal, length, take, drop, get_or, length-drop, sym, ap, ◌∙◌, arith}
use Rattle.std.specs.Char.{digit_value, is_ascii_digit}
use Rattle.std.specs.List.{position_or_len, suffix_len, before_first, after_first, after_last, range_with_len}
use Rattle.std.specs.Str.{all_ascii_digits}
use Rattle.std.specs.Str.Parse.{digits_value, digits_value_after}
use Rattle.std.proofs.lemmas.Bool.{and_left, and_right, and_from, or_left, or_right, or_cases, cond-true, cond-false, false≢true, true≢false, le-leb, lt-leb}
use Rattle.std.proofs.lemmas.Bool.Decides.{nat_tests}
use Rattle.std.proofs.lemmas.List.{at_drop_more, at_drop_all, take_rest}
use Rattle.std.proofs.lemmas.List.Folds.{length-prefix_len}
use Rattle.memchr.specs.Find.{IsFirstByte, NoneBefore, Nowhere, Passes, is_byte, is_byte2}
use Rattle.rule_lines.specs.declared.spread.ReadAddress.{ReadAddress}
use Rattle.rule_lookup.specs.Lines.{has_byte}
use Rattle.rule_lookup.specs.Spread.{Range, is_range, is_number, is_bad_range, range_of, addresses_of, folded, spread}
use Rattle.rule_lines.specs.ReadAddresses.{addresses_read}
use Rattle.rule_lookup.proofs.FoundLemmas.{list_any-found, list_any-nowhere}

-- the first i bytes of a part are digits with the value n
pub record IsReadTo (part : List ℕ) (i n : ℕ) : Type 0 where
  pub digits : all_ascii_digits part ≡ all_ascii_digits (drop i part)
  pub value : digits_value 10 part ≡ digits_value_after 10 n (drop i part)

-- what a digit stands for
digit_value_is : (b : ℕ) → is_ascii_digit b ≡ true → digit_value b ≡ b - 48
digit_value_is b digit = grind (arith, nat_tests)

-- one digit more
pub IsReadTo-digit : (part : List ℕ) (i n : ℕ) → IsReadTo part i n → i < length part → is_ascii_digit (get_or part i 0) ≡ true → IsReadTo part (i + 1) (n * 10 + (get_or part i 0 - 48))
IsReadTo-digit part i n read inside digit = record {
  digits = read.digits ∙ at_drop_more all_ascii_digits part i 0 inside ∙ ap (λ t. t && all_ascii_digits (drop (i + 1) part)) digit;
  value = read.value ∙ at_drop_more (digits_value_after 10 n) part i 0 inside ∙ ap (λ d. digits_value_after 10 (n * 10 + d) (drop (i + 1) part)) (digit_value_is (get_or part i 0) digit);
}

-- a byte that is no digit
pub is_number-other : (part : List ℕ) (i n : ℕ) → IsReadTo part i n → i < length part → is_ascii_digit (get_or part i 0) ≡ false → is_number part ≡ false
is_number-other part i n read inside other =
    and_left (all_ascii_digits part) _ (read.digits ∙ at_drop_more all_ascii_digits part i 0 inside ∙ and_left _ _ other)

-- more digits make no smaller value
digits_value_after-ge : (n : ℕ) (bs : List ℕ) → n ≤ digits_value_after 10 n bs
digits_value_after-ge n [] = omega arith
digits_value_after-ge n (b ∷ bs) = omega (arith, digits_value_after-ge (n * 10 + digit_value b) bs)

-- a value that is too large
pub is_number-large : (part : List ℕ) (i n : ℕ) → IsReadTo part i n → 4294967295 < n → is_number part ≡ false
is_number-large part i n read large =
    and_right (all_ascii_digits part) _ (lt-leb (digits_value 10 part) 4294967295 (omega (arith, read.value, digits_value_after-ge n (drop i part))))

-- all was read
pub is_number-read : (part : List ℕ) (i n : ℕ) → IsReadTo part i n → length part ≤ i → n < 2 ^ 32 → (is_number part ≡ true) × (n ≡ digits_value 10 part)
is_number-read part i n read all fits =
    let value : digits_value 10 part ≡ n = read.value ∙ at_drop_all (digits_value_after 10 n) part i all in
    (and_from _ _ (read.digits ∙ at_drop_all all_ascii_digits part i all) (le-leb (digits_value 10 part) 4294967295 (omega arith)), sym value)

-- the parts of a range, whose first `-` stands at dash, where the left number starts at start and the right one ends at end
module _ (address : List ℕ) (dash : ℕ) (first : dash ≡ position_or_len (λ b. b == 45) address) where
  -- what stands at the left of the `-`
  left_is : take dash address ≡ before_first (λ b. b == 45) address
  left_is = ap (λ n. take n address) first

  -- what stands at the right of it
  right_is : take (length address - (dash + 1)) (drop (dash + 1) address) ≡ after_first (λ b. b == 45) address
  right_is = take_rest address (dash + 1) ∙ ap (λ n. drop (n + 1) address) first

  -- what stands before the left number
  pub range-front : (start : ℕ) → start ≡ length (take dash address) - suffix_len (λ b. not (b == 46)) (take dash address) → take start (take dash address) ≡ (range_of address).front
  range-front start is =
      let left = take dash address in
      ap (λ n. take n left) (omega (arith, length-drop (length left - suffix_len (λ b. not (b == 46)) left) left))
      ∙ ap (λ bs. take (length bs - length (after_last (λ b. b == 46) bs)) bs) left_is

  -- the left number
  pub range-low : (start : ℕ) → start ≡ length (take dash address) - suffix_len (λ b. not (b == 46)) (take dash address) → take (length (take dash address) - start) (drop start (take dash address)) ≡ (range_of address).low
  range-low start is = take_rest (take dash address) start ∙ ap (λ n. drop n (take dash address)) is ∙ ap (after_last (λ b. b == 46)) left_is

  -- the right number
  pub range-high : (end : ℕ) → end ≡ position_or_len (λ b. b == 46) (take (length address - (dash + 1)) (drop (dash + 1) address)) → take end (take (length address - (dash + 1)) (drop (dash + 1) address)) ≡ (range_of address).high
  range-high end is = ap (λ n. take n (take (length address - (dash + 1)) (drop (dash + 1) address))) is ∙ ap (before_first (λ b. b == 46)) right_is

  -- what stands after the right number
  pub range-back : (end : ℕ) → end ≡ position_or_len (λ b. b == 46) (take (length address - (dash + 1)) (drop (dash + 1) address)) → take (length (take (length address - (dash + 1)) (drop (dash + 1) address)) - end) (drop end (take (length address - (dash + 1)) (drop (dash + 1) address))) ≡ (range_of address).back
  range-back end is =
      let right = take (length address - (dash + 1)) (drop (dash + 1) address) in
      take_rest right end ∙ ap (λ n. drop n right) (is ∙ sym (length-prefix_len (λ b. not (b == 46)) right))
      ∙ ap (λ bs. drop (length (before_first (λ b. b == 46) bs)) bs) right_is

-- the addresses of a range whose parts were read
pub addresses_of-parts : (range : Range) (front back : List ℕ) (low high : ℕ) (numbers : List ℕ) → front ≡ range.front → back ≡ range.back → low ≡ digits_value 10 range.low → high ≡ digits_value 10 range.high → numbers ≡ range_with_len low (min high 255 + 1 - low) → map (λ n. front ++ decimal n ++ back) numbers ≡ addresses_of range
addresses_of-parts range front back low high numbers front_is back_is low_is high_is numbers_are =
    ap (λ bs. map (λ n. bs ++ decimal n ++ back) numbers) front_is
    ∙ ap (λ bs. map (λ n. range.front ++ decimal n ++ bs) numbers) back_is
    ∙ ap (map (λ n. range.front ++ decimal n ++ range.back)) (numbers_are ∙ ap (λ n. range_with_len n (min high 255 + 1 - n)) low_is
    ∙ ap (λ n. range_with_len (digits_value 10 range.low) (min n 255 + 1 - digits_value 10 range.low)) high_is)

-- a `-` without a `=` or a `@` makes a range
pub is_range-found : (address : List ℕ) (dash : ℕ) (r : Option ℕ) → NoneBefore (Passes (is_byte 45) address) 0 (length address) dash × Passes (is_byte 45) address dash → IsFirstByte (is_byte2 61 64) address r → is_some r ≡ false → is_range address ≡ true
is_range-found address dash (Some k) dashed other none = absurd (true≢false none)
is_range-found address dash None dashed clear none =
    let dash_in : has_byte 45 address ≡ true = list_any-found (is_byte 45) address dash dashed.0.high dashed.1 in
    let no_equal : has_byte 61 address ≡ false = list_any-nowhere (is_byte 61) address (λ k low high here. clear k low high (or_left _ _ here)) in
    let no_at : has_byte 64 address ≡ false = list_any-nowhere (is_byte 64) address (λ k low high here. clear k low high (or_right _ _ here)) in
    and_from _ _ (and_from _ _ dash_in (ap not no_equal)) (ap not no_at)

-- a `=` or a `@` makes it none
pub is_range-other : (address : List ℕ) (r : Option ℕ) → IsFirstByte (is_byte2 61 64) address r → is_some r ≡ true → is_range address ≡ false
is_range-other address None clear some = absurd (false≢true some)
is_range-other address (Some k) other some =
    ⊎_elim
    (λ equal. and_left _ _ (and_right (has_byte 45 address) _ (ap not (list_any-found (is_byte 61) address k other.0.high equal))))
    (λ at. and_right (has_byte 45 address && not (has_byte 61 address)) _ (ap not (list_any-found (is_byte 64) address k other.0.high at)))
    (or_cases _ _ other.1)

-- no `-` makes it none
pub is_range-nowhere : (address : List ℕ) → Nowhere (Passes (is_byte 45) address) 0 (length address) → is_range address ≡ false
is_range-nowhere address none = and_left _ _ (and_left _ _ (list_any-nowhere (is_byte 45) address none))

-- what is read of a range is what its address stands for
pub spread-range : (address : List ℕ) (read : Option ReadAddress) → is_range address ≡ true
    → MatchOption read ((is_number (range_of address).low && is_number (range_of address).high) ≡ false) (λ s. ((is_number (range_of address).low && is_number (range_of address).high) ≡ true) × (addresses_read s ≡ addresses_of (range_of address)))
    → MatchOption read (is_bad_range address ≡ true) (λ s. (is_bad_range address ≡ false) × (addresses_read s ≡ spread address))
spread-range address None range bad = and_from _ _ range (ap not bad)
spread-range address (Some s) range good = (and_right (is_range address) _ (ap not good.0), good.1 ∙ sym (cond-true (is_range address) _ _ range))

-- what is no range stands for itself
pub spread-other : (address : List ℕ) → is_range address ≡ false → (is_bad_range address ≡ false) × (◌≡◌ {A = List (List ℕ)} (folded address ∷ []) (spread address))
spread-other address other = (and_left _ _ other, sym (cond-false (is_range address) _ _ other))
