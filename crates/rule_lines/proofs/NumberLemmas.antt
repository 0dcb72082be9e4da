-- Which numbers have a text, and what stands between two parts of an address.
use Rattle.std.proofs.Common.{◌≡◌, ◌≢◌, ℕ, ◌+◌, ◌-◌, ◌^◌, ◌<◌, ◌≤◌, List, ◌++◌, Option, Some, None, Result, Ok, Err, MatchOption, MatchResult, Bor, decimal, refl, sym, ap, ◌∙◌, subst, arith, append_assoc}
use Rattle.std.specs.List.{Contains}
use Rattle.std.specs.Result.{result_ok}
use Rattle.std.specs.Str.{IsUtf8}
use Rattle.std.specs.Str.Parse.{ParsesUnsigned}
use Rattle.std.proofs.lemmas.Fmt.{decimal_injective, parse-decimal, IsAscii-decimal}
use Rattle.std.proofs.lemmas.List.{append_cancel_left, append_cancel_right}
use Rattle.std.proofs.lemmas.List.FromFn.{length-map-range_with_len, get_or-map-range_with_len}
use Rattle.std.proofs.lemmas.Str.{IsUtf8-from_ascii}
use Rattle.rule_lines.specs.declared.spread.Numbers.{Numbers}
use Rattle.rule_lines.specs.Rows.{addresses_under}

-- the text of a number is text
pub IsUtf8-decimal : (n : ℕ) (text : List ℕ) → n < 2 ^ 32 → decimal n ≡ text → IsUtf8 text
IsUtf8-decimal n text fits same = subst IsUtf8 same (IsUtf8-from_ascii (decimal n) (IsAscii-decimal n (omega arith)))

-- what is no text is none of a number
pub no_number_from_no_text : {E : Type 0} (P : Bor (List ℕ) → Type 0) (Q : E → Type 0) (text : List ℕ) (r : Result (Bor (List ℕ)) E) → MatchResult r P (λ e. ¬ (IsUtf8 text) × Q e) → None ≡ result_ok r → (n : ℕ) → n < 2 ^ 32 → decimal n ≢ text
no_number_from_no_text P Q text (Ok s) says none n fits same = cc
no_number_from_no_text P Q text (Err e) says none n fits same = says.0 (IsUtf8-decimal n text fits same)

-- what is read as text is the text
pub same_text : {E : Type 0} (P : Type 0) (Q : E → Type 0) (text : List ℕ) (r : Result (Bor (List ℕ)) E) (s : Bor (List ℕ)) → MatchResult r (λ s. (s.now ≡ text) × P) Q → Some s ≡ result_ok r → s.now ≡ text
same_text P Q text (Ok t) s says is = let same : s ≡ t = cc in ap (λ (b : Bor (List ℕ)). b.now) same ∙ says.0
same_text P Q text (Err e) s says is = cc

-- the text of a number is read as the number
pub Ok-from_decimal : {E : Type 0} (n : ℕ) (text read : List ℕ) (r : Result ℕ E) → n < 2 ^ 32 → decimal n ≡ text → read ≡ text → ParsesUnsigned 32 10 read r → r ≡ Ok n
Ok-from_decimal n text read r fits same is parses = parse-decimal 32 n read r fits (omega arith) (is ∙ sym same) parses

-- a number between two parts, from one in what stands between them
pub number_between-from : (front back address middle : List ℕ) (r : Option ℕ) → address ≡ front ++ (middle ++ back) → MatchOption r ((n : ℕ) → n < 2 ^ 32 → decimal n ≢ middle) (λ n. decimal n ≡ middle) → MatchOption r ((n : ℕ) → n < 2 ^ 32 → front ++ decimal n ++ back ≢ address) (λ n. front ++ decimal n ++ back ≡ address)
number_between-from front back address middle None is says =
    λ n fits same. says n fits (append_cancel_right (decimal n) middle back (append_cancel_left front (decimal n ++ back) (middle ++ back) (sym (append_assoc front (decimal n) back) ∙ (same ∙ is))))
number_between-from front back address middle (Some n) is says =
    append_assoc front (decimal n) back ∙ (ap (λ m. front ++ (m ++ back)) says ∙ sym is)

-- an address of a range has one of its numbers
pub number_from_Contains : (front back address : List ℕ) (numbers : Numbers) → Contains (addresses_under front numbers back) address → (n : ℕ) × (numbers.first ≤ n) × (n < numbers.first + numbers.count) × (front ++ decimal n ++ back ≡ address)
number_from_Contains front back address numbers among =
    let named = λ (n : ℕ). front ++ decimal n ++ back in
    let inside : among.0 < numbers.count = omega (arith, length-map-range_with_len named numbers.first numbers.count, among.1) in
    (numbers.first + among.0, omega arith, omega arith, sym (get_or-map-range_with_len named numbers.first numbers.count among.0 (numbers.first + among.0) address inside refl) ∙ among.2)

-- and each of its numbers makes one
pub Contains-from_number : (front back address : List ℕ) (numbers : Numbers) (n : ℕ) → numbers.first ≤ n → n < numbers.first + numbers.count → front ++ decimal n ++ back ≡ address → Contains (addresses_under front numbers back) address
Contains-from_number front back address numbers n low high is =
    let named = λ (n : ℕ). front ++ decimal n ++ back in
    let inside : n - numbers.first < numbers.count = omega arith in
    (n - numbers.first, omega (arith, length-map-range_with_len named numbers.first numbers.count), get_or-map-range_with_len named numbers.first numbers.count (n - numbers.first) n address inside (omega arith) ∙ is)

-- the number between two parts is the only one
pub same_number : (front back address : List ℕ) (m n : ℕ) → m < 2 ^ 32 → n < 2 ^ 32 → front ++ decimal m ++ back ≡ address → front ++ decimal n ++ back ≡ address → m ≡ n
same_number front back address m n m_fits n_fits m_is n_is =
    let joined = append_cancel_right (front ++ decimal m) (front ++ decimal n) back (m_is ∙ sym n_is) in
    decimal_injective m n (omega arith) (omega arith) (append_cancel_left front (decimal m) (decimal n) joined)
