-- Addresses in lower case from their first `=` on, a byte at a time.
use Rattle.std.proofs.Common.{◌≡◌, ℕ, zero, suc, ◌+◌, ◌<◌, ◌≤◌, Bool, true, false, not, ◌==◌, ◌||◌, cond, List, [], ◌∷◌, ◌++◌, map, take, drop, refl, sym, ap, ◌∙◌, arith, inl, inr, one-add}
use Rattle.std.specs.Char.{to_ascii_lowercase, is_ascii_uppercase}
use Rattle.std.specs.Int.{IsInRange}
use Rattle.std.specs.List.{list_any, position_or_len}
use Rattle.std.proofs.lemmas.Bool.{cases_lt, eqb-true, ne_eqb, or_parts}
use Rattle.std.proofs.lemmas.Bool.Decides.{nat_tests}
use Rattle.std.proofs.lemmas.List.{map-append}
use Rattle.std.proofs.lemmas.List.Folds.{list_any-append}
use Rattle.std.proofs.lemmas.Str.Ascii.{lowercase_is}
use Rattle.rule_lookup.specs.Lines.{has_byte}
use Rattle.rule_lookup.specs.Spread.{folded}

-- the bytes are in lower case
abbrev pub IsLow : List ℕ → Type 0
IsLow bytes = map to_ascii_lowercase bytes ≡ bytes

abbrev head_of : List ℕ → ℕ
head_of [] = 0
head_of (b ∷ bs) = b

abbrev tail_of : List ℕ → List ℕ
tail_of [] = []
tail_of (b ∷ bs) = bs

pub low-head : (b : ℕ) (bs : List ℕ) → IsLow (b ∷ bs) → to_ascii_lowercase b ≡ b
low-head b bs low = ap head_of low

pub low-tail : (b : ℕ) (bs : List ℕ) → IsLow (b ∷ bs) → IsLow bs
low-tail b bs low = ap tail_of low

pub low-cons : (b : ℕ) (bs : List ℕ) → to_ascii_lowercase b ≡ b → IsLow bs → IsLow (b ∷ bs)
low-cons b bs here rest = ap (λ c. c ∷ map to_ascii_lowercase bs) here ∙ ap (λ (l : List ℕ). b ∷ l) rest

-- from the first `=` on
by_test : (t : Bool) (n b : ℕ) (bs : List ℕ) → (take (cond (not t) (1 + n) 0) (b ∷ bs) ++ map to_ascii_lowercase (drop (cond (not t) (1 + n) 0) (b ∷ bs))) ≡ cond t (map to_ascii_lowercase (b ∷ bs)) (b ∷ take n bs ++ map to_ascii_lowercase (drop n bs))
by_test true n b bs = refl
by_test false n b bs = ap (λ k. take k (b ∷ bs) ++ map to_ascii_lowercase (drop k (b ∷ bs))) (one-add n)

pub folded-cons : (b : ℕ) (bs : List ℕ) → folded (b ∷ bs) ≡ cond (b == 61) (map to_ascii_lowercase (b ∷ bs)) (b ∷ folded bs)
folded-cons b bs = by_test (b == 61) (position_or_len (λ b. b == 61) bs) b bs

either_same : (t : Bool) (x y z : List ℕ) → x ≡ z → y ≡ z → cond t x y ≡ z
either_same true x y z first second = first
either_same false x y z first second = second

pub folded-low : (bytes : List ℕ) → IsLow bytes → folded bytes ≡ bytes
folded-low [] low = refl
folded-low (b ∷ bs) low =
    folded-cons b bs ∙ either_same (b == 61) _ _ (b ∷ bs) low (ap (λ (l : List ℕ). b ∷ l) (folded-low bs (low-tail b bs low)))

joined : (t : Bool) (x y x' y' r : List ℕ) → x ≡ x' ++ r → y ≡ y' ++ r → cond t x y ≡ cond t x' y' ++ r
joined true x y x' y' r first second = first
joined false x y x' y' r first second = second

-- what is in lower case stays behind whatever stands before it
pub folded-append : (front rest : List ℕ) → IsLow rest → folded (front ++ rest) ≡ folded front ++ rest
folded-append [] rest low = folded-low rest low
folded-append (b ∷ bs) rest low =
    folded-cons b (bs ++ rest)
    ∙ joined (b == 61) _ _ (map to_ascii_lowercase (b ∷ bs)) (b ∷ folded bs) rest
    (map-append to_ascii_lowercase (b ∷ bs) rest ∙ ap (λ (l : List ℕ). map to_ascii_lowercase (b ∷ bs) ++ l) low)
    (ap (λ (l : List ℕ). b ∷ l) (folded-append bs rest low))
    ∙ ap (λ (l : List ℕ). l ++ rest) (sym (folded-cons b bs))

-- a zero byte stands where it stood
capital : (c : ℕ) → (IsInRange 65 90 c → to_ascii_lowercase c ≡ c + 32) → 65 ≤ c → c ≤ 90 → to_ascii_lowercase c ≡ 0 → ⊥
capital c high from to same = let none : c + 32 ≡ 0 = sym (high (from, to)) ∙ same in omega (arith, none)

never_zero : (c : ℕ) → (to_ascii_lowercase (suc c) == 0) ≡ false
never_zero c = ne_eqb (to_ascii_lowercase (suc c)) 0 (λ same. above (suc c) (omega arith) same) where
  above : (c : ℕ) → 0 < c → to_ascii_lowercase c ≡ 0 → ⊥
  above c some same =
      let (high, small, large) = lowercase_is c in
      elim (cases_lt c 65) [
        | inl low ↦ omega (arith, small low, some, same)
        | inr from ↦ elim (cases_lt 90 c) [ inl beyond ↦ omega (arith, large beyond, some, same) | inr letter ↦ absurd (capital c high from letter same) ]
      ]

zero-lower : (c : ℕ) → (to_ascii_lowercase c == 0) ≡ (c == 0)
zero-lower zero = refl
zero-lower (suc c) = never_zero c ∙ sym (ne_eqb (suc c) 0 (λ same. omega (arith, same)))

has_zero-lower : (bytes : List ℕ) → has_byte 0 (map to_ascii_lowercase bytes) ≡ has_byte 0 bytes
has_zero-lower [] = refl
has_zero-lower (b ∷ bs) = rw (zero-lower b, has_zero-lower bs) refl

zero_by : (t : Bool) (x y : List ℕ) (z : Bool) → has_byte 0 x ≡ z → has_byte 0 y ≡ z → has_byte 0 (cond t x y) ≡ z
zero_by true x y z first second = first
zero_by false x y z first second = second

pub has_zero-folded : (bytes : List ℕ) → has_byte 0 (folded bytes) ≡ has_byte 0 bytes
has_zero-folded [] = refl
has_zero-folded (b ∷ bs) =
    ap (has_byte 0) (folded-cons b bs)
    ∙ zero_by (b == 61) (map to_ascii_lowercase (b ∷ bs)) (b ∷ folded bs) (has_byte 0 (b ∷ bs)) (has_zero-lower (b ∷ bs)) (ap (λ t. b == 0 || t) (has_zero-folded bs))

-- capital letters from the first `=` on
abbrev pub has_capitals : List ℕ → Bool
has_capitals bytes = list_any is_ascii_uppercase (drop (position_or_len (λ b. b == 61) bytes) bytes)

by_position : (t : Bool) (n b : ℕ) (bs : List ℕ) → list_any is_ascii_uppercase (drop (cond (not t) (1 + n) 0) (b ∷ bs)) ≡ cond t (list_any is_ascii_uppercase (b ∷ bs)) (list_any is_ascii_uppercase (drop n bs))
by_position true n b bs = refl
by_position false n b bs = ap (λ k. list_any is_ascii_uppercase (drop k (b ∷ bs))) (one-add n)

pub has_capitals-cons : (b : ℕ) (bs : List ℕ) → has_capitals (b ∷ bs) ≡ cond (b == 61) (list_any is_ascii_uppercase (b ∷ bs)) (has_capitals bs)
has_capitals-cons b bs = by_position (b == 61) (position_or_len (λ b. b == 61) bs) b bs

-- a letter in lower case is no capital
upper-lower : (c : ℕ) → is_ascii_uppercase (to_ascii_lowercase c) ≡ false
upper-lower c = grind (arith, nat_tests)

lower-upper : (c : ℕ) → is_ascii_uppercase c ≡ false → to_ascii_lowercase c ≡ c
lower-upper c none = grind (arith, nat_tests, none)

upper-low : (bytes : List ℕ) → list_any is_ascii_uppercase (map to_ascii_lowercase bytes) ≡ false
upper-low [] = refl
upper-low (b ∷ bs) = rw (upper-lower b, upper-low bs) refl

pub low_from_no_capitals : (bytes : List ℕ) → list_any is_ascii_uppercase bytes ≡ false → IsLow bytes
low_from_no_capitals [] none = refl
low_from_no_capitals (b ∷ bs) none =
    let (here, rest) = or_parts (is_ascii_uppercase b) (list_any is_ascii_uppercase bs) none in
    low-cons b bs (lower-upper b here) (low_from_no_capitals bs rest)

-- an address without capitals there is in lower case from there on
no_capitals : (t : Bool) (b : ℕ) (bs : List ℕ) → (has_capitals bs ≡ false → folded bs ≡ bs) → cond t (list_any is_ascii_uppercase (b ∷ bs)) (has_capitals bs) ≡ false → cond t (map to_ascii_lowercase (b ∷ bs)) (b ∷ folded bs) ≡ b ∷ bs
no_capitals true b bs rest none = low_from_no_capitals (b ∷ bs) none
no_capitals false b bs rest none = ap (λ (l : List ℕ). b ∷ l) (rest none)

pub folded_from_no_capitals : (bytes : List ℕ) → has_capitals bytes ≡ false → folded bytes ≡ bytes
folded_from_no_capitals [] none = refl
folded_from_no_capitals (b ∷ bs) none =
    folded-cons b bs ∙ no_capitals (b == 61) b bs (folded_from_no_capitals bs) (sym (has_capitals-cons b bs) ∙ none)

-- what was put into lower case has none
after : (b : ℕ) (bs : List ℕ) → has_capitals (folded bs) ≡ false → (t : Bool) → (b == 61) ≡ t → has_capitals (cond t (map to_ascii_lowercase (b ∷ bs)) (b ∷ folded bs)) ≡ false
after b bs rest true is =
    let here : b ≡ 61 = eqb-true b 61 is in
    rw here (upper-low bs)
after b bs rest false is = has_capitals-cons b (folded bs) ∙ ap (λ t. cond t (list_any is_ascii_uppercase (b ∷ folded bs)) (has_capitals (folded bs))) is ∙ rest

pub has_capitals-folded : (bytes : List ℕ) → has_capitals (folded bytes) ≡ false
has_capitals-folded [] = refl
has_capitals-folded (b ∷ bs) = ap has_capitals (folded-cons b bs) ∙ after b bs (has_capitals-folded bs) (b == 61) refl

-- behind a `=` nothing is a capital
behind : (t : Bool) (b : ℕ) (bs rest : List ℕ) → (has_capitals (bs ++ 61 ∷ rest) ≡ false → list_any is_ascii_uppercase rest ≡ false) → cond t (list_any is_ascii_uppercase (b ∷ bs ++ 61 ∷ rest)) (has_capitals (bs ++ 61 ∷ rest)) ≡ false → list_any is_ascii_uppercase rest ≡ false
behind true b bs rest later none =
    let all = or_parts (is_ascii_uppercase b) (list_any is_ascii_uppercase (bs ++ 61 ∷ rest)) none in
    let parts = or_parts (list_any is_ascii_uppercase bs) (list_any is_ascii_uppercase (61 ∷ rest)) (sym (list_any-append is_ascii_uppercase bs (61 ∷ rest)) ∙ all.1) in
    parts.1
behind false b bs rest later none = later none

pub behind_equals : (front rest : List ℕ) → has_capitals (front ++ 61 ∷ rest) ≡ false → list_any is_ascii_uppercase rest ≡ false
behind_equals [] rest none = none
behind_equals (b ∷ bs) rest none = behind (b == 61) b bs rest (behind_equals bs rest) (sym (has_capitals-cons b (bs ++ 61 ∷ rest)) ∙ none)
