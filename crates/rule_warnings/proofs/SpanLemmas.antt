-- The ranges that have an address: which number of it, and what one more range adds.
use Rattle.std.proofs.Common.{◌≡◌, ◌≢◌, ℕ, suc, ◌+◌, ◌-◌, ◌<◌, ◌≤◌, Bool, true, false, not, ◌&&◌, ◌||◌, ◌==◌, cond, nat_eq, nat_lt, nat_le, min, List, [], ◌∷◌, ◌++◌, length, get_or, take, drop, Option, None, Some, option_map, option_and_then, bytes_eq, decimal, is_some, refl, sym, ap, subst, ◌∙◌, inl, inr, arith, append_assoc, length-append, ne_eqb}
use Rattle.std.specs.List.{before_first, after_first, ends_with, list_any, position_or_len, range_with_len}
use Rattle.std.specs.Str.{all_ascii_digits}
use Rattle.std.specs.Str.Parse.{digits_value}
use Rattle.std.proofs.Math.Seq.{drop-append_seam, take-append_seam}
use Rattle.std.proofs.lemmas.Bool.{and_parts, cases_Bool, eqb-true, le-leb, leb-true, lt-ltb, ltb-true, not-true, or_from}
use Rattle.std.proofs.Math.Nat.{zero-add}
use Rattle.std.proofs.lemmas.Fmt.{decimal_is_IsNumeral}
use Rattle.std.proofs.lemmas.List.Sums.{position_or_len_is}
use Rattle.std.proofs.lemmas.Str.Parse.{digit_at, numerals_by_value, tells_all_ascii_digits}
use Rattle.std.proofs.lemmas.List.{append-nil, take-append-drop, take_more, map-id}
use Rattle.std.proofs.lemmas.List.Folds.{list_any_at}
use Rattle.std.proofs.lemmas.List.FromFn.{get_or-map-range_with_len, get_or-range_with_len, length-map-range_with_len, length-range_with_len, map-range_with_len_more}
use Rattle.std.proofs.lemmas.Option.{none-some, same_Some}
use Rattle.std.proofs.lemmas.Slice.Eq.{bytes_eq-Decides}
use Rattle.rule_lookup.specs.Lines.{has_byte}
use Rattle.rule_lines.specs.Rows.{addresses_under}
use Rattle.rule_lookup.specs.Spread.{is_number}
use Rattle.rule_lines.specs.declared.spread.Numbers.{Numbers}
use Rattle.rule_lookup.proofs.CodeLemmas.{after_first-stop, before_first-stop, option_map_found, position_or_len-stop}
use Rattle.rule_warnings.specs.declared.seen.Seen.{Seen}
use Rattle.rule_warnings.specs.declared.spans.Span.{Span}
use Rattle.rule_warnings.specs.Spans.{CutParts, around, cut_at, cut_in, has_number, is_back, is_cut, is_front, line_among, line_from, line_in, line_spanned, octet_in, soonest, sooner, with_part}
use Rattle.rule_warnings.specs.LentLines.{either_line, line_lent}
use Rattle.rule_warnings.specs.Tables.{IsUpTo, line_alone, line_under, noted_all, spans_under}
use Rattle.rule_warnings.proofs.TableLemmas.{IsPushed, alone-none, spans-none}

-- ---- the first of some lines

sooner-none : (o : Option ℕ) → sooner None o ≡ o
sooner-none None = refl
sooner-none (Some n) = refl

sooner-assoc : (a b c : Option ℕ) → sooner a (sooner b c) ≡ sooner (sooner a b) c
sooner-assoc a b None = refl
sooner-assoc a None (Some z) = refl
sooner-assoc None (Some y) (Some z) = refl
sooner-assoc (Some x) (Some y) (Some z) = let same : min x (min y z) ≡ min (min x y) z = omega arith in ap Some same

sooner-comm : (a b : Option ℕ) → sooner a b ≡ sooner b a
sooner-comm None None = refl
sooner-comm None (Some y) = refl
sooner-comm (Some x) None = refl
sooner-comm (Some x) (Some y) = let same : min x y ≡ min y x = omega arith in ap Some same

pub soonest-push : {A : Type 0} (line : A → Option ℕ) (xs : List A) (x : A) → soonest line (xs ++ x ∷ []) ≡ sooner (soonest line xs) (line x)
soonest-push line [] x = sym (sooner-none (line x))
soonest-push line (y ∷ ys) x = ap (sooner (line y)) (soonest-push line ys x) ∙ sooner-assoc (line y) (soonest line ys) (line x)

-- the step of a loop over all of them
pub soonest-at : {A : Type 0} (line : A → Option ℕ) (xs : List A) (i : ℕ) (d : A) (so_far here now : Option ℕ) → i < length xs → so_far ≡ soonest line (take i xs) → here ≡ line (get_or xs i d) → now ≡ sooner so_far here → now ≡ soonest line (take (i + 1) xs)
soonest-at line xs i d so_far here now inside before is step =
    step ∙ ap (λ o. sooner o here) before ∙ ap (sooner (soonest line (take i xs))) is
    ∙ sym (ap (soonest line) (take_more xs i d inside) ∙ soonest-push line (take i xs) (get_or xs i d))

-- and of a loop over all positions
pub soonest-position : (line : ℕ → Option ℕ) (position : ℕ) (so_far here now : Option ℕ) → so_far ≡ soonest line (range_with_len 0 position) → here ≡ line position → now ≡ sooner so_far here → now ≡ soonest line (range_with_len 0 (position + 1))
soonest-position line position so_far here now before is step =
    let more : range_with_len 0 (position + 1) ≡ range_with_len 0 position ++ position ∷ [] = sym (map-id _) ∙ map-range_with_len_more (λ n. n) 0 position position (zero-add position) ∙ ap (λ (l : List ℕ). l ++ position ∷ []) (map-id _) in
    step ∙ ap (λ o. sooner o here) before ∙ ap (sooner (soonest line (range_with_len 0 position))) is
    ∙ sym (ap (soonest line) more ∙ soonest-push line (range_with_len 0 position) position)

soonest-alike : {A : Type 0} (f g : A → Option ℕ) → ((x : A) → f x ≡ g x) → (xs : List A) → soonest f xs ≡ soonest g xs
soonest-alike f g alike [] = refl
soonest-alike f g alike (x ∷ xs) = ap (λ o. sooner o (soonest f xs)) (alike x) ∙ ap (sooner (g x)) (soonest-alike f g alike xs)

either_there : (a b : Bool) (line : ℕ) → sooner (cond a (Some line) None) (cond b (Some line) None) ≡ cond (a || b) (Some line) None
either_there true true line = let same : min line line ≡ line = omega arith in ap Some same
either_there true false line = refl
either_there false true line = refl
either_there false false line = refl

-- a line more at some positions
soonest-more : {A : Type 0} (f : A → Option ℕ) (h : A → Bool) (line : ℕ) (xs : List A) → soonest (λ x. sooner (f x) (cond (h x) (Some line) None)) xs ≡ sooner (soonest f xs) (cond (list_any h xs) (Some line) None)
soonest-more f h line [] = refl
soonest-more f h line (x ∷ xs) =
    let a = f x in
    let g = cond (h x) (Some line) None in
    let s = soonest f xs in
    let t = cond (list_any h xs) (Some line) None in
    ap (sooner (sooner a g)) (soonest-more f h line xs)
    ∙ sym (sooner-assoc a g (sooner s t))
    ∙ ap (sooner a) (sooner-assoc g s t ∙ ap (λ o. sooner o t) (sooner-comm g s) ∙ sym (sooner-assoc s g t))
    ∙ sooner-assoc a s (sooner g t)
    ∙ ap (sooner (sooner a s)) (either_there (h x) (list_any h xs) line)

-- ---- numbers below 256

octet-value : (value n : ℕ) (part : List ℕ) (b c : Bool) → bytes_eq (decimal value) part ≡ c → (b && c) ≡ true → Some value ≡ Some n → decimal n ≡ part
octet-value value n part true true is both same = ap decimal (sym (same_Some value n same)) ∙ (bytes_eq-Decides (decimal value) part).0 is
octet-value value n part true false is both same = absurd (cc)
octet-value value n part false c is both same = absurd (cc)

by_octet : (value n : ℕ) (t : Bool) → cond t (Some value) None ≡ Some n → (t ≡ true) × (Some value ≡ Some n)
by_octet value n true is = (refl, is)
by_octet value n false is = absurd (none-some n is)

octet-sound : (part : List ℕ) (n : ℕ) → octet_in part ≡ Some n → decimal n ≡ part
octet-sound part n is =
    let value = digits_value 10 part in
    let parts = by_octet value n (is_number part && nat_lt value 256 && bytes_eq (decimal value) part) is in
    octet-value value n part (is_number part && nat_lt value 256) (bytes_eq (decimal value) part) refl parts.0 parts.1

octet-complete : (n : ℕ) → n < 256 → octet_in (decimal n) ≡ Some n
octet-complete n fits =
    let numeral = decimal_is_IsNumeral n (omega arith) in
    let own = numerals_by_value (λ ds. all_ascii_digits ds ≡ true) tells_all_ascii_digits in
    let digits : all_ascii_digits (decimal n) ≡ true = own.from (decimal n) numeral.0.1 in
    let value : digits_value 10 (decimal n) ≡ n = numeral.1 in
    let small : nat_le (digits_value 10 (decimal n)) 4294967295 ≡ true = le-leb _ _ (omega (arith, value)) in
    let below : nat_lt (digits_value 10 (decimal n)) 256 ≡ true = lt-ltb _ _ (omega (arith, value)) in
    let same : bytes_eq (decimal (digits_value 10 (decimal n))) (decimal n) ≡ true = (bytes_eq-Decides _ _).1 (ap decimal value) in
    rw (digits, small, below, same) (ap Some value)

none_has : (b : ℕ) (xs : List ℕ) → ((i : ℕ) → i < length xs → get_or xs i 0 ≢ b) → has_byte b xs ≡ false
none_has b [] none = refl
none_has b (x ∷ xs) none = or_from (x == b) (has_byte b xs) (ne_eqb x b (none 0 (omega arith))) (none_has b xs (λ i within. none (suc i) (omega arith)))

other_byte : (n i : ℕ) → n < 256 → i < length (decimal n) → get_or (decimal n) i 0 ≢ 46
other_byte n i fits within is = let digit = digit_at (decimal n) i (decimal_is_IsNumeral n (omega arith)).0.1 within in omega (arith, digit, is)

no_dot : (n : ℕ) → n < 256 → has_byte 46 (decimal n) ≡ false
no_dot n fits = none_has 46 (decimal n) (λ i within. other_byte n i fits within)

-- ---- an address, cut around a number

-- a number goes up to the first dot
to_dot : (n : ℕ) (back : List ℕ) → n < 256 → is_back back ≡ true → position_or_len (λ b. b == 46) (decimal n ++ back) ≡ length (decimal n)
to_dot n [] fits last =
    let text = decimal n in
    ap (position_or_len (λ b. b == 46)) (append-nil text)
    ∙ position_or_len_is (λ b. b == 46) text (length text) 0 (omega arith) (λ k within. ne_eqb (get_or text k 0) 46 (other_byte n k fits within)) (λ below. absurd (omega arith))
to_dot n (b ∷ bs) fits last =
    ap (λ dot. position_or_len (λ b. b == 46) (decimal n ++ dot ∷ bs)) (eqb-true b 46 last) ∙ position_or_len-stop 46 (decimal n) bs (no_dot n fits)

cut_in-complete : (front back : List ℕ) (n : ℕ) → n < 256 → is_front front ≡ true → is_back back ≡ true → cut_in front (decimal n ++ back) ≡ Some (record { front = front; number = n; back = back })
cut_in-complete front back n fits first last =
    let rest = decimal n ++ back in
    ap (λ b. cond b (with_part front rest (position_or_len (λ b. b == 46) rest)) None) first
    ∙ ap (with_part front rest) (to_dot n back fits last)
    ∙ ap (λ part. option_map (λ m. record { front = front; number = m; back = drop (length (decimal n)) rest }) (octet_in part)) (take-append_seam (decimal n) back)
    ∙ ap (option_map (λ m. record { front = front; number = m; back = drop (length (decimal n)) rest })) (octet-complete n fits)
    ∙ ap (λ back. Some (record { front = front; number = n; back = back })) (drop-append_seam (decimal n) back)

cut-complete : (front back : List ℕ) (n : ℕ) → n < 256 → is_front front ≡ true → is_back back ≡ true → cut_at (front ++ decimal n ++ back) (length front) ≡ Some (record { front = front; number = n; back = back })
cut-complete front back n fits first last =
    let rest = decimal n ++ back in
    let joined : front ++ decimal n ++ back ≡ front ++ (decimal n ++ back) = append_assoc front (decimal n) back in
    ap (λ address. cut_at address (length front)) joined
    ∙ ap (λ taken. cut_in taken (drop (length front) (front ++ rest))) (take-append_seam front rest)
    ∙ ap (cut_in front) (drop-append_seam front rest)
    ∙ cut_in-complete front back n fits first last

record IsCutOf (address : List ℕ) (cut : CutParts) : Type 0 where
  pub whole : address ≡ cut.front ++ decimal cut.number ++ cut.back
  pub plain : has_byte 45 cut.front ≡ false

if_front : (t : Bool) (o : Option CutParts) (cut : CutParts) → cond t o None ≡ Some cut → (t ≡ true) × (o ≡ Some cut)
if_front true o cut is = (refl, is)
if_front false o cut is = absurd (none-some cut is)

plain_front : (front : List ℕ) → is_front front ≡ true → has_byte 45 front ≡ false
plain_front front is = not-true _ (and_parts (length front == 0 || ends_with nat_eq front (46 ∷ [])) (not (has_byte 45 front)) is).1

cut-sound : (address : List ℕ) (start : ℕ) (cut : CutParts) → cut_at address start ≡ Some cut → IsCutOf address cut
cut-sound address start cut is =
    let front = take start address in
    let rest = drop start address in
    let len = position_or_len (λ b. b == 46) rest in
    let back = drop len rest in
    let (first, found) = if_front (is_front front) (with_part front rest len) cut is in
    let (n, read, made) = option_map_found (λ n. record { front = front; number = n; back = back }) (octet_in (take len rest)) cut found in
    let rest_is : decimal n ++ back ≡ rest = ap (λ (l : List ℕ). l ++ back) (octet-sound (take len rest) n read) ∙ take-append-drop len rest in
    subst (λ (cut : CutParts). IsCutOf address cut) made (record {
      whole = sym (append_assoc front (decimal n) back ∙ ap (λ (l : List ℕ). front ++ l) rest_is ∙ take-append-drop start address);
      plain = plain_front front first;
    })

-- what stands around a number is told by it
around_same : (a b x y : List ℕ) → has_byte 45 a ≡ false → has_byte 45 b ≡ false → around a x ≡ around b y → (a ≡ b) × (x ≡ y)
around_same a b x y plain other same = (
  sym (before_first-stop 45 a x plain) ∙ ap (before_first (λ c. c == 45)) same ∙ before_first-stop 45 b y other,
  sym (after_first-stop 45 a x plain) ∙ ap (after_first (λ c. c == 45)) same ∙ after_first-stop 45 b y other,
)

-- ---- one more range

-- whether an address that is cut there is one of a range
abbrev hits : List ℕ → Numbers → Option CutParts → Bool
hits key numbers None = false
hits key numbers (Some cut) = bytes_eq key (around cut.front cut.back) && has_number numbers cut.number

from-pushed : (old new : List ℕ → List Span) (key : List ℕ) (span : Span) → IsPushed old new key span → (o : Option CutParts) → option_and_then (λ cut. line_among (new (around cut.front cut.back)) cut.number) o ≡ sooner (option_and_then (λ cut. line_among (old (around cut.front cut.back)) cut.number) o) (cond (hits key span.numbers o) (Some span.line) None)
from-pushed old new key span p None = refl
from-pushed old new key span p (Some cut) =
    let k = around cut.front cut.back in
    let n = cut.number in
    elim (cases_Bool (bytes_eq key k)) [
      | inl same ↦
          let one = (bytes_eq-Decides key k).0 same in
          ap (λ (l : List ℕ). line_among (new l) n) (sym one)
          ∙ ap (λ (spans : List Span). line_among spans n) p.here
          ∙ soonest-push (line_in n) (old key) span
          ∙ ap (λ (l : List ℕ). sooner (line_among (old l) n) (line_in n span)) one
          ∙ ap (λ b. sooner (line_among (old k) n) (cond (b && has_number span.numbers n) (Some span.line) None)) (sym same)
      | inr differs ↦
          ap (λ (spans : List Span). line_among spans n) (p.others k differs)
          ∙ ap (λ b. sooner (line_among (old k) n) (cond (b && has_number span.numbers n) (Some span.line) None)) (sym differs)
    ]

abbrev positions : List ℕ → List ℕ
positions address = range_with_len 0 (length address + 1)

spanned-pushed : (old new : List ℕ → List Span) (key : List ℕ) (span : Span) → IsPushed old new key span → (other : List ℕ) → line_spanned new other ≡ sooner (line_spanned old other) (cond (list_any (λ start. hits key span.numbers (cut_at other start)) (positions other)) (Some span.line) None)
spanned-pushed old new key span p other =
    soonest-alike (line_from new other) (λ start. sooner (line_from old other start) (cond (hits key span.numbers (cut_at other start)) (Some span.line) None)) (λ start. from-pushed old new key span p (cut_at other start)) (positions other)
    ∙ soonest-more (line_from old other) (λ start. hits key span.numbers (cut_at other start)) span.line (positions other)

-- ---- which addresses are those of a range

found_at : {A P : Type 0} (p : A → Bool) (xs : List A) (d : A) → list_any p xs ≡ true → ((i : ℕ) → i < length xs → p (get_or xs i d) ≡ true → P) → P
found_at p [] d any then = absurd (cc)
found_at p (x ∷ xs) d any then = elim (cases_Bool (p x)) [
  | inl here ↦ then 0 (omega arith) here
  | inr other ↦ found_at p xs d (ap (λ b. b || list_any p xs) (sym other) ∙ any) (λ i within passes. then (suc i) (omega arith) passes)
]

same_tests : (a b : Bool) → (a ≡ true → b ≡ true) → (b ≡ true → a ≡ true) → a ≡ b
same_tests true b there back = sym (there refl)
same_tests false true there back = back refl
same_tests false false there back = refl

record IsInRange (numbers : Numbers) (n : ℕ) : Type 0 where
  pub above : numbers.first ≤ n
  pub below : n < numbers.first + numbers.count

has_number-is : (numbers : Numbers) (n : ℕ) → has_number numbers n ≡ true → IsInRange numbers n
has_number-is numbers n has =
    let parts = and_parts (nat_le numbers.first n) (nat_lt n (numbers.first + numbers.count)) has in
    record { above = leb-true _ _ parts.0; below = ltb-true _ _ parts.1 }

is-has_number : (numbers : Numbers) (n : ℕ) → numbers.first ≤ n → n < numbers.first + numbers.count → has_number numbers n ≡ true
is-has_number numbers n above below = let a = le-leb _ _ above in let b = lt-ltb _ _ below in rw (a, b) refl

module _ (front back : List ℕ) (numbers : Numbers) (other : List ℕ) where
  abbrev text : ℕ → List ℕ
  text n = front ++ decimal n ++ back

  -- by a number of it
  in_range : (n : ℕ) → IsInRange numbers n → other ≡ text n → list_any (bytes_eq other) (addresses_under front numbers back) ≡ true
  in_range n has is =
      let above = has.above in
      let below = has.below in
      let position = n - numbers.first in
      let within : position < numbers.count = omega arith in
      list_any_at (bytes_eq other) (addresses_under front numbers back) position [] (rw (length-map-range_with_len text numbers.first numbers.count) within)
      ((bytes_eq-Decides other _).1 (is ∙ sym (get_or-map-range_with_len text numbers.first numbers.count position n [] within (omega arith))))

  hit-is : (plain : is_front front ≡ true) (start : ℕ) (o : Option CutParts) → cut_at other start ≡ o → hits (around front back) numbers o ≡ true → list_any (bytes_eq other) (addresses_under front numbers back) ≡ true
  hit-is plain start None is hit = absurd (cc)
  hit-is plain start (Some cut) is hit =
      let parts = and_parts (bytes_eq (around front back) (around cut.front cut.back)) (has_number numbers cut.number) hit in
      let sound = cut-sound other start cut is in
      let same = around_same front cut.front back cut.back (plain_front front plain) sound.plain ((bytes_eq-Decides _ _).0 parts.0) in
      in_range cut.number (has_number-is numbers cut.number parts.1)
      (sound.whole ∙ ap (λ (l : List ℕ). l ++ decimal cut.number ++ cut.back) (sym same.0) ∙ ap (λ (l : List ℕ). front ++ decimal cut.number ++ l) (sym same.1))

  is-hit : is_front front ≡ true → is_back back ≡ true → numbers.first + numbers.count ≤ 256 → (i : ℕ) → i < length (addresses_under front numbers back) → bytes_eq other (get_or (addresses_under front numbers back) i []) ≡ true → list_any (λ start. hits (around front back) numbers (cut_at other start)) (positions other) ≡ true
  is-hit first last fits i within same =
      let n = numbers.first + i in
      let inside : i < numbers.count = rw (length-map-range_with_len text numbers.first numbers.count) at within in
      let is : other ≡ text n = (bytes_eq-Decides other _).0 same ∙ get_or-map-range_with_len text numbers.first numbers.count i n [] inside refl in
      let cut : cut_at other (length front) ≡ Some (record { front = front; number = n; back = back }) = ap (λ (l : List ℕ). cut_at l (length front)) is ∙ cut-complete front back n (omega arith) first last in
      let long : length front ≤ length other = omega (arith, ap length is, length-append (front ++ decimal n) back, length-append front (decimal n)) in
      let key : bytes_eq (around front back) (around front back) ≡ true = (bytes_eq-Decides (around front back) (around front back)).1 refl in
      let number : has_number numbers n ≡ true = is-has_number numbers n (omega arith) (omega arith) in
      let hit : hits (around front back) numbers (cut_at other (length front)) ≡ true = ap (hits (around front back) numbers) cut ∙ ap (λ b. b && has_number numbers n) key ∙ number in
      list_any_at (λ start. hits (around front back) numbers (cut_at other start)) (positions other) (length front) 0 (rw (length-range_with_len 0 (length other + 1)) (omega arith))
      (ap (λ start. hits (around front back) numbers (cut_at other start)) (get_or-range_with_len 0 (length other + 1) (length front) 0 (omega arith)) ∙ ap (λ start. hits (around front back) numbers (cut_at other start)) (zero-add (length front)) ∙ hit)

  -- an address is one of a range exactly where it is cut around one of its numbers
  hits-exactly : is_cut front numbers back ≡ true → list_any (λ start. hits (around front back) numbers (cut_at other start)) (positions other) ≡ list_any (bytes_eq other) (addresses_under front numbers back)
  hits-exactly cut =
      let three = and_parts (is_front front && is_back back && nat_lt 0 numbers.count) (nat_le (numbers.first + numbers.count) 256) cut in
      let two = and_parts (is_front front && is_back back) (nat_lt 0 numbers.count) three.0 in
      let one = and_parts (is_front front) (is_back back) two.0 in
      same_tests _ _
      (λ any. found_at (λ start. hits (around front back) numbers (cut_at other start)) (positions other) 0 any (λ i within hit. hit-is one.0 (get_or (positions other) i 0) _ refl hit))
      (λ any. found_at (bytes_eq other) (addresses_under front numbers back) [] any (λ i within same. is-hit one.0 one.1 (leb-true _ _ three.1) i within same))

-- ---- so the addresses of a range are noted

settled : (a s : Option ℕ) (t : Bool) (line : ℕ) → ((n : ℕ) → either_line a s ≡ Some n → n ≤ line) → either_line a (sooner s (cond t (Some line) None)) ≡ cond (is_some (either_line a s)) (either_line a s) (cond t (Some line) None)
settled (Some x) s t line earlier = refl
settled None None true line earlier = refl
settled None None false line earlier = refl
settled None (Some n) false line earlier = refl
settled None (Some n) true line earlier = let within = earlier n refl in let same : min n line ≡ n = omega arith in ap Some same

pub noted-range : (old new : Seen) (front back : List ℕ) (numbers : Numbers) (line : ℕ) → is_cut front numbers back ≡ true → IsUpTo old line → ((other : List ℕ) → line_alone new other ≡ line_alone old other) → IsPushed (spans_under old) (spans_under new) (around front back) (record { numbers = numbers; line = line }) → (other : List ℕ) → line_under new other ≡ noted_all (line_under old) (addresses_under front numbers back) line other
noted-range old new front back numbers line cut earlier alone p other =
    let key = around front back in
    ap (λ o. either_line o (line_spanned (spans_under new) other)) (alone other)
    ∙ ap (either_line (line_alone old other)) (spanned-pushed (spans_under old) (spans_under new) key (record { numbers = numbers; line = line }) p other)
    ∙ ap (λ b. either_line (line_alone old other) (sooner (line_spanned (spans_under old) other) (cond b (Some line) None))) (hits-exactly front back numbers other cut)
    ∙ settled (line_alone old other) (line_spanned (spans_under old) other) (list_any (bytes_eq other) (addresses_under front numbers back)) line (earlier other)

-- no ranges
pub spanned-none : (spans : List ℕ → List Span) → ((key : List ℕ) → spans key ≡ []) → (address : List ℕ) → line_spanned spans address ≡ None
spanned-none spans none address = at_none (positions address) where
  from_none : (o : Option CutParts) → option_and_then (λ cut. line_among (spans (around cut.front cut.back)) cut.number) o ≡ None
  from_none None = refl
  from_none (Some cut) = ap (λ (l : List Span). line_among l cut.number) (none (around cut.front cut.back))

  at_none : (starts : List ℕ) → soonest (line_from spans address) starts ≡ None
  at_none [] = refl
  at_none (start ∷ starts) = ap (λ o. sooner o (soonest (line_from spans address) starts)) (from_none (cut_at address start)) ∙ sooner-none _ ∙ at_none starts

-- no addresses
pub under-none : (seen : Seen) → ((address : List ℕ) → line_lent seen.lent address ≡ None) → seen.made.entries ≡ [] → seen.spans.entries ≡ [] → (address : List ℕ) → line_under seen address ≡ None
under-none seen lent made spans address =
    alone-none seen lent made address (line_spanned (spans_under seen) address) ∙ spanned-none (spans_under seen) (spans-none seen spans) address
