-- The fields of a line: each is read as what it was written of, and was written of what is read.
use Rattle.std.proofs.Common.{◌≡◌, ◌≢◌, ℕ, zero, suc, ◌^◌, ◌<◌, ◌≤◌, inl, inr, Bool, true, false, not, ◌&&◌, ◌==◌, cond, nat_lt, nat_le, List, [], ◌∷◌, ◌++◌, map, length, get_or, take, All, Option, Some, None, option_and_then, bytes_eq, codes, decimal, refl, sym, ap, subst, ◌∙◌, arith, ne_eqb}
use Rattle.std.specs.Int.{IsInRange}
use Rattle.std.specs.List.{list_all}
use Rattle.std.specs.Net.Grammar.{IsDotted}
use Rattle.std.specs.Net.Text.{ipv4_text}
use Rattle.std.specs.Str.{all_ascii_digits}
use Rattle.std.specs.Str.Parse.{digits_value}
use Rattle.std.proofs.lemmas.Bool.{and_parts, leb-true, le-leb, ltb-true}
use Rattle.std.proofs.lemmas.Bool.Decides.{nat_tests}
use Rattle.std.proofs.lemmas.Fmt.{decimal_is_IsNumeral}
use Rattle.std.proofs.lemmas.List.{append-nil}
use Rattle.std.proofs.lemmas.List.Elements.{All-from_get_or, All-nil, All-weaker}
use Rattle.std.proofs.lemmas.List.Sums.{AllPass-from_list_all}
use Rattle.std.proofs.lemmas.Option.{none-some, same_Some, option_and_then_some}
use Rattle.std.proofs.lemmas.Slice.Eq.{bytes_eq-Decides}
use Rattle.std.proofs.lemmas.Str.Parse.{digit_at, numerals_by_value, tells_all_ascii_digits}
use Rattle.std.proofs.NetLemmas.Alphabet.{IsDigitOrDot, All-ipv4_text}
use Rattle.std.proofs.lemmas.List.{take_all}
use Rattle.rule_lookup.specs.Addresses.{ipv4_in}
use Rattle.rule_lookup.proofs.AddressLemmas.{ipv4_in-IsDotted, IsDotted-ipv4_in}
use Rattle.byte_text.specs.Fields.{field_text, mark}
use Rattle.server_log.specs.Lines.{field}
use Rattle.server_words.specs.Numbers.{is_number_between, number_in}
use Rattle.script_words.specs.LogLines.{IsToldWhole, if_written, is_plain, is_whole, name_in, number_written}

-- a byte of a field: neither a blank nor a colon, and ASCII
pub record IsFieldByte (b : ℕ) : Type 0 where
  pub above : 32 < b
  pub below : b < 127
  pub no_colon : b ≢ 58

-- ---- numbers

decimal-is_written : (n x : ℕ) (word : List ℕ) (b : Bool) → bytes_eq (decimal x) word ≡ b → cond b (Some x) None ≡ Some n → (decimal n ≡ word) × (x ≡ n)
decimal-is_written n x word true is e =
    let same = same_Some x n e in
    (ap decimal (sym same) ∙ (bytes_eq-Decides (decimal x) word).0 is, same)
decimal-is_written n x word false is e = absurd (none-some n e)

number_in-le : (greatest x : ℕ) (word : List ℕ) (b : Bool) → is_number_between word 0 greatest ≡ b → cond b (Some (digits_value 10 word)) None ≡ Some x → x ≤ greatest
number_in-le greatest x word true is e =
    let parts = and_parts (not (length word == 0) && all_ascii_digits word) (nat_le 0 (digits_value 10 word) && nat_le (digits_value 10 word) greatest) is in
    let within : digits_value 10 word ≤ greatest = leb-true (digits_value 10 word) greatest (and_parts (nat_le 0 (digits_value 10 word)) (nat_le (digits_value 10 word) greatest) parts.1).1 in
    omega (arith, same_Some _ x e)
number_in-le greatest x word false is e = absurd (none-some x e)

-- a number that is read was written
pub number_written-is : (greatest n : ℕ) (word : List ℕ) → number_written greatest word ≡ Some n → (decimal n ≡ word) × (n ≤ greatest)
number_written-is greatest n word e =
    option_and_then_some (λ x. if_written x word) (number_in word 0 greatest) n e λ x read written.
    let is = decimal-is_written n x word (bytes_eq (decimal x) word) refl written in
    let within = number_in-le greatest x word (is_number_between word 0 greatest) refl read in
    (is.0, omega (arith, is.1, within))

-- and one that was written is read
is_number_between-decimal : (greatest n : ℕ) → n ≤ greatest → n < 2 ^ 64 → is_number_between (decimal n) 0 greatest ≡ true
is_number_between-decimal greatest n within fits =
    let numeral = decimal_is_IsNumeral n fits in
    let own = numerals_by_value (λ ds. all_ascii_digits ds ≡ true) tells_all_ascii_digits in
    let some : not (length (decimal n) == 0) ≡ true = ap not (ne_eqb (length (decimal n)) 0 (λ none. omega (arith, numeral.0.0))) in
    let digits : all_ascii_digits (decimal n) ≡ true = own.from (decimal n) numeral.0.1 in
    let least : nat_le 0 (digits_value 10 (decimal n)) ≡ true = le-leb 0 _ (omega arith) in
    let most : nat_le (digits_value 10 (decimal n)) greatest ≡ true = le-leb _ greatest (omega (arith, numeral.1)) in
    rw (some, digits, least, most)

pub number_written-decimal : (greatest n : ℕ) → n ≤ greatest → n < 2 ^ 64 → number_written greatest (decimal n) ≡ Some n
number_written-decimal greatest n within fits =
    let read : number_in (decimal n) 0 greatest ≡ Some n = ap (λ b. cond b (Some (digits_value 10 (decimal n))) None) (is_number_between-decimal greatest n within fits) ∙ ap Some (decimal_is_IsNumeral n fits).1 in
    ap (option_and_then (λ x. if_written x (decimal n))) read ∙ ap (λ b. cond b (Some n) None) ((bytes_eq-Decides (decimal n) (decimal n)).1 refl)

pub decimal_bytes : (n : ℕ) → n < 2 ^ 64 → All IsFieldByte (decimal n)
decimal_bytes n fits =
    All-weaker (IsInRange 48 57) IsFieldByte (λ b digit. record { above = omega arith; below = omega arith; no_colon = λ is. omega arith }) (decimal n)
    (All-from_get_or (IsInRange 48 57) (decimal n) 0 λ i within. digit_at (decimal n) i (decimal_is_IsNumeral n fits).0.1 within)

-- ---- addresses

pub record IsWritten (word ip : List ℕ) : Type 0 where
  pub text : word ≡ ipv4_text ip
  pub address : IsDotted (ipv4_text ip) ip

pub address-is : (word ip : List ℕ) → ipv4_in word ≡ Some ip → IsWritten word ip
address-is word ip e =
    let dotted = IsDotted-ipv4_in word ip e in
    let text = dotted.spelled ∙ sym (ap ipv4_text dotted.value) in
    record { text = text; address = subst (λ (w : List ℕ). IsDotted w ip) text dotted }

pub ipv4_in-text : (ip : List ℕ) → IsDotted (ipv4_text ip) ip → ipv4_in (ipv4_text ip) ≡ Some ip
ipv4_in-text ip = ipv4_in-IsDotted (ipv4_text ip) ip

digit_or_dot : (b : ℕ) → IsDigitOrDot b → IsFieldByte b
digit_or_dot b (inl digit) = record { above = omega arith; below = omega arith; no_colon = λ is. omega arith }
digit_or_dot b (inr dot) = record { above = omega arith; below = omega arith; no_colon = λ is. omega arith }

octets_fit : (a b c d : ℕ) → a < 256 → b < 256 → c < 256 → d < 256 → (k : ℕ) → get_or (a ∷ b ∷ c ∷ d ∷ []) k 0 < 2 ^ 8
octets_fit a b c d fits_a fits_b fits_c fits_d zero = omega arith
octets_fit a b c d fits_a fits_b fits_c fits_d (suc zero) = omega arith
octets_fit a b c d fits_a fits_b fits_c fits_d (suc (suc zero)) = omega arith
octets_fit a b c d fits_a fits_b fits_c fits_d (suc (suc (suc zero))) = omega arith
octets_fit a b c d fits_a fits_b fits_c fits_d (suc (suc (suc (suc k)))) = omega arith

pub address_bytes : (ip : List ℕ) → IsDotted (ipv4_text ip) ip → All IsFieldByte (ipv4_text ip)
address_bytes ip dotted =
    let (a, b, c, d) = dotted.fit in
    All-weaker IsDigitOrDot IsFieldByte digit_or_dot (ipv4_text ip)
    (All-ipv4_text ip (subst (λ (o : List ℕ). (k : ℕ) → get_or o k 0 < 2 ^ 8) (sym dotted.value) (octets_fit dotted.a dotted.b dotted.c dotted.d a b c d)))

-- ---- names

plain_byte : (b : ℕ) → is_plain b ≡ true → (mark b ≡ b) × IsFieldByte b
plain_byte b plain = (grind (arith, nat_tests), record { above = grind (arith, nat_tests); below = grind (arith, nat_tests); no_colon = λ is. grind (arith, nat_tests) })

map-mark : (bytes : List ℕ) → list_all is_plain bytes ≡ true → map mark bytes ≡ bytes
map-mark [] plain = refl
map-mark (b ∷ bs) plain =
    let parts = and_parts (is_plain b) (list_all is_plain bs) plain in
    ap (λ x. x ∷ map mark bs) (plain_byte b parts.0).0 ∙ ap (λ (l : List ℕ). b ∷ l) (map-mark bs parts.1)

-- a field that is whole is the name itself
pub field_text-whole : (name : List ℕ) → is_whole name ≡ true → field_text name ≡ name
field_text-whole name whole =
    let parts = and_parts (nat_lt (length name) 100) (list_all is_plain name) whole in
    let all : take 100 name ≡ name = take_all 100 name (omega (arith, ltb-true (length name) 100 parts.0)) in
    ap (λ (l : List ℕ). map mark l ++ cond (nat_lt (length name) 100) [] (codes "...")) all
    ∙ ap (λ b. map mark name ++ cond b [] (codes "...")) parts.0 ∙ append-nil (map mark name) ∙ map-mark name parts.1

pub field-name_in : (bytes : List ℕ) → is_whole bytes ≡ true → field (name_in bytes) ≡ bytes
field-name_in [] whole = refl
field-name_in (b ∷ bs) whole = field_text-whole (b ∷ bs) whole

pub name_in-told : (bytes : List ℕ) → is_whole bytes ≡ true → IsToldWhole (name_in bytes)
name_in-told [] whole = tt
name_in-told (b ∷ bs) whole = (λ none. cc, whole)

-- the field of a name that it tells whole
pub record IsFieldOf (name : Option (List ℕ)) : Type 0 where
  pub whole : is_whole (field name) ≡ true
  pub named : name_in (field name) ≡ name
  pub bytes : All IsFieldByte (field name)

whole_bytes : (name : List ℕ) → is_whole name ≡ true → All IsFieldByte name
whole_bytes name whole =
    let parts = and_parts (nat_lt (length name) 100) (list_all is_plain name) whole in
    All-weaker (λ b. is_plain b ≡ true) IsFieldByte (λ b plain. (plain_byte b plain).1) name (AllPass-from_list_all is_plain name parts.1)

name_in-some : (name : List ℕ) → name ≢ [] → name_in name ≡ Some name
name_in-some [] some = absurd (some refl)
name_in-some (b ∷ bs) some = refl

pub field_of : (name : Option (List ℕ)) → IsToldWhole name → IsFieldOf name
field_of None told = record { whole = refl; named = refl; bytes = All-nil IsFieldByte }
field_of (Some name) (some, whole) =
    let is = field_text-whole name whole in
    record {
      whole = ap is_whole is ∙ whole;
      named = ap name_in is ∙ name_in-some name some;
      bytes = subst (All IsFieldByte) (sym is) (whole_bytes name whole);
    }
