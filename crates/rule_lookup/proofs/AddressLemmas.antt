-- A text is an address exactly where it is four numbers below 256 with dots between them.
use Rattle.std.proofs.Common.{◌≡◌, ℕ, zero, suc, ◌+◌, ◌^◌, ◌<◌, ◌≤◌, ◌==◌, Bool, true, false, cond, List, [], ◌∷◌, ◌++◌, All, Option, Some, None, option_map, option_and_then, find, bytes_eq, decimal, refl, sym, ap, ◌∙◌, append_assoc, arith, ne_eqb, inl, inr}
use Rattle.std.specs.Int.{IsInRange}
use Rattle.std.specs.List.{range_with_len, slice_split, join_with_byte}
use Rattle.std.specs.Net.Text.{dotted_text}
use Rattle.std.specs.Net.Grammar.{IsDotted}
use Rattle.std.proofs.lemmas.Bool.{cases_eq}
use Rattle.std.proofs.lemmas.Fmt.{decimal_is_IsNumeral, decimal_injective}
use Rattle.std.proofs.lemmas.List.Elements.{All-from_get_or, All-weaker}
use Rattle.std.proofs.lemmas.List.Splits.{slice_split_at, slice_split_none, join_with_byte-slice_split}
use Rattle.std.proofs.lemmas.Option.{none-some, same_Some, option_and_then_some}
use Rattle.std.proofs.lemmas.Slice.Eq.{bytes_eq-Decides}
use Rattle.std.proofs.lemmas.Str.Parse.{digit_at}
use Rattle.std.proofs.NetLemmas.Options.{map_some}
use Rattle.rule_lookup.specs.Addresses.{octet_in, octets_in, ipv4_in}

-- the text of a number has no dot
no_dot : (n : ℕ) → n < 256 → All (λ b. (b == 46) ≡ false) (decimal n)
no_dot n fits =
    let small : n < 2 ^ 64 = omega arith in
    All-weaker (IsInRange 48 57) (λ b. (b == 46) ≡ false) (λ b h. ne_eqb b 46 (λ same. omega arith)) (decimal n)
    (All-from_get_or (IsInRange 48 57) (decimal n) 0 λ i h. digit_at (decimal n) i (decimal_is_IsNumeral n small).0.1 h)

-- a number of the range is found by its text: here, or among the later ones
found_here_or_later : (n a : ℕ) (later : Option ℕ) → a ≤ n → n < 256 → (a < n → later ≡ Some n) → (t : Bool) → bytes_eq (decimal a) (decimal n) ≡ t → cond t (Some a) later ≡ Some n
found_here_or_later n a later low fits found true is =
    ap Some (decimal_injective a n (omega arith) (omega arith) ((bytes_eq-Decides (decimal a) (decimal n)).0 is))
found_here_or_later n a later low fits found false is = elim (cases_eq a n) [
  | inl same ↦ absurd (none-some n (cc ((bytes_eq-Decides (decimal a) (decimal n)).1 (ap decimal same))))
  | inr other ↦ found (omega arith)
]

-- so it is found where it lies in the range
found_by_text : (n : ℕ) → n < 256 → (k a : ℕ) → a ≤ n → n < a + k → find (λ m. bytes_eq (decimal m) (decimal n)) (range_with_len a k) ≡ Some n
found_by_text n fits zero a low high = absurd (omega arith)
found_by_text n fits (suc k) a low high =
    found_here_or_later n a _ low fits (λ more. found_by_text n fits k (a + 1) (omega arith) (omega arith)) (bytes_eq (decimal a) (decimal n)) refl

-- a number that is found has the text, and is in the range
text_here_or_later : (word : List ℕ) (n k a : ℕ) (later : Option ℕ) → (later ≡ Some n → (decimal n ≡ word) × (n < a + 1 + k)) → (t : Bool) → bytes_eq (decimal a) word ≡ t → cond t (Some a) later ≡ Some n → (decimal n ≡ word) × (n < a + suc k)
text_here_or_later word n k a later then true is e =
    let here = same_Some a n e in
    (ap decimal (sym here) ∙ (bytes_eq-Decides (decimal a) word).0 is, omega arith)
text_here_or_later word n k a later then false is e = let h = then e in (h.0, omega (arith, h.1))

-- so it is with whatever is found
text_of_found : (word : List ℕ) (n k a : ℕ) → find (λ m. bytes_eq (decimal m) word) (range_with_len a k) ≡ Some n → (decimal n ≡ word) × (n < a + k)
text_of_found word n zero a e = absurd (none-some n e)
text_of_found word n (suc k) a e =
    text_here_or_later word n k a _ (text_of_found word n k (a + 1)) (bytes_eq (decimal a) word) refl e

-- the number of a word is the one that it writes
octet_in-decimal : (n : ℕ) → n < 256 → octet_in (decimal n) ≡ Some n
octet_in-decimal n fits = found_by_text n fits 256 0 (omega arith) (omega arith)

-- a word that is a number writes it
decimal-octet_in : (word : List ℕ) (n : ℕ) → octet_in word ≡ Some n → (decimal n ≡ word) × (n < 256)
decimal-octet_in word n e = text_of_found word n 256 0 e

-- four numbers, where each is known
four_octets : (a b c d : ℕ) (o p q r : Option ℕ) → o ≡ Some a → p ≡ Some b → q ≡ Some c → r ≡ Some d → option_and_then (λ x. option_and_then (λ y. option_and_then (λ z. option_map (λ w. x ∷ y ∷ z ∷ w ∷ []) r) q) p) o ≡ Some (a ∷ b ∷ c ∷ d ∷ [])
four_octets a b c d o p q r is_a is_b is_c is_d = rw (is_a, is_b, is_c, is_d)

-- four numbers with dots between them, grouped to the right
dotted_text-right : (a b c d : ℕ) → dotted_text a b c d ≡ decimal a ++ 46 ∷ (decimal b ++ 46 ∷ (decimal c ++ 46 ∷ decimal d))
dotted_text-right a b c d = simp append_assoc

-- a number before a dot is the first word
slice_split-decimal : (n : ℕ) (rest : List ℕ) (words : List (List ℕ)) → n < 256 → slice_split (λ b. b == 46) rest ≡ words → slice_split (λ b. b == 46) (decimal n ++ 46 ∷ rest) ≡ decimal n ∷ words
slice_split-decimal n rest words fits later =
    slice_split_at (λ b. b == 46) (decimal n) 46 rest (no_dot n fits) refl ∙ ap (λ (ws : List (List ℕ)). decimal n ∷ ws) later

-- cut at the dots they are four words
slice_split-dotted_text : (a b c d : ℕ) → a < 256 → b < 256 → c < 256 → d < 256 → slice_split (λ x. x == 46) (dotted_text a b c d) ≡ decimal a ∷ decimal b ∷ decimal c ∷ decimal d ∷ []
slice_split-dotted_text a b c d fits_a fits_b fits_c fits_d =
    let last = slice_split_none (λ x. x == 46) (decimal d) (no_dot d fits_d) in
    let from_c = slice_split-decimal c _ _ fits_c last in
    let from_b = slice_split-decimal b _ _ fits_b from_c in
    ap (slice_split (λ x. x == 46)) (dotted_text-right a b c d) ∙ slice_split-decimal a _ _ fits_a from_b

-- four words that are numbers, joined by dots
IsDotted-octets_in : (words : List (List ℕ)) (octets : List ℕ) → octets_in words ≡ Some octets → IsDotted (join_with_byte 46 words) octets
IsDotted-octets_in [] octets e = absurd (none-some octets e)
IsDotted-octets_in (a ∷ []) octets e = absurd (none-some octets e)
IsDotted-octets_in (a ∷ b ∷ []) octets e = absurd (none-some octets e)
IsDotted-octets_in (a ∷ b ∷ c ∷ []) octets e = absurd (none-some octets e)
IsDotted-octets_in (a ∷ b ∷ c ∷ d ∷ []) octets e =
    option_and_then_some _ (octet_in a) _ e λ x is_x e₁.
    option_and_then_some _ (octet_in b) _ e₁ λ y is_y e₂.
    option_and_then_some _ (octet_in c) _ e₂ λ z is_z e₃.
    map_some _ (octet_in d) _ e₃ λ w is_w e₄.
    let (text_x, fits_x) = decimal-octet_in a x is_x in
    let (text_y, fits_y) = decimal-octet_in b y is_y in
    let (text_z, fits_z) = decimal-octet_in c z is_z in
    let (text_w, fits_w) = decimal-octet_in d w is_w in
    record {
      a = x;
      b = y;
      c = z;
      d = w;
      fit = (fits_x, fits_y, fits_z, fits_w);
      value = sym e₄;
      spelled = rw (dotted_text-right x y z w, text_x, text_y, text_z, text_w);
    }
IsDotted-octets_in (a ∷ b ∷ c ∷ d ∷ e ∷ more) octets is = absurd (none-some octets is)

-- a text that writes four numbers is that address
pub ipv4_in-IsDotted : (text octets : List ℕ) → IsDotted text octets → ipv4_in text ≡ Some octets
unfolding ipv4_in
ipv4_in-IsDotted text octets h =
    let (fits_a, fits_b, fits_c, fits_d) = h.fit in
    ap (λ (t : List ℕ). octets_in (slice_split (λ x. x == 46) t)) h.spelled
    ∙ ap octets_in (slice_split-dotted_text h.a h.b h.c h.d fits_a fits_b fits_c fits_d)
    ∙ four_octets h.a h.b h.c h.d _ _ _ _ (octet_in-decimal h.a fits_a) (octet_in-decimal h.b fits_b) (octet_in-decimal h.c fits_c) (octet_in-decimal h.d fits_d)
    ∙ ap Some (sym h.value)

-- an address is written so
pub IsDotted-ipv4_in : (text octets : List ℕ) → ipv4_in text ≡ Some octets → IsDotted text octets
unfolding ipv4_in
IsDotted-ipv4_in text octets e =
    rw (← join_with_byte-slice_split 46 text) (IsDotted-octets_in (slice_split (λ b. b == 46) text) octets e)

-- a text that writes no four numbers is no address
pub address_in_none : (text : List ℕ) → ((octets : List ℕ) → ¬ IsDotted text octets) → ipv4_in text ≡ None
address_in_none text none = by_cases (ipv4_in text) refl where
  by_cases : (o : Option (List ℕ)) → ipv4_in text ≡ o → o ≡ None
  by_cases None is = refl
  by_cases (Some octets) is = absurd (none octets (IsDotted-ipv4_in text octets is))
