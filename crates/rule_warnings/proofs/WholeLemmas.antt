-- Whole IPv4 addresses: each is ASCII, and at most fifteen bytes long.
use Rattle.std.proofs.Common.{◌≡◌, ℕ, ◌+◌, ◌<◌, ◌≤◌, Bool, true, false, List, [], ◌∷◌, ◌++◌, length, Option, Some, None, decimal, refl, ap, arith, length-append, append_assoc}
use Rattle.std.specs.Prelude.{is_some}
use Rattle.std.specs.Net.Grammar.{IsDotted}
use Rattle.std.specs.Net.Text.{dotted_text}
use Rattle.std.specs.Str.{IsAscii, IsUtf8}
use Rattle.std.proofs.lemmas.List.Elements.{All-nil, All-cons}
use Rattle.std.proofs.lemmas.Fmt.{length-decimal-le, IsAscii-decimal}
use Rattle.std.proofs.lemmas.Str.{IsAscii-append, IsUtf8-from_ascii}
use Rattle.std.proofs.lemmas.Str.Ascii.{IsAscii-from_all}
use Rattle.rule_lookup.proofs.AddressLemmas.{IsDotted-ipv4_in, ipv4_in-IsDotted}
use Rattle.rule_lookup.specs.Addresses.{ipv4_in}
use Rattle.rule_warnings.specs.Clients.{is_whole}

-- the numbers of a whole address
pub record Dotted (text : List ℕ) : Type 0 where
  pub octets : List ℕ
  pub dotted : IsDotted text octets

of_option : (text : List ℕ) (o : Option (List ℕ)) → ipv4_in text ≡ o → is_some o ≡ true → Dotted text
of_option text None is some = absurd (cc)
of_option text (Some octets) is some = record { octets = octets; dotted = IsDotted-ipv4_in text octets is }

pub Dotted-is_whole : (text : List ℕ) → is_whole text ≡ true → Dotted text
Dotted-is_whole text whole = of_option text (ipv4_in text) refl whole

pub is_whole-IsDotted : (text octets : List ℕ) → IsDotted text octets → is_whole text ≡ true
is_whole-IsDotted text octets dotted = ap is_some (ipv4_in-IsDotted text octets dotted)

-- what is no whole address
pub not_whole : (text : List ℕ) → ((octets : List ℕ) → IsDotted text octets → ⊥) → is_whole text ≡ false
not_whole text none = by_cases (is_whole text) refl where
  by_cases : (b : Bool) → is_whole text ≡ b → b ≡ false
  by_cases false is = refl
  by_cases true is = let d = Dotted-is_whole text is in absurd (none d.octets d.dotted)

short : (n : ℕ) → n < 256 → length (decimal n) ≤ 3
short n fits = length-decimal-le 3 n (omega arith) (omega arith) (omega arith)

-- the text is short
pub length-IsDotted : (text octets : List ℕ) → IsDotted text octets → length text ≤ 15
length-IsDotted text octets h =
    let (fits_a, fits_b, fits_c, fits_d) = h.fit in
    let spelled = ap length h.spelled in
    let a = short h.a fits_a in
    let b = short h.b fits_b in
    let c = short h.c fits_c in
    let d = short h.d fits_d in
    let joined : length (dotted_text h.a h.b h.c h.d) ≡ length (decimal h.a) + 1 + length (decimal h.b) + 1 + length (decimal h.c) + 1 + length (decimal h.d) = grind (arith, length-append) in
    omega arith

-- it is text
pub IsUtf8-IsDotted : (text octets : List ℕ) → IsDotted text octets → IsUtf8 text
IsUtf8-IsDotted text octets h =
    let (fits_a, fits_b, fits_c, fits_d) = h.fit in
    let dot : IsAscii (46 ∷ []) = IsAscii-from_all (46 ∷ []) (All-cons (λ b. b < 128) 46 [] (omega arith) (All-nil (λ b. b < 128))) in
    let a = IsAscii-append (decimal h.a) (46 ∷ []) (IsAscii-decimal h.a (omega arith)) dot in
    let b = IsAscii-append (decimal h.b) (46 ∷ []) (IsAscii-decimal h.b (omega arith)) dot in
    let c = IsAscii-append (decimal h.c) (46 ∷ []) (IsAscii-decimal h.c (omega arith)) dot in
    let cd = IsAscii-append (decimal h.c ++ 46 ∷ []) (decimal h.d) c (IsAscii-decimal h.d (omega arith)) in
    let bcd = IsAscii-append (decimal h.b ++ 46 ∷ []) ((decimal h.c ++ 46 ∷ []) ++ decimal h.d) b cd in
    let abcd = IsAscii-append (decimal h.a ++ 46 ∷ []) ((decimal h.b ++ 46 ∷ []) ++ ((decimal h.c ++ 46 ∷ []) ++ decimal h.d)) a bcd in
    let same : (decimal h.a ++ 46 ∷ []) ++ ((decimal h.b ++ 46 ∷ []) ++ ((decimal h.c ++ 46 ∷ []) ++ decimal h.d)) ≡ dotted_text h.a h.b h.c h.d = simp append_assoc in
    rw (h.spelled, ← same) (IsUtf8-from_ascii _ abcd)
