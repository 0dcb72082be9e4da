-- Prefixes of addresses that end with a dot, and suffixes of hosts that begin with one.
use Rattle.std.proofs.Common.{◌≡◌, ℕ, zero, suc, ◌-◌, ◌<◌, ◌≤◌, Bool, true, false, ◌==◌, ◌||◌, cond, List, [], ◌∷◌, ◌++◌, map, length, drop, take, All, decimal, refl, sym, ap, subst, ◌∙◌, append_assoc, arith, take-append-drop, length-append, ne_eqb}
use Rattle.std.specs.Prelude.{Contains, nat_eq, codes}
use Rattle.std.specs.List.{ends_with, list_any}
use Rattle.std.specs.Int.{IsInRange}
use Rattle.std.specs.Net.Grammar.{IsDotted}
use Rattle.std.specs.Net.Text.{dotted_text}
use Rattle.std.specs.Char.{to_ascii_lowercase}
use Rattle.std.proofs.lemmas.Bool.{and_from, or_from, or_parts, or_left, or_right}
use Rattle.std.proofs.lemmas.List.Folds.{list_any-append, list_any_none}
use Rattle.std.proofs.lemmas.Str.Ascii.{lowercase_is}
use Rattle.std.proofs.lemmas.Fmt.{decimal_is_IsNumeral}
use Rattle.std.proofs.lemmas.List.{length-map, map-append}
use Rattle.std.proofs.Math.ListN.{get_or-map}
use Rattle.std.proofs.lemmas.List.Elements.{All-nil, All-cons, All-append, All-map, All-weaker, All-from_get_or, Contains-append_left, Contains-append_right}
use Rattle.std.proofs.lemmas.Slice.Eq.{bytes_eq-Decides}
use Rattle.std.proofs.lemmas.Str.Parse.{digit_at}
use Rattle.std.specs.Fmt.{digits}
use Rattle.rule_lookup.specs.Lines.{has_byte}
use Rattle.rule_lookup.specs.Forms.{dotted_fronts, dotted_ends}
use Rattle.rule_warnings.proofs.CaseLemmas.{IsLow, low-cons, low-tail}
use Rattle.rule_warnings.proofs.WholeLemmas.{is_whole-IsDotted}
use Rattle.rule_warnings.specs.Clients.{is_front, is_whole}

-- an element of a list, under a function
pub Contains-map : {X Y : Type 0} (f : X → Y) (xs : List X) (x : X) → Contains xs x → Contains (map f xs) (f x)
Contains-map f xs x (k, inside, at) = (k, subst (λ n. k < n) (sym (length-map xs f)) inside, get_or-map f xs k x ∙ ap f at)

pub one : {X : Type 0} (x : X) → Contains (x ∷ []) x
one x = (0, omega arith, refl)

-- bytes that end with a dot
pub record EndsWithDot (bytes : List ℕ) : Type 0 where
  pub front : List ℕ
  pub is : bytes ≡ front ++ 46 ∷ []

pub ends_with_dot : (bytes : List ℕ) → ends_with nat_eq bytes (46 ∷ []) ≡ true → EndsWithDot bytes
ends_with_dot bytes ends = record {
  front = take (length bytes - 1) bytes;
  is = sym (take-append-drop (length bytes - 1) bytes) ∙ ap (λ (l : List ℕ). take (length bytes - 1) bytes ++ l) (sym ((bytes_eq-Decides (46 ∷ []) (drop (length bytes - 1) bytes)).0 ends));
}

drop-front : (xs ys : List ℕ) → drop (length xs) (xs ++ ys) ≡ ys
drop-front [] ys = refl
drop-front (x ∷ xs) ys = drop-front xs ys

pub dot_at_end : (front : List ℕ) → ends_with nat_eq (front ++ 46 ∷ []) (46 ∷ []) ≡ true
dot_at_end front =
    let long : length (front ++ 46 ∷ []) - 1 ≡ length front = omega (arith, length-append front (46 ∷ [])) in
    (bytes_eq-Decides (46 ∷ []) (drop (length (front ++ 46 ∷ []) - 1) (front ++ 46 ∷ []))).1
    (sym (ap (λ n. drop n (front ++ 46 ∷ [])) long ∙ drop-front front (46 ∷ [])))

-- a front up to a dot is one of the prefixes
pub front_of : (front rest : List ℕ) → Contains (dotted_fronts (front ++ 46 ∷ rest)) (front ++ 46 ∷ [])
front_of [] rest = Contains-append_right (map (λ (l : List ℕ). 46 ∷ l) (dotted_fronts rest)) ((46 ∷ []) ∷ []) (46 ∷ []) (one (46 ∷ []))
front_of (x ∷ xs) rest =
    Contains-append_left (map (λ (l : List ℕ). x ∷ l) (dotted_fronts (xs ++ 46 ∷ rest))) (cond (x == 46) ((x ∷ []) ∷ []) []) (x ∷ xs ++ 46 ∷ [])
    (Contains-map (λ (l : List ℕ). x ∷ l) (dotted_fronts (xs ++ 46 ∷ rest)) (xs ++ 46 ∷ []) (front_of xs rest))

-- bytes without a dot
abbrev pub NoDot : List ℕ → Type 0
NoDot bytes = list_any (λ b. b == 46) bytes ≡ false

-- what holds of each digit of a number
of_digits : (P : ℕ → Type 0) → ((b : ℕ) → IsInRange 48 57 b → P b) → (n : ℕ) → n < 256 → All P (decimal n)
of_digits P each n fits =
    All-weaker (IsInRange 48 57) P each (decimal n) (All-from_get_or (IsInRange 48 57) (decimal n) 0 λ i inside. digit_at (decimal n) i (decimal_is_IsNumeral n (omega arith)).0.1 inside)

NoDot-digits : (n : ℕ) → n < 256 → NoDot (decimal n)
NoDot-digits n fits =
    list_any_none (λ b. b == 46) (decimal n) (of_digits (λ b. (b == 46) ≡ false) (λ b range. ne_eqb b 46 (λ same. omega (arith, range.0, same))) n fits)

no_dot_here : (P : List ℕ → Type 0) (t : Bool) (front : List ℕ) → t ≡ false → All P (cond t (front ∷ []) [])
no_dot_here P true front none = absurd (cc)
no_dot_here P false front none = All-nil P

-- bytes without a dot have no prefix that ends with one
fronts_none : (P : List ℕ → Type 0) (xs : List ℕ) → NoDot xs → All P (dotted_fronts xs)
fronts_none P [] none = All-nil P
fronts_none P (x ∷ xs) none =
    let (here, later) = or_parts (x == 46) (list_any (λ b. b == 46) xs) none in
    All-append P (map (λ (l : List ℕ). x ∷ l) (dotted_fronts xs)) (cond (x == 46) ((x ∷ []) ∷ []) [])
    (All-map P (λ (l : List ℕ). x ∷ l) (dotted_fronts xs) (fronts_none (λ l. P (x ∷ l)) xs later))
    (no_dot_here P (x == 46) (x ∷ []) here)

-- each prefix goes up to the first dot, or further
fronts_all : (P : List ℕ → Type 0) (xs rest : List ℕ) → NoDot xs → P (xs ++ 46 ∷ []) → All (λ front. P (xs ++ 46 ∷ front)) (dotted_fronts rest) → All P (dotted_fronts (xs ++ 46 ∷ rest))
fronts_all P [] rest none here later =
    All-append P (map (λ (l : List ℕ). 46 ∷ l) (dotted_fronts rest)) ((46 ∷ []) ∷ []) (All-map P (λ (l : List ℕ). 46 ∷ l) (dotted_fronts rest) later) (All-cons P (46 ∷ []) [] here (All-nil P))
fronts_all P (x ∷ xs) rest none here later =
    let (other, others) = or_parts (x == 46) (list_any (λ b. b == 46) xs) none in
    All-append P (map (λ (l : List ℕ). x ∷ l) (dotted_fronts (xs ++ 46 ∷ rest))) (cond (x == 46) ((x ∷ []) ∷ []) [])
    (All-map P (λ (l : List ℕ). x ∷ l) (dotted_fronts (xs ++ 46 ∷ rest)) (fronts_all (λ l. P (x ∷ l)) xs rest others here later))
    (no_dot_here P (x == 46) (x ∷ []) other)

-- bytes in lower case, none of them zero
pub record IsTame (bytes : List ℕ) : Type 0 where
  pub low : IsLow bytes
  pub none : has_byte 0 bytes ≡ false

pub tame-append : (xs ys : List ℕ) → IsTame xs → IsTame ys → IsTame (xs ++ ys)
tame-append xs ys first second = record {
  low = map-append to_ascii_lowercase xs ys ∙ ap (λ (l : List ℕ). l ++ map to_ascii_lowercase ys) first.low ∙ ap (λ (l : List ℕ). xs ++ l) second.low;
  none = list_any-append (λ b. b == 0) xs ys ∙ or_from (has_byte 0 xs) (has_byte 0 ys) first.none second.none;
}

low_of_all : (xs : List ℕ) → All (λ b. to_ascii_lowercase b ≡ b) xs → IsLow xs
low_of_all [] all = refl
low_of_all (x ∷ xs) all = low-cons x xs (all 0 0 (omega arith)) (low_of_all xs (λ k d inside. all (suc k) d (omega (arith, inside))))

tame-digits : (n : ℕ) → n < 256 → IsTame (decimal n)
tame-digits n fits = record {
  low = low_of_all (decimal n) (of_digits (λ b. to_ascii_lowercase b ≡ b) (λ b range. (lowercase_is b).1 (omega (arith, range.1))) n fits);
  none = list_any_none (λ b. b == 0) (decimal n) (of_digits (λ b. (b == 0) ≡ false) (λ b range. ne_eqb b 0 (λ same. omega (arith, range.0, same))) n fits);
}

tame-dot : IsTame (46 ∷ [])
tame-dot = record { low = refl; none = refl }

-- one number and a dot, two, and three
front_by : (front : List ℕ) → (is_whole ((front ++ 46 ∷ []) ++ codes "0") || is_whole ((front ++ 46 ∷ []) ++ codes "0.0") || is_whole ((front ++ 46 ∷ []) ++ codes "0.0.0")) ≡ true → is_front (front ++ 46 ∷ []) ≡ true
front_by front whole = and_from (ends_with nat_eq (front ++ 46 ∷ []) (46 ∷ [])) _ (dot_at_end front) whole

one_spelled : (a : ℕ) → (decimal a ++ 46 ∷ []) ++ codes "0.0.0" ≡ dotted_text a 0 0 0
unfolding digits
one_spelled a = simp append_assoc

two_spelled : (a b : ℕ) → ((decimal a ++ 46 ∷ decimal b) ++ 46 ∷ []) ++ codes "0.0" ≡ dotted_text a b 0 0
unfolding digits
two_spelled a b = simp append_assoc

three_spelled : (a b c : ℕ) → ((decimal a ++ 46 ∷ (decimal b ++ 46 ∷ decimal c)) ++ 46 ∷ []) ++ codes "0" ≡ dotted_text a b c 0
unfolding digits
three_spelled a b c = simp append_assoc

first_front : (a : ℕ) → a < 256 → is_front (decimal a ++ 46 ∷ []) ≡ true
first_front a fits =
    let text = decimal a ++ 46 ∷ [] in
    let whole = is_whole-IsDotted (text ++ codes "0.0.0") (a ∷ 0 ∷ 0 ∷ 0 ∷ []) (record { a = a; b = 0; c = 0; d = 0; fit = (fits, omega arith, omega arith, omega arith); value = refl; spelled = one_spelled a }) in
    front_by (decimal a) (or_right (is_whole (text ++ codes "0") || is_whole (text ++ codes "0.0")) (is_whole (text ++ codes "0.0.0")) whole)

second_front : (a b : ℕ) → a < 256 → b < 256 → is_front ((decimal a ++ 46 ∷ decimal b) ++ 46 ∷ []) ≡ true
second_front a b fits_a fits_b =
    let front = decimal a ++ 46 ∷ decimal b in
    let text = front ++ 46 ∷ [] in
    let whole = is_whole-IsDotted (text ++ codes "0.0") (a ∷ b ∷ 0 ∷ 0 ∷ []) (record { a = a; b = b; c = 0; d = 0; fit = (fits_a, fits_b, omega arith, omega arith); value = refl; spelled = two_spelled a b }) in
    front_by front (or_left (is_whole (text ++ codes "0") || is_whole (text ++ codes "0.0")) (is_whole (text ++ codes "0.0.0")) (or_right (is_whole (text ++ codes "0")) (is_whole (text ++ codes "0.0")) whole))

third_front : (a b c : ℕ) → a < 256 → b < 256 → c < 256 → is_front ((decimal a ++ 46 ∷ (decimal b ++ 46 ∷ decimal c)) ++ 46 ∷ []) ≡ true
third_front a b c fits_a fits_b fits_c =
    let front = decimal a ++ 46 ∷ (decimal b ++ 46 ∷ decimal c) in
    let text = front ++ 46 ∷ [] in
    let whole = is_whole-IsDotted (text ++ codes "0") (a ∷ b ∷ c ∷ 0 ∷ []) (record { a = a; b = b; c = c; d = 0; fit = (fits_a, fits_b, fits_c, omega arith); value = refl; spelled = three_spelled a b c }) in
    front_by front (or_left (is_whole (text ++ codes "0") || is_whole (text ++ codes "0.0")) (is_whole (text ++ codes "0.0.0")) (or_left (is_whole (text ++ codes "0")) (is_whole (text ++ codes "0.0")) whole))

-- a prefix of an address, in lower case and without zero bytes
pub record IsTameFront (front : List ℕ) : Type 0 where
  pub is_one : is_front front ≡ true
  pub tame : IsTame front

-- four numbers with dots between them, grouped to the right
pub dotted_right : (a b c d : ℕ) → dotted_text a b c d ≡ decimal a ++ 46 ∷ (decimal b ++ 46 ∷ (decimal c ++ 46 ∷ decimal d))
dotted_right a b c d = simp append_assoc

tame-dotted : (xs ys : List ℕ) → IsTame xs → IsTame ys → IsTame (xs ++ 46 ∷ ys)
tame-dotted xs ys first second = tame-append xs (46 ∷ ys) first (tame-append (46 ∷ []) ys tame-dot second)

-- all prefixes of an address are such
pub fronts_of : (text octets : List ℕ) → IsDotted text octets → All IsTameFront (dotted_fronts text)
fronts_of text octets h =
    let (fits_a, fits_b, fits_c, fits_d) = h.fit in
    let tame_a = tame-digits h.a fits_a in
    let tame_b = tame-digits h.b fits_b in
    let tame_c = tame-digits h.c fits_c in
    let last = fronts_none (λ front. IsTameFront (decimal h.a ++ 46 ∷ (decimal h.b ++ 46 ∷ (decimal h.c ++ 46 ∷ front)))) (decimal h.d) (NoDot-digits h.d fits_d) in
    let third : IsTameFront (decimal h.a ++ 46 ∷ (decimal h.b ++ 46 ∷ (decimal h.c ++ 46 ∷ []))) =
    subst IsTameFront (append_assoc (decimal h.a) (46 ∷ (decimal h.b ++ 46 ∷ decimal h.c)) (46 ∷ []) ∙ ap (λ (l : List ℕ). decimal h.a ++ 46 ∷ l) (append_assoc (decimal h.b) (46 ∷ decimal h.c) (46 ∷ [])))
    (record {
      is_one = third_front h.a h.b h.c fits_a fits_b fits_c;
      tame = tame-append (decimal h.a ++ 46 ∷ (decimal h.b ++ 46 ∷ decimal h.c)) (46 ∷ []) (tame-dotted (decimal h.a) (decimal h.b ++ 46 ∷ decimal h.c) tame_a (tame-dotted (decimal h.b) (decimal h.c) tame_b tame_c)) tame-dot;
    }) in
    let second : IsTameFront (decimal h.a ++ 46 ∷ (decimal h.b ++ 46 ∷ [])) =
    subst IsTameFront (append_assoc (decimal h.a) (46 ∷ decimal h.b) (46 ∷ []))
    (record {
      is_one = second_front h.a h.b fits_a fits_b;
      tame = tame-append (decimal h.a ++ 46 ∷ decimal h.b) (46 ∷ []) (tame-dotted (decimal h.a) (decimal h.b) tame_a tame_b) tame-dot;
    }) in
    let first : IsTameFront (decimal h.a ++ 46 ∷ []) = record { is_one = first_front h.a fits_a; tame = tame-append (decimal h.a) (46 ∷ []) tame_a tame-dot } in
    let from_c = fronts_all (λ front. IsTameFront (decimal h.a ++ 46 ∷ (decimal h.b ++ 46 ∷ front))) (decimal h.c) (decimal h.d) (NoDot-digits h.c fits_c) third last in
    let from_b = fronts_all (λ front. IsTameFront (decimal h.a ++ 46 ∷ front)) (decimal h.b) (decimal h.c ++ 46 ∷ decimal h.d) (NoDot-digits h.b fits_b) second from_c in
    let from_a = fronts_all IsTameFront (decimal h.a) (decimal h.b ++ 46 ∷ (decimal h.c ++ 46 ∷ decimal h.d)) (NoDot-digits h.a fits_a) first from_b in
    subst (λ (l : List ℕ). All IsTameFront (dotted_fronts l)) (sym (h.spelled ∙ dotted_right h.a h.b h.c h.d)) from_a

-- the whole address is tame
pub tame_whole : (text octets : List ℕ) → IsDotted text octets → IsTame text
tame_whole text octets h =
    let (fits_a, fits_b, fits_c, fits_d) = h.fit in
    subst IsTame (sym (h.spelled ∙ dotted_right h.a h.b h.c h.d))
    (tame-dotted (decimal h.a) _ (tame-digits h.a fits_a) (tame-dotted (decimal h.b) _ (tame-digits h.b fits_b) (tame-dotted (decimal h.c) (decimal h.d) (tame-digits h.c fits_c) (tame-digits h.d fits_d))))

-- a suffix of a host is no longer than it, and tame where the host is
pub record IsTameEnd (most : ℕ) (end : List ℕ) : Type 0 where
  pub short : length end ≤ most
  pub tame : IsTame end

tame-tail : (b : ℕ) (bs : List ℕ) → IsTame (b ∷ bs) → IsTame bs
tame-tail b bs tame = record { low = low-tail b bs tame.low; none = (or_parts (b == 0) (has_byte 0 bs) tame.none).1 }

ends_by : (most : ℕ) (t : Bool) (host : List ℕ) (ends : List (List ℕ)) → IsTameEnd most host → All (IsTameEnd most) ends → All (IsTameEnd most) (cond t (host ∷ ends) ends)
ends_by most true host ends here later = All-cons (IsTameEnd most) host ends here later
ends_by most false host ends here later = later

pub ends_of : (most : ℕ) (host : List ℕ) → length host ≤ most → IsTame host → All (IsTameEnd most) (dotted_ends host)
ends_of most [] short tame = All-nil (IsTameEnd most)
ends_of most (b ∷ bs) short tame =
    ends_by most (b == 46) (b ∷ bs) (dotted_ends bs) (record { short = short; tame = tame }) (ends_of most bs (omega (arith, short)) (tame-tail b bs tame))

pub tame-drop : (n : ℕ) (bytes : List ℕ) → IsTame bytes → IsTame (drop n bytes)
tame-drop zero bytes tame = tame
tame-drop (suc n) [] tame = tame
tame-drop (suc n) (b ∷ bs) tame = tame-drop n bs (tame-tail b bs tame)
