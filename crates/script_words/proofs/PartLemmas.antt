-- Texts that are cut into parts.
use Rattle.std.proofs.Common.{◌≡◌, ℕ, ◌<◌, Bool, false, eqb, List, [], ◌∷◌, length, Option, Some, None, MatchOption, refl, sym, ap, ◌∙◌, arith}
use Rattle.std.specs.Borrow.{Bor}
use Rattle.std.specs.List.{after_first, before_first, position_or_len, slice_split}
use Rattle.std.proofs.lemmas.List.Elements.{All-from_get_or}
use Rattle.std.proofs.lemmas.List.Splits.{length-slice_split, slice_split_first, slice_split_none}
use Rattle.std.proofs.lemmas.List.Sums.{fails_before_first}
use Rattle.std.proofs.lemmas.Option.{none-some, same_Some}
use Rattle.std.proofs.lemmas.Str.Pattern.{IsSplitOnceResult, split_once_first}
use Rattle.script_words.specs.Parts.{four_of, three_of}

-- the parts of a text that is cut once
cut_by : (c : ℕ) (text : List ℕ) (r : Option (Bor (List ℕ) × Bor (List ℕ))) → MatchOption r (position_or_len (λ b. eqb b c) text ≡ length text) (λ x. (position_or_len (λ b. eqb b c) text < length text) × (x.0.now ≡ before_first (λ b. eqb b c) text) × (x.1.now ≡ after_first (λ b. eqb b c) text)) → MatchOption r (slice_split (λ b. eqb b c) text ≡ text ∷ []) (λ parts. slice_split (λ b. eqb b c) text ≡ parts.0.now ∷ slice_split (λ b. eqb b c) parts.1.now)
cut_by c text None none =
    slice_split_none (λ b. eqb b c) text (All-from_get_or (λ x. eqb x c ≡ false) text 0 (λ i within. fails_before_first (λ b. eqb b c) text i 0 (omega (arith, none))))
cut_by c text (Some parts) (within, first, rest) =
    slice_split_first (λ b. eqb b c) text 0 within ∙ ap (λ (part : List ℕ). part ∷ slice_split (λ b. eqb b c) (after_first (λ b. eqb b c) text)) (sym first)
    ∙ ap (λ (l : List ℕ). parts.0.now ∷ slice_split (λ b. eqb b c) l) (sym rest)

pub cut_once : (c : ℕ) (text : List ℕ) (r : Option (Bor (List ℕ) × Bor (List ℕ))) → c < 128 → IsSplitOnceResult c text r → MatchOption r (slice_split (λ b. eqb b c) text ≡ text ∷ []) (λ parts. slice_split (λ b. eqb b c) text ≡ parts.0.now ∷ slice_split (λ b. eqb b c) parts.1.now)
cut_once c text r ascii is = cut_by c text r (split_once_first c text r is ascii)

-- there is a first part
record HasFirst (parts : List (List ℕ)) : Type 0 where
  first : List ℕ
  more : List (List ℕ)
  is : parts ≡ first ∷ more

has_first : (parts : List (List ℕ)) → 0 < length parts → HasFirst parts
has_first [] some = absurd (omega arith)
has_first (part ∷ parts) some = record { first = part; more = parts; is = refl }

-- a text of more than three parts has not three
module _ (p : ℕ → Bool) (text rest third last first second before : List ℕ) where
  pub three_of-more : slice_split p text ≡ first ∷ slice_split p rest → slice_split p rest ≡ second ∷ slice_split p third → slice_split p third ≡ before ∷ slice_split p last → None ≡ three_of (slice_split p text)
  three_of-more one two three =
      let parts = has_first (slice_split p last) (omega (arith, length-slice_split p last)) in
      let whole : slice_split p text ≡ first ∷ second ∷ before ∷ parts.first ∷ parts.more =
      one ∙ ap (λ (l : List (List ℕ)). first ∷ l) (two ∙ ap (λ (l : List (List ℕ)). second ∷ l) (three ∙ ap (λ (l : List (List ℕ)). before ∷ l) parts.is)) in
      sym (ap three_of whole)

-- the three parts are all
three_of-is : (parts : List (List ℕ)) (a b c : List ℕ) → three_of parts ≡ Some (a, b, c) → parts ≡ a ∷ b ∷ c ∷ []
three_of-is [] a b c is = absurd (none-some _ is)
three_of-is (x ∷ []) a b c is = absurd (none-some _ is)
three_of-is (x ∷ y ∷ []) a b c is = absurd (none-some _ is)
three_of-is (x ∷ y ∷ z ∷ []) a b c is =
    let same = same_Some _ _ is in
    ap (λ (p : List ℕ × List ℕ × List ℕ). p.0 ∷ p.1 ∷ p.2 ∷ []) same
three_of-is (x ∷ y ∷ z ∷ w ∷ more) a b c is = absurd (none-some _ is)

-- four are one and three more
pub four_of-cons : (p : ℕ → Bool) (text rest a b c d : List ℕ) → slice_split p text ≡ a ∷ slice_split p rest → Some (b, c, d) ≡ three_of (slice_split p rest) → Some (a, b, c, d) ≡ four_of (slice_split p text)
four_of-cons p text rest a b c d one three =
    sym (ap four_of (one ∙ ap (λ (l : List (List ℕ)). a ∷ l) (three_of-is (slice_split p rest) b c d (sym three))))
