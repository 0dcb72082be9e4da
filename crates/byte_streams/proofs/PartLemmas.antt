-- The lines of a text, by what stands before it.
use Rattle.std.proofs.Common.{◌≡◌, ℕ, suc, ◌+◌, ◌-◌, ◌<◌, Bool, true, false, cond, eqb, List, [], ◌∷◌, ◌++◌, length, take, drop, get_or, refl, sym, ap, subst, ◌∙◌, arith, length-take, add-one, drop-cons}
use Rattle.std.specs.List.{onto_first}
use Rattle.std.proofs.lemmas.Bool.{eqb-true, false_from_ne_true}
use Rattle.std.proofs.lemmas.List.{get_or-take, take_rest, take-append-drop}
use Rattle.std.proofs.lemmas.List.Elements.{All-from_get_or}
use Rattle.std.proofs.lemmas.List.Splits.{slice_split_at, slice_split_none}
use Rattle.memchr.specs.Find.{NoneBefore, Nowhere, Passes, is_byte}
use Rattle.byte_streams.specs.Wrapped.{IsOneLine, parts_of, written}

-- ---- the first part

-- each text has a first part
pub record HasFirst (parts : List (List ℕ)) : Type 0 where
  pub first : List ℕ
  pub more : List (List ℕ)
  pub is : parts ≡ first ∷ more

cut_has_first : (t : Bool) (b : ℕ) (parts : List (List ℕ)) → HasFirst (cond t ([] ∷ parts) (onto_first b parts))
cut_has_first true b parts = record { first = []; more = parts; is = refl }
cut_has_first false b [] = record { first = b ∷ []; more = []; is = refl }
cut_has_first false b (part ∷ parts) = record { first = b ∷ part; more = parts; is = refl }

pub has_first : (text : List ℕ) → HasFirst (parts_of text)
has_first [] = record { first = []; more = []; is = refl }
has_first (b ∷ bs) = cut_has_first (eqb b 10) b (parts_of bs)

-- another byte than a line feed stands at the front of the first part
pub parts_of-other : (b : ℕ) (text : List ℕ) → eqb b 10 ≡ false → (h : HasFirst (parts_of text)) → parts_of (b ∷ text) ≡ (b ∷ h.first) ∷ h.more
parts_of-other b text other h =
    ap (λ t. cond t ([] ∷ parts_of text) (onto_first b (parts_of text))) other ∙ ap (onto_first b) h.is

abbrev pub first_with : (b : ℕ) (text : List ℕ) → eqb b 10 ≡ false → HasFirst (parts_of text) → HasFirst (parts_of (b ∷ text))
first_with b text other h = record { first = b ∷ h.first; more = h.more; is = parts_of-other b text other h }

-- ---- what is written of the parts

module _ (line rest : List ℕ → List ℕ) where
  -- a part before others is a line
  pub written-line : (part text : List ℕ) → written line rest (part ∷ parts_of text) ≡ line part ++ written line rest (parts_of text)
  written-line part text =
      let h = has_first text in
      subst (λ (parts : List (List ℕ)). written line rest (part ∷ parts) ≡ line part ++ written line rest parts) (sym h.is) refl

  -- a byte before the first part is written first, where that holds of the line and of the rest
  written-onto : (b : ℕ) (first : List ℕ) (more : List (List ℕ)) → line (b ∷ first) ≡ b ∷ line first → rest (b ∷ first) ≡ b ∷ rest first → written line rest ((b ∷ first) ∷ more) ≡ b ∷ written line rest (first ∷ more)
  written-onto b first [] in_line in_rest = in_rest
  written-onto b first (next ∷ more) in_line in_rest = ap (λ w. w ++ written line rest (next ∷ more)) in_line

  pub written-other : (b : ℕ) (text : List ℕ) → eqb b 10 ≡ false → (h : HasFirst (parts_of text)) → line (b ∷ h.first) ≡ b ∷ line h.first → rest (b ∷ h.first) ≡ b ∷ rest h.first → written line rest (parts_of (b ∷ text)) ≡ b ∷ written line rest (parts_of text)
  written-other b text other h in_line in_rest =
      ap (written line rest) (parts_of-other b text other h)
      ∙ written-onto b h.first h.more in_line in_rest
      ∙ ap (λ parts. b ∷ written line rest parts) (sym h.is)

-- ---- a text that a search cuts at its first line feed

-- what stands behind the byte at a position, as a slice is cut
abbrev pub behind : List ℕ → ℕ → List ℕ
behind text k = take (length text - (k + 1)) (drop (k + 1) text)

pub cut_at : (text : List ℕ) (k : ℕ) → NoneBefore (Passes (is_byte 10) text) 0 (length text) k × Passes (is_byte 10) text k → text ≡ take k text ++ 10 ∷ behind text k
cut_at text k found =
    let inside = found.0.high in
    sym (take-append-drop k text)
    ∙ ap (λ tail. take k text ++ tail) (drop-cons text k 0 inside ∙ ap (λ b. b ∷ drop (suc k) text) (eqb-true _ _ found.1))
    ∙ ap (λ tail. take k text ++ 10 ∷ tail) (ap (λ n. drop n text) (sym (add-one k)) ∙ sym (take_rest text (k + 1)))

pub one_line_before : (text : List ℕ) (k : ℕ) → NoneBefore (Passes (is_byte 10) text) 0 (length text) k → IsOneLine (take k text)
one_line_before text k found =
    All-from_get_or (λ b. eqb b 10 ≡ false) (take k text) 0 (λ i below.
    let within : i < k = omega (arith, length-take {A = ℕ}) in
    false_from_ne_true (eqb (get_or (take k text) i 0) 10) (λ feed. found.before i (omega arith) within (ap (λ b. eqb b 10) (sym (get_or-take k text i 0 within)) ∙ feed)))

pub one_line_all : (text : List ℕ) → Nowhere (Passes (is_byte 10) text) 0 (length text) → IsOneLine text
one_line_all text none =
    All-from_get_or (λ b. eqb b 10 ≡ false) text 0 (λ i below. false_from_ne_true (eqb (get_or text i 0) 10) (λ feed. none i (omega arith) below feed))

-- its first part is a line
pub parts_of-at : (text : List ℕ) (k : ℕ) → NoneBefore (Passes (is_byte 10) text) 0 (length text) k × Passes (is_byte 10) text k → parts_of text ≡ take k text ∷ parts_of (behind text k)
parts_of-at text k found =
    ap parts_of (cut_at text k found) ∙ slice_split_at (λ b. eqb b 10) (take k text) 10 (behind text k) (one_line_before text k found.0) refl

-- with no line feed there is no line
pub parts_of-none : (text : List ℕ) → Nowhere (Passes (is_byte 10) text) 0 (length text) → parts_of text ≡ text ∷ []
parts_of-none text none = slice_split_none (λ b. eqb b 10) text (one_line_all text none)
