-- Text without a zero byte, line by line.
use Rattle.std.proofs.Common.{◌≡◌, ◌⊎◌, ℕ, ◌<◌, true, cond, eqb, ◌&&◌, List, [], ◌∷◌, ◌++◌, length, refl, sym, ap, subst, arith, inl, inr}
use Rattle.std.proofs.lemmas.Bool.{and_parts, cases_Bool, eqb-true, or_cases}
use Rattle.std.proofs.lemmas.Str.{IsUtf8-from_is_utf8, IsUtf8-nil, is_utf8-from_IsUtf8}
use Rattle.rule_lookup.specs.Lines.{IsCutAtFeed, is_blank, trimmed}
use Rattle.rule_lines.specs.RuleFaults.{IsPlain}
use Rattle.rule_lines.proofs.SettingLemmas.{IsClean, IsClean-around}

IsClean-plain : (bytes : List ℕ) → IsPlain bytes → IsClean bytes
IsClean-plain bytes plain = record { utf8 = IsUtf8-from_is_utf8 bytes plain.0; zeros = plain.1 }

IsPlain-clean : (bytes : List ℕ) → IsClean bytes → IsPlain bytes
IsPlain-clean bytes clean = (is_utf8-from_IsUtf8 bytes clean.utf8, clean.zeros)

-- what stands before and after an ASCII byte
IsPlain-around : (before after : List ℕ) (b : ℕ) → b < 128 → IsPlain (before ++ b ∷ after) → IsPlain before × IsPlain after
IsPlain-around before after b ascii plain =
    let parts = IsClean-around before after b ascii (IsClean-plain (before ++ b ∷ after) plain) in
    (IsPlain-clean before parts.0, IsPlain-clean after parts.1)

IsPlain-nil : IsPlain []
IsPlain-nil = (is_utf8-from_IsUtf8 [] IsUtf8-nil, refl)

-- the first line, and what follows it
pub IsPlain-cut : (text line rest : List ℕ) → IsCutAtFeed text line rest → IsPlain text → IsPlain line × IsPlain rest
IsPlain-cut text line rest (inl feed) plain = IsPlain-around line rest 10 (omega arith) (subst IsPlain feed plain)
IsPlain-cut text line rest (inr whole) plain = (subst IsPlain whole.0 plain, subst IsPlain (sym whole.1) IsPlain-nil)

-- a trimmed line is all of it, or ends before an ASCII byte
abbrev Trims : List ℕ → List ℕ → Type 0
Trims line front = (line ≡ front) ⊎ ((b : ℕ) × (rest : List ℕ) × (b < 128) × (line ≡ front ++ b ∷ rest))

blank_low : (b : ℕ) → is_blank b ≡ true → b < 128
blank_low b blank = elim (or_cases (eqb b 32) (eqb b 9) blank) [
  | inl space ↦ omega (arith, eqb-true b 32 space)
  | inr tab ↦ omega (arith, eqb-true b 9 tab)
]

more_trimmed : (b : ℕ) (bs front : List ℕ) → Trims bs front → Trims (b ∷ bs) (b ∷ front)
more_trimmed b bs front (inl same) = inl (ap (λ xs. b ∷ xs) same)
more_trimmed b bs front (inr (c, rest, low, is)) = inr (c, rest, low, ap (λ xs. b ∷ xs) is)

trims : (line : List ℕ) → Trims line (trimmed line)
trims [] = inl refl
trims (b ∷ bs) =
    elim (cases_Bool (is_blank b && eqb (length (trimmed bs)) 0)) [
      | inl blank ↦ subst (Trims (b ∷ bs)) (sym (ap (λ t. cond t [] (b ∷ trimmed bs)) blank)) (inr (b, bs, blank_low b (and_parts (is_blank b) (eqb (length (trimmed bs)) 0) blank).0, refl))
      | inr other ↦ subst (Trims (b ∷ bs)) (sym (ap (λ t. cond t [] (b ∷ trimmed bs)) other)) (more_trimmed b bs (trimmed bs) (trims bs))
    ]

of_trimmed : (line front : List ℕ) → Trims line front → IsPlain line → IsPlain front
of_trimmed line front (inl same) plain = subst IsPlain same plain
of_trimmed line front (inr (b, rest, low, is)) plain = (IsPlain-around front rest b low (subst IsPlain is plain)).0

pub IsPlain-trimmed : (line : List ℕ) → IsPlain line → IsPlain (trimmed line)
IsPlain-trimmed line plain = of_trimmed line (trimmed line) (trims line) plain
