-- Which lines are rules.
use Rattle.std.proofs.Common.{◌≡◌, ◌≢◌, ℕ, ◌<◌, true, false, not, ◌||◌, List, [], ◌∷◌, length, get_or, refl, ap, ◌∙◌, arith, ne_eqb}
use Rattle.memchr.specs.Find.{Passes, is_byte}
use Rattle.rule_lookup.specs.Lines.{has_byte}
use Rattle.rule_lookup.specs.Pairs.{is_ignored}
use Rattle.rule_lookup.proofs.FoundLemmas.{list_any-found}

-- a line with a colon that doesn't begin with `#`
pub is_ignored-rule : (line : List ℕ) (k : ℕ) → get_or line 0 0 ≢ 35 → k < length line → Passes (is_byte 58) line k → is_ignored line ≡ false
is_ignored-rule [] k other inside here = absurd (omega arith)
is_ignored-rule (b ∷ bs) k other inside here =
    ap (λ t. t || not (has_byte 58 (b ∷ bs))) (ne_eqb b 35 other) ∙ ap not (list_any-found (is_byte 58) (b ∷ bs) k inside here)

-- a line that begins with `#`
pub is_ignored-comment : (line : List ℕ) → 0 < length line → get_or line 0 0 ≡ 35 → is_ignored line ≡ true
is_ignored-comment [] some here = absurd (omega arith)
is_ignored-comment (b ∷ bs) some here = rw here refl
