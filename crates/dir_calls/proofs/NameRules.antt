-- Bytes that are no text.
use Rattle.std.proofs.Common.{◌≡◌, Bool, true, false, ℕ, List, refl, sym}
use Rattle.std.specs.Str.{IsUtf8, is_utf8}
use Rattle.std.proofs.lemmas.Str.{IsUtf8-from_is_utf8}

pub is_utf8-false : (bytes : List ℕ) → (IsUtf8 bytes → ⊥) → is_utf8 bytes ≡ false
is_utf8-false bytes not_text = by _ refl
  where
    by : (is : Bool) → is ≡ is_utf8 bytes → is_utf8 bytes ≡ false
    by true same = absurd (not_text (IsUtf8-from_is_utf8 bytes (sym same)))
    by false same = sym same
