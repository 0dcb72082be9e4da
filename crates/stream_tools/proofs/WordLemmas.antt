-- Words as texts.
use Rattle.std.proofs.Common.{◌≡◌, ℕ, false, cond, List, [], ap}
use Rattle.std.specs.Prelude.{IsUtf8}
use Rattle.std.specs.Str.{is_utf8}
use Rattle.std.proofs.lemmas.Bool.{false_from_ne_true}
use Rattle.std.proofs.lemmas.Str.{is_utf8-from_IsUtf8, IsUtf8-from_is_utf8}
use Rattle.stream_tools.specs.Programs.{text_in}

-- bytes that are no text
pub is_utf8-no_text : (bytes : List ℕ) → ¬ IsUtf8 bytes → is_utf8 bytes ≡ false
is_utf8-no_text bytes no_text =
    false_from_ne_true (is_utf8 bytes) (λ text. no_text (IsUtf8-from_is_utf8 bytes text))

-- a word that is text, and one that is none, as a text
pub text_in-text : (word : List ℕ) → IsUtf8 word → text_in word ≡ word
text_in-text word text = ap (λ b. cond b word []) (is_utf8-from_IsUtf8 word text)

pub text_in-no_text : (word : List ℕ) → ¬ IsUtf8 word → text_in word ≡ []
text_in-no_text word no_text = ap (λ b. cond b word []) (is_utf8-no_text word no_text)
