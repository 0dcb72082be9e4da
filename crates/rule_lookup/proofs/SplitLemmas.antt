-- Bytes split at the first position of a byte.
use Rattle.std.proofs.Common.{◌≡◌, ℕ, ◌+◌, ◌-◌, ◌<◌, false, List, ◌∷◌, ◌++◌, length, take, drop, get_or, sym, ap, ◌∙◌, arith, length-take}
use Rattle.std.specs.Prelude.{◌==◌}
use Rattle.std.proofs.lemmas.Bool.{eqb-true}
use Rattle.std.proofs.lemmas.List.{get_or-take, take-append-drop, drop_more, take_rest}
use Rattle.memchr.specs.Find.{Nowhere, Passes, is_byte}
use Rattle.rule_lookup.specs.Lines.{has_byte}
use Rattle.rule_lookup.proofs.FoundLemmas.{list_any-nowhere}

-- the bytes before the first position of a byte have none
pub has_byte-before : (b position : ℕ) (bytes : List ℕ) → Nowhere (Passes (is_byte b) bytes) 0 position → has_byte b (take position bytes) ≡ false
has_byte-before b position bytes before =
    list_any-nowhere (is_byte b) (take position bytes)
    (λ k low high passes.
    let below : k < position = omega (arith, length-take position bytes) in
    before k low below (ap (λ x. x == b) (sym (get_or-take position bytes k 0 below)) ∙ passes))

-- bytes are those before a position, the one there, and those after it
pub split_at_position : (b position : ℕ) (bytes : List ℕ) → position < length bytes → Passes (is_byte b) bytes position → bytes ≡ take position bytes ++ b ∷ take (length bytes - (position + 1)) (drop (position + 1) bytes)
split_at_position b position bytes within here =
    sym (take-append-drop position bytes)
    ∙ ap (λ xs. take position bytes ++ xs) (drop_more bytes position 0 within ∙ (λ i. eqb-true (get_or bytes position 0) b here i ∷ sym (take_rest bytes (position + 1)) i))
