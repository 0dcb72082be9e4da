-- Lines: a text cut at its first line feed, and a line trimmed at its end.
use Rattle.std.proofs.Common.{◌≡◌, ◌≢◌, ℕ, zero, suc, ◌+◌, ◌-◌, ◌<◌, true, false, cond, eqb, ◌&&◌, List, [], ◌∷◌, ◌++◌, length, take, drop, get_or, refl, sym, ap, ◌∙◌, arith, add-one}
use Rattle.std.proofs.lemmas.Bool.{eq-eqb, ne_eqb, eqb-true, and_right}
use Rattle.memchr.specs.Find.{NoneBefore, Nowhere, Passes, is_byte}
use Rattle.std.proofs.lemmas.List.{take_rest, drop_all, length_push, take_all, take_more}
use Rattle.std.proofs.Math.Nat.{sub-add_cancel}
use Rattle.rule_lookup.specs.Lines.{empty_line, onto_line, pieces_of, lines_of, is_blank, trimmed}

-- a separator at the front ends an empty piece
pieces_of-here : (s b : ℕ) (bs : List ℕ) → b ≡ s → pieces_of s (b ∷ bs) ≡ empty_line ∷ pieces_of s bs
pieces_of-here s b bs same = ap (λ t. cond t (empty_line ∷ pieces_of s bs) (onto_line b (pieces_of s bs))) (eq-eqb b s same)

-- another byte at the front belongs to the first piece
pieces_of-other : (s b : ℕ) (bs : List ℕ) → b ≢ s → pieces_of s (b ∷ bs) ≡ onto_line b (pieces_of s bs)
pieces_of-other s b bs other = ap (λ t. cond t (empty_line ∷ pieces_of s bs) (onto_line b (pieces_of s bs))) (ne_eqb b s other)

-- the first piece ends at the first separator
pub pieces_of-at : (s : ℕ) (bs : List ℕ) (k : ℕ) → k < length bs → ((i : ℕ) → i < k → get_or bs i 0 ≢ s) → get_or bs k 0 ≡ s → pieces_of s bs ≡ record { bytes = take k bs; ended = true } ∷ pieces_of s (drop (suc k) bs)
pieces_of-at s [] k inside before here = absurd (omega arith)
pieces_of-at s (b ∷ bs) zero inside before here = pieces_of-here s b bs here
pieces_of-at s (b ∷ bs) (suc k) inside before here =
    pieces_of-other s b bs (before 0 (omega arith)) ∙ ap (onto_line b) (pieces_of-at s bs k (omega arith) (λ i below. before (suc i) (omega arith)) here)

-- with no separator all is one piece
pub pieces_of-none : (s b : ℕ) (bs : List ℕ) → ((i : ℕ) → i < length (b ∷ bs) → get_or (b ∷ bs) i 0 ≢ s) → pieces_of s (b ∷ bs) ≡ record { bytes = b ∷ bs; ended = false } ∷ []
pieces_of-none s b [] none = pieces_of-other s b [] (none 0 (omega arith))
pieces_of-none s b (c ∷ bs) none =
    pieces_of-other s b (c ∷ bs) (none 0 (omega arith)) ∙ ap (onto_line b) (pieces_of-none s c bs (λ i below. none (suc i) (omega arith)))

-- blanks at the end fall away
pub trimmed-blank : (bs : List ℕ) (b : ℕ) → is_blank b ≡ true → trimmed (bs ++ b ∷ []) ≡ trimmed bs
trimmed-blank [] b blank = ap (λ t. cond (t && true) [] (b ∷ [])) blank
trimmed-blank (c ∷ bs) b blank = ap (λ rest. cond (is_blank c && eqb (length rest) 0) [] (c ∷ rest)) (trimmed-blank bs b blank)

-- a line that does not end in a blank stays
pub trimmed-other : (bs : List ℕ) (b : ℕ) → is_blank b ≡ false → trimmed (bs ++ b ∷ []) ≡ bs ++ b ∷ []
trimmed-other [] b other = ap (λ t. cond (t && true) [] (b ∷ [])) other
trimmed-other (c ∷ bs) b other =
    let rest : trimmed (bs ++ b ∷ []) ≡ bs ++ b ∷ [] = trimmed-other bs b other in
    let some : eqb (length (bs ++ b ∷ [])) 0 ≡ false = ne_eqb (length (bs ++ b ∷ [])) 0 (λ none. absurd (omega (arith, length_push bs b, none))) in
    ap (λ tail. cond (is_blank c && eqb (length tail) 0) [] (c ∷ tail)) rest
    ∙ ap (λ t. cond t [] (c ∷ bs ++ b ∷ [])) (ap (λ t. is_blank c && t) some ∙ and_right (is_blank c) false refl)

-- a line ends at the first line feed, where a search finds one
pub lines_of-at : (text : List ℕ) (k : ℕ) → NoneBefore (Passes (is_byte 10) text) 0 (length text) k × Passes (is_byte 10) text k → lines_of text ≡ record { bytes = take k text; ended = true } ∷ lines_of (take (length text - (k + 1)) (drop (k + 1) text))
lines_of-at text k found =
    pieces_of-at 10 text k found.0.high (λ i below here. found.0.before i (omega arith) below (eq-eqb _ _ here)) (eqb-true _ _ found.1)
    ∙ ap (λ rest. record { bytes = take k text; ended = true } ∷ lines_of rest) (ap (λ n. drop n text) (sym (add-one k)) ∙ sym (take_rest text (k + 1)))

-- a text without a line feed is one line
pub lines_of-none : (text : List ℕ) → 0 < length text → Nowhere (Passes (is_byte 10) text) 0 (length text) → lines_of text ≡ record { bytes = text; ended = false } ∷ lines_of (take (length text - length text) (drop (length text) text))
lines_of-none [] some none = absurd (omega arith)
lines_of-none (b ∷ bs) some none =
    pieces_of-none 10 b bs (λ i below here. none i (omega arith) below (eq-eqb _ _ here))
    ∙ ap (λ rest. record { bytes = b ∷ bs; ended = false } ∷ lines_of rest) (sym (take_rest (b ∷ bs) (length (b ∷ bs)) ∙ drop_all (length (b ∷ bs)) (b ∷ bs) (omega arith)))

-- a line is what stands before its last byte, and that byte
before_last_byte : (bs : List ℕ) → 0 < length bs → bs ≡ take (length bs - 1) bs ++ get_or bs (length bs - 1) 0 ∷ []
before_last_byte bs some =
    sym (take_all (length bs) bs (omega arith)) ∙ ap (λ n. take n bs) (sym (sub-add_cancel (omega arith))) ∙ take_more bs (length bs - 1) 0 (omega arith)

-- a line that ends in a blank is trimmed like the same line without it
pub trimmed_shorter : (bs : List ℕ) → 0 < length bs → is_blank (get_or bs (length bs - 1) 0) ≡ true → trimmed (take (length bs - 1) bs) ≡ trimmed bs
trimmed_shorter bs some blank = sym (ap trimmed (before_last_byte bs some) ∙ trimmed-blank (take (length bs - 1) bs) (get_or bs (length bs - 1) 0) blank)

-- a line that ends in no blank is trimmed already
pub trimmed_same : (bs : List ℕ) → 0 < length bs → is_blank (get_or bs (length bs - 1) 0) ≡ false → bs ≡ trimmed bs
trimmed_same bs some other =
    let whole = before_last_byte bs some in
    whole ∙ sym (ap trimmed whole ∙ trimmed-other (take (length bs - 1) bs) (get_or bs (length bs - 1) 0) other)
