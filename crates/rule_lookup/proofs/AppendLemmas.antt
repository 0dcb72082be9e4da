-- Texts that are added piece by piece.
use Rattle.std.proofs.Common.{◌≡◌, ℕ, ◌+◌, ◌<◌, List, [], ◌∷◌, ◌++◌, length, get_or, take, flat_map, sym, ap, ◌∙◌}
use Rattle.std.specs.Prelude.{Result, Ok, Err, OnOk, is_ok, if◌then◌else◌}
use Rattle.std.proofs.lemmas.List.{append_assoc, flat_map_more, take_more}

-- five pieces, one after another
pub append_five : (old a b c d e v1 v2 v3 v4 v5 : List ℕ) → v1 ≡ old ++ a → v2 ≡ v1 ++ b → v3 ≡ v2 ++ c → v4 ≡ v3 ++ d → v5 ≡ v4 ++ e → v5 ≡ old ++ (a ++ b ++ c ++ d ++ e)
append_five old a b c d e v1 v2 v3 v4 v5 e1 e2 e3 e4 e5 =
    let all : v5 ≡ ((((old ++ a) ++ b) ++ c) ++ d) ++ e = cc in all ∙ simp append_assoc

-- the text of one more item
pub append_more : {X : Type 0} (f : X → List ℕ) (xs : List X) (i : ℕ) (x : X) (old before now : List ℕ) → i < length xs → x ≡ get_or xs i x → before ≡ old ++ flat_map f (take i xs) → now ≡ before ++ f x → now ≡ old ++ flat_map f (take (i + 1) xs)
append_more f xs i x old before now inside at so_far added =
    added ∙ ap (λ (text : List ℕ). text ++ f x) so_far ∙ flat_map_more f old (take i xs) x
    ∙ ap (λ items. old ++ flat_map f items) (ap (λ y. take i xs ++ y ∷ []) at ∙ sym (take_more xs i x inside))

-- an addition that may fail leaves all of the text where it did not
pub on_ok_added : {T E : Type 0} (r : Result T E) (now all old : List ℕ) → now ≡ (if is_ok r then all else old) → OnOk r (now ≡ all)
on_ok_added (Ok done) now all old is = is
on_ok_added (Err fault) now all old is = tt
