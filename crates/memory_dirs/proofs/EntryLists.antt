-- Steps of loops over entries.
use Rattle.std.proofs.Common.{◌≡◌, Bool, true, false, ℕ, ◌+◌, ◌<◌, List, [], ◌∷◌, ◌++◌, length, get_or, take, drop, refl, sym, ◌∙◌, ap}
use Rattle.std.proofs.lemmas.List.{drop_more, take_more, map-append, append-nil}
use Rattle.std.specs.Prelude.{◌||◌, not, cond, map, Some}
use Rattle.memory_dirs.specs.declared.entries.Entry.{Entry}
use Rattle.dir_calls.specs.NameTable.{same_name}
use Rattle.dir_calls.specs.Pairs.{others}
use Rattle.memory_dirs.specs.Entries.{pair_of}
use Rattle.dir_calls.proofs.Pairs.{look, others-push}

pub look_more : (names : List Entry) (i : ℕ) (e : Entry) (name : List ℕ) → i < length names → e ≡ get_or names i e
    → look (map pair_of (drop i names)) name ≡ cond (same_name name e.name.items) (Some e.number) (look (map pair_of (drop (i + 1) names)) name)
look_more names i e name lt is = ap (λ (l : List Entry). look (map pair_of l) name) (drop_more names i e lt ∙ ap (λ (x : Entry). x ∷ drop (i + 1) names) (sym is))

pub others_more : (a b : List ℕ) (names : List Entry) (i : ℕ) (e : Entry) → i < length names → e ≡ get_or names i e
    → others a b (map pair_of (take (i + 1) names)) ≡ others a b (map pair_of (take i names)) ++ cond (same_name a e.name.items || same_name b e.name.items) [] (pair_of e ∷ [])
others_more a b names i e lt is =
    ap (λ (l : List Entry). others a b (map pair_of l)) (take_more names i e lt ∙ ap (λ (x : Entry). take i names ++ x ∷ []) (sym is))
    ∙ ap (others a b) (map-append pair_of (take i names) (e ∷ [])) ∙ others-push a b (map pair_of (take i names)) (pair_of e)

-- one more entry is kept or skipped
pub others_kept : (a b : List ℕ) (names kept : List Entry) (i : ℕ) (e copy : Entry) → i < length names → e ≡ get_or names i e → pair_of copy ≡ pair_of e → map pair_of kept ≡ others a b (map pair_of (take i names))
    → not (same_name a e.name.items || same_name b e.name.items) ≡ true → map pair_of (kept ++ copy ∷ []) ≡ others a b (map pair_of (take (i + 1) names))
others_kept a b names kept i e copy lt is same so_far other =
    map-append pair_of kept (copy ∷ []) ∙ (λ j. so_far j ++ same j ∷ [])
    ∙ sym (others_more a b names i e lt is ∙ ap (λ t. others a b (map pair_of (take i names)) ++ cond t [] (pair_of e ∷ [])) (flipped _ other))
  where
    flipped : (t : Bool) → not t ≡ true → t ≡ false
    flipped true e = sym e
    flipped false e = refl

pub others_skipped : (a b : List ℕ) (names kept : List Entry) (i : ℕ) (e : Entry) → i < length names → e ≡ get_or names i e → map pair_of kept ≡ others a b (map pair_of (take i names))
    → not (same_name a e.name.items || same_name b e.name.items) ≡ false → map pair_of kept ≡ others a b (map pair_of (take (i + 1) names))
others_skipped a b names kept i e lt is so_far other =
    so_far ∙ sym (others_more a b names i e lt is ∙ ap (λ t. others a b (map pair_of (take i names)) ++ cond t [] (pair_of e ∷ [])) (flipped _ other) ∙ append-nil _)
  where
    flipped : (t : Bool) → not t ≡ false → t ≡ true
    flipped true e = refl
    flipped false e = sym e
