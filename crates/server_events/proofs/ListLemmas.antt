-- Lists with one element more at the end, and filters.
use Rattle.std.proofs.Common.{◌≡◌, ℕ, ◌+◌, ◌-◌, ◌≤◌, List, [], ◌∷◌, ◌++◌, length, drop, Bool, true, false, ◌&&◌, ◌||◌, not, cond, refl, ap, ◌∙◌, arith}
use Rattle.std.specs.Prelude.{max}
use Rattle.std.specs.List.{after_last, suffix_len, prefix_len, list_any, filter}
use Rattle.std.proofs.lemmas.List.{reverse-append, length_push, drop_all, drop-append-le}
use Rattle.std.proofs.lemmas.List.Recursion.{or_push}
use Rattle.std.proofs.lemmas.List.Sums.{suffix_len-le-length}
use Rattle.server_events.specs.Reports.{greatest}

pub suffix_len-push : {X : Type 0} (p : X → Bool) (xs : List X) (x : X) → suffix_len p (xs ++ x ∷ []) ≡ cond (p x) (1 + suffix_len p xs) 0
suffix_len-push p xs x = ap (prefix_len p) (reverse-append xs (x ∷ []))

-- what stands after the last element that passes, where one element more comes
pub after_last-push : {X : Type 0} (p : X → Bool) (xs : List X) (x : X) → after_last p (xs ++ x ∷ []) ≡ cond (p x) [] (after_last p xs ++ x ∷ [])
after_last-push {X} p xs x =
    let fails = λ (y : X). not (p y) in
    let ys = xs ++ x ∷ [] in
    let s = suffix_len fails xs in
    let t = suffix_len fails ys in
    let at_end : t ≡ cond (not (p x)) (1 + s) 0 = suffix_len-push fails xs x in
    let long : length ys ≡ length xs + 1 = length_push xs x in
    let short : s ≤ length xs = suffix_len-le-length fails xs in
    elim (p x) as (λ b. p x ≡ b → after_last p ys ≡ cond b [] (after_last p xs ++ x ∷ [])) [
      | true ↦ λ e.
          let none : t ≡ 0 = at_end ∙ ap (λ b. cond (not b) (1 + s) 0) e in
          drop_all (length ys - t) ys (omega arith)
      | false ↦ λ e.
          let more : t ≡ 1 + s = at_end ∙ ap (λ b. cond (not b) (1 + s) 0) e in
          let same : length ys - t ≡ length xs - s = omega arith in
          ap (λ k. drop k ys) same ∙ drop-append-le (length xs - s) xs (x ∷ []) (omega arith)
    ] refl

pub list_any-push : {X : Type 0} (p : X → Bool) (xs : List X) (x : X) → list_any p (xs ++ x ∷ []) ≡ (list_any p xs || p x)
list_any-push p xs x = or_push (list_any p) p refl (λ _ _. refl) xs x

-- the greatest of some numbers and one more
pub greatest-push : (ns : List ℕ) (n : ℕ) → greatest (ns ++ n ∷ []) ≡ max n (greatest ns)
greatest-push [] n = refl
greatest-push (m ∷ ns) n = let rest = greatest-push ns n in omega arith

pub filter-filter : {X : Type 0} (p q : X → Bool) (xs : List X) → filter p (filter q xs) ≡ filter (λ x. q x && p x) xs
filter-filter p q [] = refl
filter-filter {X} p q (x ∷ xs) =
    let both = filter (λ y. q y && p y) xs in
    let rest = filter-filter p q xs in
    elim (q x) as (λ b. filter p (cond b (x ∷ filter q xs) (filter q xs)) ≡ cond (b && p x) (x ∷ both) both) [
      | true ↦ ap (λ (ys : List X). cond (p x) (x ∷ ys) ys) rest
      | false ↦ rest
    ]

-- a test that all pass keeps the list
pub filter-all : {X : Type 0} (p : X → Bool) → ((x : X) → p x ≡ true) → (xs : List X) → filter p xs ≡ xs
filter-all p all [] = refl
filter-all {X} p all (x ∷ xs) = rw (all x) (ap (λ (ys : List X). x ∷ ys) (filter-all p all xs))

pub or_false : (a b : Bool) → a ≡ false → b ≡ false → (a || b) ≡ false
or_false a b p q = ap (λ x. x || b) p ∙ q

pub or_keeps : (a b : Bool) → b ≡ false → (a || b) ≡ a
or_keeps true b q = refl
or_keeps false b q = q

pub or_true : (a b : Bool) → b ≡ true → (a || b) ≡ true
or_true true b q = refl
or_true false b q = q

pub not_or : (a b : Bool) → not (a || b) ≡ (not a && not b)
not_or true b = refl
not_or false b = refl
