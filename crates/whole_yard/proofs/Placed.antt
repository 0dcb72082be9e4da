-- As many elements as a list has, each at a position of its own in it, are the list in another order.
use Rattle.std.proofs.Common.{◌≡◌, ◌≢◌, ◌<◌, ℕ, zero, suc, List, [], ◌∷◌, length, map, refl, ap, subst, arith}
use Rattle.std.specs.Prelude.{⊤, Some, slice_get, IsPermutation}
use Rattle.std.proofs.lemmas.Option.{none-some, same_Some}
use Rattle.std.proofs.lemmas.List.Sorted.{IsPermutation-refl, IsPermutation-cons, IsPermutation-middle, IsPermutation-trans}

-- a list without the element at a position
abbrev pub without_at : {X : Type 0} → ℕ → List X → List X
without_at n [] = []
without_at zero (x ∷ xs) = xs
without_at (suc n) (x ∷ xs) = x ∷ without_at n xs

-- where what stood at the second position stands, once the first is taken out
abbrev pub past : ℕ → ℕ → ℕ
past zero zero = zero
past zero (suc m) = m
past (suc n) zero = zero
past (suc n) (suc m) = suc (past n m)

-- none of these has this position
abbrev pub Apart : {R : Type 0} → (R → ℕ) → ℕ → List R → Type 0
Apart position n [] = ⊤
Apart position n (r ∷ rs) = (position r ≢ n) × Apart position n rs

-- each has an element of the list, at a position of its own
abbrev pub Placed : {R X : Type 0} → (R → ℕ) → (R → X) → List X → List R → Type 0
Placed position element xs [] = ⊤
Placed position element xs (r ∷ rs) = (slice_get xs (position r) ≡ Some (element r)) × Apart position (position r) rs × Placed position element xs rs

get_past : {X : Type 0} (n m : ℕ) (xs : List X) (y : X) → m ≢ n → slice_get xs m ≡ Some y → slice_get (without_at n xs) (past n m) ≡ Some y
get_past n m [] y other is = absurd (none-some y is)
get_past zero zero (x ∷ xs) y other is = absurd (other refl)
get_past zero (suc m) (x ∷ xs) y other is = is
get_past (suc n) zero (x ∷ xs) y other is = is
get_past (suc n) (suc m) (x ∷ xs) y other is = get_past n m xs y (λ same. other (ap suc same)) is

past_apart : (n m k : ℕ) → m ≢ n → k ≢ n → m ≢ k → past n m ≢ past n k
past_apart zero zero k m_not k_not apart same = m_not refl
past_apart zero (suc m) zero m_not k_not apart same = k_not refl
past_apart zero (suc m) (suc k) m_not k_not apart same = apart (ap suc same)
past_apart (suc n) zero zero m_not k_not apart same = apart refl
past_apart (suc n) zero (suc k) m_not k_not apart same = omega (arith, same)
past_apart (suc n) (suc m) zero m_not k_not apart same = omega (arith, same)
past_apart (suc n) (suc m) (suc k) m_not k_not apart same =
    past_apart n m k (λ e. m_not (ap suc e)) (λ e. k_not (ap suc e)) (λ e. apart (ap suc e)) (omega (arith, same))

length-without_at : {X : Type 0} (n : ℕ) (xs : List X) (y : X) → slice_get xs n ≡ Some y → suc (length (without_at n xs)) ≡ length xs
length-without_at n [] y is = absurd (none-some y is)
length-without_at zero (x ∷ xs) y is = refl
length-without_at (suc n) (x ∷ xs) y is = ap suc (length-without_at n xs y is)

-- what was taken out is put in front
taken_first : {X : Type 0} (n : ℕ) (xs : List X) (y : X) → slice_get xs n ≡ Some y → IsPermutation (y ∷ without_at n xs) xs
taken_first n [] y is = absurd (none-some y is)
taken_first zero (x ∷ xs) y is = subst (λ z. IsPermutation (z ∷ xs) (x ∷ xs)) (same_Some x y is) (IsPermutation-refl (x ∷ xs))
taken_first (suc n) (x ∷ xs) y is =
    IsPermutation-trans (y ∷ x ∷ without_at n xs) (x ∷ y ∷ without_at n xs) (x ∷ xs)
    (IsPermutation-middle (y ∷ []) x (without_at n xs))
    (IsPermutation-cons x (y ∷ without_at n xs) xs (taken_first n xs y is))

apart_past : {R : Type 0} (position : R → ℕ) (n k : ℕ) (rs : List R) → k ≢ n → Apart position n rs → Apart position k rs → Apart (λ r. past n (position r)) (past n k) rs
apart_past position n k [] other away apart = tt
apart_past position n k (r ∷ rs) other away apart =
    (past_apart n (position r) k away.0 other apart.0, apart_past position n k rs other away.1 apart.1)

placed_past : {R X : Type 0} (position : R → ℕ) (element : R → X) (n : ℕ) (xs : List X) (rs : List R)
    → Apart position n rs → Placed position element xs rs → Placed (λ r. past n (position r)) element (without_at n xs) rs
placed_past position element n xs [] away placed = tt
placed_past position element n xs (r ∷ rs) away placed = (
  get_past n (position r) xs (element r) away.0 placed.0,
  apart_past position n (position r) rs away.0 away.1 placed.1,
  placed_past position element n xs rs away.1 placed.2,
)

pub all_placed : {R X : Type 0} (position : R → ℕ) (element : R → X) (xs : List X) (rs : List R)
    → Placed position element xs rs → length rs ≡ length xs → IsPermutation (map element rs) xs
all_placed position element [] [] placed as_many = IsPermutation-refl []
all_placed position element (x ∷ xs) [] placed as_many = absurd (omega (arith, as_many))
all_placed position element xs (r ∷ rs) placed as_many =
    let n = position r in
    let rest = all_placed (λ s. past n (position s)) element (without_at n xs) rs (placed_past position element n xs rs placed.1 placed.2)
    (omega (arith, as_many, length-without_at n xs (element r) placed.0)) in
    IsPermutation-trans (element r ∷ map element rs) (element r ∷ without_at n xs) xs
    (IsPermutation-cons (element r) (map element rs) (without_at n xs) rest)
    (taken_first n xs (element r) placed.0)

-- the same facts from those of each position in the list
apart_from : {R : Type 0} (position : R → ℕ) (n : ℕ) (rs : List R) → ((i : ℕ) (s : R) → slice_get rs i ≡ Some s → position s ≢ n) → Apart position n rs
apart_from position n [] each = tt
apart_from position n (r ∷ rs) each = (each zero r refl, apart_from position n rs (λ i s is. each (suc i) s is))

pub placed_from : {R X : Type 0} (position : R → ℕ) (element : R → X) (xs : List X) (rs : List R)
    → ((i : ℕ) (r : R) → slice_get rs i ≡ Some r → slice_get xs (position r) ≡ Some (element r))
    → ((i j : ℕ) (r s : R) → i < j → slice_get rs i ≡ Some r → slice_get rs j ≡ Some s → position s ≢ position r)
    → Placed position element xs rs
placed_from position element xs [] each apart = tt
placed_from position element xs (r ∷ rs) each apart = (
  each zero r refl,
  apart_from position (position r) rs (λ i s is. apart zero (suc i) r s (omega arith) refl is),
  placed_from position element xs rs (λ i s is. each (suc i) s is) (λ i j s t below is that. apart (suc i) (suc j) s t (omega (arith, below)) is that),
)
