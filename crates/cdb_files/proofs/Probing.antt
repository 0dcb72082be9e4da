-- The slots of a table in the order of a probe: the same slots, and which of them comes first.
use Rattle.std.proofs.Common.{◌≡◌, ℕ, ◌+◌, ◌*◌, ◌<◌, ◌≤◌, ◌==◌, ◌/◌, ◌%◌, Bool, true, false, cond, List, [], ◌∷◌, length, take, drop, get_or, All, Contains, Some, IfSome, find, filter, count_by, slice_get, inl, inr, refl, sym, ap, ap₂, ◌∙◌, arith}
use Rattle.std.specs.List.{IsAmong, position_or_len}
use Rattle.std.proofs.lemmas.Bool.{and_from, and_parts, both_ways, cases_Bool, cases_lt, cond-false, eq-eqb, eqb-true}
use Rattle.std.proofs.lemmas.List.{take-append-drop, length-append}
use Rattle.std.proofs.lemmas.List.Elements.{All-append, All-contains, All-head, All-tail, All-contains_itself, All-drop, All-filter, All-take}
use Rattle.std.proofs.lemmas.List.Folds.{find_at}
use Rattle.std.proofs.lemmas.List.FromFn.{length-map-range_with_len}
use Rattle.std.proofs.lemmas.List.Sums.{position_or_len_is, fails_before_first, sum_by-append, sum_by-cons}
use Rattle.std.proofs.lemmas.Option.{slice_get-get_or}
use Rattle.cdb_files.specs.Format.{two_numbers_at}
use Rattle.cdb_files.specs.Slots.{is_same, pointer_at, probe, probe_at, slots_at, table_of}

-- what is among the elements that pass is among all
pub Contains-from_filter : {X : Type 0} (p : X → Bool) (xs : List X) (x : X) → IsAmong (filter p xs) x → Contains xs x
Contains-from_filter p xs x (k, among) =
    All-contains (Contains xs) (filter p xs) x (All-filter p (Contains xs) xs (All-contains_itself xs)) (k, among.0, sym among.1)

-- a probe meets the slots of the table
pub All-probe : (P : ℕ × ℕ → Type 0) (hash : ℕ) (slots : List (ℕ × ℕ)) → All P slots → All P (probe hash slots)
All-probe P hash slots all =
    let first = hash / 256 % length slots in
    All-append P (drop first slots) (take first slots) (All-drop P first slots all) (All-take P first slots all)

-- each as often
pub count_by-probe : (p : ℕ × ℕ → Bool) (hash : ℕ) (slots : List (ℕ × ℕ)) → count_by p (probe hash slots) ≡ count_by p slots
count_by-probe p hash slots =
    let first = hash / 256 % length slots in
    let one : ℕ × ℕ → ℕ = λ (s : ℕ × ℕ). cond (p s) 1 0 in
    omega (arith, sum_by-append one (drop first slots) (take first slots), sym (sum_by-append one (take first slots) (drop first slots)) ∙ ap (count_by p) (take-append-drop first slots))

-- a probe of a file meets as many slots as the pointer of the table counts
pub length-probe_at : (file : List ℕ) (hash : ℕ) → length (probe_at file hash) ≡ (pointer_at file (table_of hash)).1
length-probe_at file hash =
    let pointer = pointer_at file (table_of hash) in
    let slots = slots_at file (table_of hash) in
    let first = hash / 256 % length slots in
    let parts : length (probe hash slots) ≡ length slots =
    omega (arith, length-append (drop first slots) (take first slots), sym (length-append (take first slots) (drop first slots)) ∙ ap length (take-append-drop first slots)) in
    parts ∙ length-map-range_with_len (λ i. two_numbers_at file (pointer.0 + 8 * i)) 0 pointer.1

-- what is counted has a first position
pub position-below : {X : Type 0} (p : X → Bool) (xs : List X) → 0 < count_by p xs → position_or_len p xs < length xs
position-below p [] counted = absurd (omega arith)
position-below p (x ∷ xs) counted =
    let one = sum_by-cons (λ y. cond (p y) 1 0) x xs in
    elim (cases_Bool (p x)) [
      | inl passes ↦ rw passes (omega arith)
      | inr fails ↦
          let none : cond {A = ℕ} (p x) 1 0 ≡ 0 = cond-false {A = ℕ} (p x) 1 0 fails in
          let later = position-below p xs (omega arith) in
          rw fails (omega arith)
    ]

-- and it is no later than what passes
pub position-le : {X : Type 0} (p : X → Bool) (xs : List X) (k : ℕ) (d : X) → p (get_or xs k d) ≡ true → position_or_len p xs ≤ k
position-le p xs k d passes = elim (cases_lt k (position_or_len p xs)) [
  | inl before ↦ absurd (both_ways (p (get_or xs k d)) (fails_before_first p xs k d before) passes)
  | inr at ↦ at
]

-- the first element that passes, by its position
pub find-first : {X : Type 0} (p : X → Bool) (xs : List X) (k : ℕ) (d : X) → k < length xs → ((j : ℕ) → j < k → p (get_or xs j d) ≡ false)
    → p (get_or xs k d) ≡ true → find p xs ≡ Some (get_or xs k d)
find-first p xs k d inside before here =
    let position : position_or_len p xs ≡ k = position_or_len_is p xs k d (omega arith) before (λ _. here) in
    find_at p xs ∙ ap (slice_get xs) position ∙ slice_get-get_or xs k d inside

-- and what holds of each that passes holds of it
pub IfSome-find : {X : Type 0} (p : X → Bool) (P : X → Type 0) (xs : List X) → All (λ x. p x ≡ true → P x) xs → IfSome (find p xs) P
IfSome-find p P [] all = tt
IfSome-find p P (x ∷ xs) all = elim (cases_Bool (p x)) [
  | inl passes ↦ rw passes (All-head (λ y. p y ≡ true → P y) x xs all passes)
  | inr fails ↦ rw fails (IfSome-find p P xs (All-tail (λ y. p y ≡ true → P y) x xs all))
]

-- a slot is the same as an entry
pub is_same-true : (e s : ℕ × ℕ) → is_same e s ≡ true → s ≡ e
is_same-true e s same =
    let parts = and_parts (s.0 == e.0) (s.1 == e.1) same in
    let hash = eqb-true s.0 e.0 parts.0 in
    let position = eqb-true s.1 e.1 parts.1 in
    ap₂ (λ (h k : ℕ). (h, k)) hash position

-- an entry is the same as itself
pub is_same-itself : (e : ℕ × ℕ) → is_same e e ≡ true
is_same-itself e = and_from (e.0 == e.0) (e.1 == e.1) (eq-eqb e.0 e.0 refl) (eq-eqb e.1 e.1 refl)
