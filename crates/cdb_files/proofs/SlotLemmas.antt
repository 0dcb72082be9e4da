-- Where an entry is placed, and how many slots are left empty.
use Rattle.std.proofs.Common.{◌≡◌, ℕ, ◌+◌, ◌-◌, ◌*◌, ◌/◌, ◌%◌, ◌<◌, ◌≤◌, Bool, cond, not, eqb, List, [], ◌∷◌, ◌++◌, length, take, drop, get_or, ◌∙◌, ap, sym, inl, inr, arith, length-append, length-drop, length-take}
use Rattle.std.specs.List.{count_by, position_or_len}
use Rattle.std.proofs.Math.Nat.{div-add-mod, mod-lt, mod-eq_of_lt, mul-add-mod_self_left}
use Rattle.std.proofs.Math.Seq.{take-length}
use Rattle.std.proofs.lemmas.Bool.{cases_Bool, cond-false, cond-true, cond_both, eq-eqb, ne_eqb}
use Rattle.std.proofs.lemmas.List.{take-append-drop, take-append-le, take_all}
use Rattle.std.proofs.lemmas.List.Folds.{prefix_len-append}
use Rattle.std.proofs.lemmas.List.Sums.{count_by-le-length, prefix_len-le-length, sum_by-append, sum_by-cons, sum_by-set}
use Rattle.cdb_files.specs.Image.{free_slot, with_entry}
use Rattle.cdb_files.specs.Slots.{is_empty}

-- where some element passes, the first one is in the list
pub position_or_len-lt : {X : Type 0} (p : X → Bool) (xs : List X) → 0 < count_by p xs → position_or_len p xs < length xs
position_or_len-lt p [] some = absurd (omega (arith, some))
position_or_len-lt p (x ∷ xs) some =
    let counted : count_by p (x ∷ xs) ≡ cond (p x) 1 0 + count_by p xs = sum_by-cons (λ y. cond (p y) 1 0) x xs in
    elim (cases_Bool (p x)) [
      | inl e ↦ rw e (omega arith)
      | inr e ↦
          let rest : position_or_len p xs < length xs = position_or_len-lt p xs (omega (arith, some, counted, cond-false {A = ℕ} (p x) 1 0 e)) in
          rw e (omega (arith, rest))
    ]

pub position_or_len-le : {X : Type 0} (p : X → Bool) (xs : List X) → position_or_len p xs ≤ length xs
position_or_len-le p xs = prefix_len-le-length (λ x. not (p x)) xs

-- the first element that passes stands in the first part, or else where it stands in the second
pub position_or_len_first : {X : Type 0} (p : X → Bool) (xs ys : List X) → position_or_len p xs < length xs → position_or_len p (xs ++ ys) ≡ position_or_len p xs
position_or_len_first p xs ys within =
    prefix_len-append (λ x. not (p x)) xs ys ∙ cond-false (eqb (position_or_len p xs) (length xs)) _ _ (ne_eqb _ _ (λ e. omega (arith, within, e)))

pub position_or_len_second : {X : Type 0} (p : X → Bool) (xs ys : List X) → position_or_len p xs ≡ length xs → position_or_len p (xs ++ ys) ≡ length xs + position_or_len p ys
position_or_len_second p xs ys past =
    prefix_len-append (λ x. not (p x)) xs ys ∙ cond-true (eqb (position_or_len p xs) (length xs)) _ _ (eq-eqb _ _ past)

-- a position behind a remainder, with no turn and with one
pub mod-below : (q n a : ℕ) → q % n + a < n → (q + a) % n ≡ q % n + a
mod-below q n a within =
    let parts : q + a ≡ n * (q / n) + (q % n + a) = omega (arith, div-add-mod q n) in
    ap (λ x. x % n) parts ∙ mul-add-mod_self_left n (q / n) (q % n + a) ∙ mod-eq_of_lt within

pub mod-turned : (q n b : ℕ) → b < n → (q + ((n - q % n) + b)) % n ≡ b
mod-turned q n b within =
    let start : q % n < n = mod-lt q (omega arith) in
    let parts : q + ((n - q % n) + b) ≡ n * (q / n + 1) + b = omega (arith, div-add-mod q n) in
    ap (λ x. x % n) parts ∙ mul-add-mod_self_left n (q / n + 1) b ∙ mod-eq_of_lt within

-- a probe starts inside a table that is not empty
pub start-lt : (hash : ℕ) (slots : List (ℕ × ℕ)) → 0 < count_by is_empty slots → hash / 256 % length slots < length slots
start-lt hash slots some =
    let more : 0 < length slots = omega (arith, some, count_by-le-length is_empty slots) in mod-lt (hash / 256) more

-- the slot that is taken stands from the start of the probe on
free_slot_upward : (hash : ℕ) (slots : List (ℕ × ℕ)) (start : ℕ) → start ≡ hash / 256 % length slots → start + position_or_len is_empty (drop start slots) < length slots → free_slot hash slots ≡ start + position_or_len is_empty (drop start slots)
free_slot_upward hash slots start e within =
    let there : position_or_len is_empty (drop start slots) < length (drop start slots) = omega (arith, within, length-drop start slots) in
    let first : position_or_len is_empty (drop start slots ++ take start slots) ≡ position_or_len is_empty (drop start slots) = position_or_len_first is_empty (drop start slots) (take start slots) there in
    rw (← e, first) (mod-below (hash / 256) (length slots) _ (omega (arith, within, e)) ∙ omega (arith, e))

-- or else before it
free_slot_turned : (hash : ℕ) (slots : List (ℕ × ℕ)) (start : ℕ) → start ≡ hash / 256 % length slots → 0 < count_by is_empty slots → length slots ≤ start + position_or_len is_empty (drop start slots) → (free_slot hash slots ≡ position_or_len is_empty (take start slots)) × (position_or_len is_empty (take start slots) < length slots)
free_slot_turned hash slots start e some past =
    let within : start < length slots = rw e (start-lt hash slots some) in
    let all : position_or_len is_empty (drop start slots) ≡ length (drop start slots) = omega (arith, past, within, length-drop start slots, position_or_len-le is_empty (drop start slots)) in
    let second : position_or_len is_empty (drop start slots ++ take start slots) ≡ length (drop start slots) + position_or_len is_empty (take start slots) = position_or_len_second is_empty (drop start slots) (take start slots) all in
    let turned : count_by is_empty (drop start slots ++ take start slots) ≡ count_by is_empty (drop start slots) + count_by is_empty (take start slots) = sum_by-append _ (drop start slots) (take start slots) in
    let same : count_by is_empty (take start slots ++ drop start slots) ≡ count_by is_empty (take start slots) + count_by is_empty (drop start slots) = sum_by-append _ (take start slots) (drop start slots) in
    let whole : count_by is_empty (take start slots ++ drop start slots) ≡ count_by is_empty slots = ap (count_by is_empty) (take-append-drop start slots) in
    let found : position_or_len is_empty (drop start slots ++ take start slots) < length (drop start slots ++ take start slots) = position_or_len-lt is_empty (drop start slots ++ take start slots) (omega (arith, some, turned, same, whole)) in
    let before : position_or_len is_empty (take start slots) < start = omega (arith, found, second, length-append (drop start slots) (take start slots), length-take start slots) in
    let at : position_or_len is_empty (drop start slots ++ take start slots) ≡ (length slots - hash / 256 % length slots) + position_or_len is_empty (take start slots) = omega (arith, second, length-drop start slots, e) in
    (rw (← e, at) (mod-turned (hash / 256) (length slots) _ (omega (arith, before, within))), omega (arith, before, within))

-- the slice from the start on is all that follows
position_or_len-slice : (slots : List (ℕ × ℕ)) (start first : ℕ) → first ≡ position_or_len is_empty (take (length slots - start) (drop start slots)) → first ≡ position_or_len is_empty (drop start slots)
position_or_len-slice slots start first e =
    e ∙ ap (position_or_len is_empty) (take_all (length slots - start) (drop start slots) (omega (arith, length-drop start slots)))

pub first-le : (slots : List (ℕ × ℕ)) (start first : ℕ) → start ≤ length slots → first ≡ position_or_len is_empty (take (length slots - start) (drop start slots)) → start + first ≤ length slots
first-le slots start first within e =
    omega (arith, within, position_or_len-slice slots start first e, position_or_len-le is_empty (drop start slots), length-drop start slots)

-- the same two facts of what a search in each part gave
pub free_slot_found : (hash : ℕ) (slots : List (ℕ × ℕ)) (start first : ℕ) → start ≡ hash / 256 % length slots → first ≡ position_or_len is_empty (take (length slots - start) (drop start slots)) → start + first < length slots → free_slot hash slots ≡ start + first
free_slot_found hash slots start first e f within =
    let g : first ≡ position_or_len is_empty (drop start slots) = position_or_len-slice slots start first f in
    free_slot_upward hash slots start e (omega (arith, g, within)) ∙ omega (arith, g)

pub free_slot_found_before : (hash : ℕ) (slots : List (ℕ × ℕ)) (start first before : ℕ) → start ≡ hash / 256 % length slots → first ≡ position_or_len is_empty (take (length slots - start) (drop start slots)) → before ≡ position_or_len is_empty (take start slots) → 0 < count_by is_empty slots → length slots ≤ start + first → (free_slot hash slots ≡ before) × (before < length slots)
free_slot_found_before hash slots start first before e f b some past =
    let g : first ≡ position_or_len is_empty (drop start slots) = position_or_len-slice slots start first f in
    let turned : (free_slot hash slots ≡ position_or_len is_empty (take start slots)) × (position_or_len is_empty (take start slots) < length slots) = free_slot_turned hash slots start e some (omega (arith, g, past)) in
    (turned.0 ∙ sym b, omega (arith, b, turned.1))

-- what is placed takes one empty slot at most
pub count_by-with_entry : (slots : List (ℕ × ℕ)) (e : ℕ × ℕ) → 0 < count_by is_empty slots → count_by is_empty slots ≤ count_by is_empty (with_entry slots e) + 1
count_by-with_entry slots e some =
    let more : 0 < length slots = omega (arith, some, count_by-le-length is_empty slots) in
    let taken : count_by is_empty (with_entry slots e) + cond (is_empty (get_or slots (free_slot e.0 slots) e)) 1 0 ≡ count_by is_empty slots + cond (is_empty e) 1 0 = sum_by-set (λ s. cond (is_empty s) 1 0) slots (free_slot e.0 slots) e e (mod-lt _ more) in
    let least : cond (is_empty (get_or slots (free_slot e.0 slots) e)) 1 0 ≤ 1 = cond_both (is_empty (get_or slots (free_slot e.0 slots) e)) 1 0 (λ n. n ≤ 1) (λ _. omega arith) (λ _. omega arith) in
    omega (arith, taken, least)

-- a slice that covers a whole vector leaves what is written to it
pub take-whole : {X : Type 0} (n : ℕ) (new old : List X) → length new ≡ n → length old ≡ n → take n (new ++ drop (length new) old) ≡ new
take-whole n new old e f =
    take-append-le n new (drop (length new) old) (omega (arith, e)) ∙ rw (← e) (take-length new)
