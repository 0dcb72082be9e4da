-- What a stop may leave under one name.
use Rattle.std.proofs.Common.{◌≡◌, ◌≢◌, ◌⊎◌, inl, inr, ⊎_elim, Bool, true, false, ℕ, zero, suc, List, [], ◌∷◌, take, refl, sym, ◌∙◌, ap, subst}
use Rattle.std.specs.Prelude.{Option}
use Rattle.std.specs.FinMap.{get, insert, remove}
use Rattle.dir_calls.specs.NameTable.{NameChange, Names, NameTable, takes, puts, moves, after_change, after_changes, same_name}
use Rattle.dir_calls.specs.Lasting.{IsAmong}
use Rattle.dir_calls.specs.Torn.{MayStand, PutsThere, StoodThere}
use Rattle.dir_calls.proofs.NamesOf.{get-insert_other, get-insert_same, get-remove_other, get-remove_same, same_name-self}
use Rattle.dir_calls.proofs.Pairs.{same_is}

-- two names are one or not
compare : (a b : List ℕ) → (a ≡ b) ⊎ (a ≢ b)
compare a b = by (same_name a b) refl
  where
    by : (same : Bool) → same ≡ same_name a b → (a ≡ b) ⊎ (a ≢ b)
    by true is = inl (same_is a b (sym is))
    by false is = inr (λ same. differ (is ∙ ap (same_name a) (sym same) ∙ same_name-self a))
      where
        differ : false ≡ true → ⊥
        differ never = cc

-- a change puts something under a name, or leaves what stands there
changed : (c : NameChange) (names : Names) (name : List ℕ) → (get (after_change names c) name ≡ get names name) ⊎ PutsThere c name (get (after_change names c) name)
changed (takes other) names name =
    ⊎_elim (λ same. inr (same, ap (λ n. get (remove names other) n) (sym same) ∙ get-remove_same names other)) (λ differ. inl (get-remove_other names name other (λ is. differ (sym is)))) (compare other name)
changed (puts other n) names name =
    ⊎_elim (λ same. inr (same, ap (λ m. get (insert names other n) m) (sym same) ∙ get-insert_same names other n)) (λ differ. inl (get-insert_other names name other n (λ is. differ (sym is)))) (compare other name)
changed (moves from to n) names name =
    ⊎_elim (λ same. inr (inl (same, ap (λ m. get (insert (remove names from) to n) m) (sym same) ∙ get-insert_same (remove names from) to n)))
    (λ differ. ⊎_elim
    (λ same. inr (inr (same, differ, get-insert_other (remove names from) name to n (λ is. differ (sym is)) ∙ ap (λ m. get (remove names from) m) (sym same) ∙ get-remove_same names from)))
    (λ other. inl (get-insert_other (remove names from) name to n (λ is. differ (sym is)) ∙ get-remove_other names name from (λ is. other (sym is)))) (compare from name)) (compare to name)

-- what a change puts there stands there
put_there : (c : NameChange) (names : Names) (name : List ℕ) (number : Option ℕ) → PutsThere c name number → number ≡ get (after_change names c) name
put_there (takes other) names name number put = put.1 ∙ sym (get-remove_same names other) ∙ ap (λ m. get (remove names other) m) put.0
put_there (puts other n) names name number put = put.1 ∙ sym (get-insert_same names other n) ∙ ap (λ m. get (insert names other n) m) put.0
put_there (moves from to n) names name number (inl put) = put.1 ∙ sym (get-insert_same (remove names from) to n) ∙ ap (λ m. get (insert (remove names from) to n) m) put.0
put_there (moves from to n) names name number (inr put) =
    put.2 ∙ sym (get-remove_same names from) ∙ ap (λ m. get (remove names from) m) put.0 ∙ sym (get-insert_other (remove names from) name to n (λ is. put.1 (sym is)))

-- after some of the changes
stood : (changes : List NameChange) (count : ℕ) (names : Names) (name : List ℕ)
    → (get (after_changes names (take count changes)) name ≡ get names name) ⊎ ((c : NameChange) × IsAmong changes c × PutsThere c name (get (after_changes names (take count changes)) name))
stood changes zero names name = inl refl
stood [] (suc count) names name = inl refl
stood (c ∷ changes) (suc count) names name =
    ⊎_elim
    (λ same. ⊎_elim (λ kept. inl (same ∙ kept)) (λ put. inr (c, inl refl, subst (PutsThere c name) (sym same) put)) (changed c names name))
    (λ later. inr (later.0, inr later.1, later.2)) (stood changes count (after_change names c) name)

-- after those up to one
stands : (changes : List NameChange) (c : NameChange) (names : Names) (name : List ℕ) (number : Option ℕ) → IsAmong changes c → PutsThere c name number
    → (count : ℕ) × (number ≡ get (after_changes names (take count changes)) name)
stands [] c names name number among put = absurd among
stands (x ∷ changes) c names name number (inl is) put = (1, put_there x names name number (subst (λ (y : NameChange). PutsThere y name number) is put))
stands (x ∷ changes) c names name number (inr among) put = let later = stands changes c (after_change names x) name number among put in (suc later.0, later.1)

pub stood_may : (table : NameTable) (name : List ℕ) (number : Option ℕ) → StoodThere table name number → MayStand table name number
stood_may table name number left =
    let is : number ≡ get (after_changes table.settled (take left.1.count table.pending)) name = left.2 ∙ ap (λ (m : Names). get m name) left.1.are in
    ⊎_elim (λ same. inl (is ∙ same)) (λ put. inr (put.0, put.1, subst (PutsThere put.0 name) (sym is) put.2)) (stood table.pending left.1.count table.settled name)

pub may_stood : (table : NameTable) (name : List ℕ) (number : Option ℕ) → MayStand table name number → StoodThere table name number
may_stood table name number (inl is) = (table.settled, record { count = 0; are = refl }, is)
may_stood table name number (inr put) =
    let there = stands table.pending put.0 table.settled name number put.1 put.2 in
    (after_changes table.settled (take there.0 table.pending), record { count = there.0; are = refl }, there.1)
