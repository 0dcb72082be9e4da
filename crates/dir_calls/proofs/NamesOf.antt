-- A name after another was put or taken away.
use Rattle.std.proofs.Common.{◌≡◌, ◌≢◌, Bool, true, false, ℕ, List, Some, None, refl, sym, ◌∙◌, ap}
use Rattle.std.specs.Prelude.{cond}
use Rattle.std.specs.Cmp.{eq_by_cmp_equiv}
use Rattle.std.specs.Cmp.Lexicographic.{nat_list_cmp_total, texts_ties, told_text}
use Rattle.std.specs.FinMap.{get, insert, remove, get-insert, get-remove}
use Rattle.dir_calls.specs.NameTable.{Names, same_name}

pub same_name-self : (a : List ℕ) → same_name a a ≡ true
same_name-self a = (eq_by_cmp_equiv nat_list_cmp_total).refl a

pub same_name-other : (a b : List ℕ) → a ≢ b → same_name a b ≡ false
same_name-other a b other = by _ refl
  where
    by : (r : Bool) → r ≡ same_name a b → same_name a b ≡ false
    by true is = absurd (other (told_text a b true (is ∙ sym (texts_ties a b))))
    by false is = sym is

pub get-remove_other : (names : Names) (a b : List ℕ) → a ≢ b → get (remove names b) a ≡ get names a
get-remove_other names a b other = get-remove nat_list_cmp_total names b a ∙ ap (λ r. cond r None (get names a)) (same_name-other a b other)

pub get-remove_same : (names : Names) (a : List ℕ) → get (remove names a) a ≡ None
get-remove_same names a = get-remove nat_list_cmp_total names a a ∙ ap (λ r. cond r None (get names a)) (same_name-self a)

pub get-insert_same : (names : Names) (a : List ℕ) (number : ℕ) → get (insert names a number) a ≡ Some number
get-insert_same names a number = get-insert nat_list_cmp_total names a number a ∙ ap (λ r. cond r (Some number) (get names a)) (same_name-self a)

pub get-insert_other : (names : Names) (a b : List ℕ) (number : ℕ) → a ≢ b → get (insert names b number) a ≡ get names a
get-insert_other names a b number other = get-insert nat_list_cmp_total names b number a ∙ ap (λ r. cond r (Some number) (get names a)) (same_name-other a b other)
