-- Lists of entries as names.
use Rattle.std.proofs.Common.{◌≡◌, Bool, true, false, ℕ, List, [], ◌∷◌, ◌++◌, refl, sym, ◌∙◌, ap}
use Rattle.std.specs.Prelude.{◌||◌, cond, Option, None, Some}
use Rattle.std.specs.Ordering.{nat_cmp}
use Rattle.std.specs.Cmp.{eq_by_cmp_equiv}
use Rattle.std.specs.Cmp.Lexicographic.{slice_cmp, nat_list_cmp_total, same_text, texts_ties}
use Rattle.std.specs.FinMap.Entries.{find-append}
use Rattle.std.specs.FinMap.{find, get, insert, remove, from_entries, get-from_entries, get-insert, get-remove, same_map, slice_cmp-IsAntisymmetric, nat_cmp-IsAntisymmetric}
use Rattle.dir_calls.specs.NameTable.{Names, same_name}
use Rattle.dir_calls.specs.Pairs.{Pairs, others}
use Rattle.dir_calls.proofs.NamesOf.{same_name-self}

-- what stands first under a name
abbrev pub look : Pairs → List ℕ → Option ℕ
look [] q = None
look (e ∷ es) q = cond (same_name q e.0) (Some e.1) (look es q)

find_look : (es : Pairs) (q : List ℕ) → find (slice_cmp nat_cmp) q es ≡ look es q
find_look [] q = refl
find_look (e ∷ es) q = ap (cond (same_name q e.0) (Some e.1)) (find_look es q)

pub get_look : (es : Pairs) (q : List ℕ) → get (from_entries {R = slice_cmp nat_cmp} es) q ≡ look es q
get_look es q = get-from_entries nat_list_cmp_total es q ∙ find_look es q

look-append : (es : Pairs) (k : List ℕ) (v : ℕ) (q : List ℕ) → look es k ≡ None → look (es ++ (k, v) ∷ []) q ≡ cond (same_name q k) (Some v) (look es q)
look-append es k v q none = sym (find_look (es ++ (k, v) ∷ []) q) ∙ find-append (slice_cmp nat_cmp) nat_list_cmp_total es k v q (find_look es k ∙ none) ∙ ap (cond (same_name q k) (Some v)) (find_look es q)

-- names that tie are the same, so that one answer serves for both
pub same_is : (a b : List ℕ) → same_name a b ≡ true → a ≡ b
same_is a b e = same_text a b (sym e ∙ sym (texts_ties a b))

look-others : (a b : List ℕ) (es : Pairs) (q : List ℕ) → look (others a b es) q ≡ cond (same_name q a || same_name q b) None (look es q)
look-others a b [] q = nothing (same_name q a || same_name q b)
  where
    nothing : (r : Bool) → None ≡ cond {A = Option ℕ} r None None
    nothing true = refl
    nothing false = refl
look-others a b (e ∷ es) q = step (look-others a b es q) (same_name a e.0 || same_name b e.0) refl
  where
    swapped_at : (x y : List ℕ) → same_name x y ≡ same_name y x
    swapped_at x y = (eq_by_cmp_equiv nat_list_cmp_total).symm x y

    ends : same_name q e.0 ≡ true → (same_name q a || same_name q b) ≡ (same_name a e.0 || same_name b e.0)
    ends tie = ap (λ x. same_name x a || same_name x b) (same_is q e.0 tie) ∙ (λ i. swapped_at e.0 a i || swapped_at e.0 b i)

    passes : (c : Bool) → c ≡ same_name q e.0 → (same_name a e.0 || same_name b e.0) ≡ true → cond (same_name q a || same_name q b) None (look es q) ≡ cond (same_name q a || same_name q b) None (cond c (Some e.1) (look es q))
    passes true tie holds =
        let all : (same_name q a || same_name q b) ≡ true = ends (sym tie) ∙ holds in
        ap (λ t. cond t None (look es q)) all ∙ sym (ap (λ t. cond t None (Some e.1)) all)
    passes false tie holds = refl

    keeps : (c : Bool) → c ≡ same_name q e.0 → (same_name a e.0 || same_name b e.0) ≡ false → cond c (Some e.1) (cond (same_name q a || same_name q b) None (look es q)) ≡ cond (same_name q a || same_name q b) None (cond c (Some e.1) (look es q))
    keeps true tie fails =
        sym (ap (λ t. cond t None (Some e.1)) (ends (sym tie) ∙ fails))
    keeps false tie fails = refl

    step : look (others a b es) q ≡ cond (same_name q a || same_name q b) None (look es q) → (r : Bool) → r ≡ (same_name a e.0 || same_name b e.0) → look (cond r (others a b es) (e ∷ others a b es)) q ≡ cond (same_name q a || same_name q b) None (cond (same_name q e.0) (Some e.1) (look es q))
    step rest true is = rest ∙ passes (same_name q e.0) refl (sym is)
    step rest false is = ap (cond (same_name q e.0) (Some e.1)) rest ∙ keeps (same_name q e.0) refl (sym is)

or_true : (r : Bool) → (r || true) ≡ true
or_true true = refl
or_true false = refl

-- without a, and with this number at b
pub from_others : (a b : List ℕ) (n : ℕ) (es : Pairs) → from_entries {R = slice_cmp nat_cmp} (others a b es ++ (b, n) ∷ []) ≡ insert (remove (from_entries es) a) b n
from_others a b n es = same_map nat_list_cmp_total (slice_cmp-IsAntisymmetric nat_cmp-IsAntisymmetric) _ _ (λ q. get_look (others a b es ++ (b, n) ∷ []) q ∙ look-append (others a b es) b n q none
    ∙ ap (cond (same_name q b) (Some n)) (look-others a b es q) ∙ both q (same_name q b)
    ∙ sym (get-insert nat_list_cmp_total (remove (from_entries es) a) b n q ∙ ap (cond (same_name q b) (Some n)) (get-remove nat_list_cmp_total (from_entries es) a q ∙ ap (cond (same_name q a) None) (get_look es q))))
  where
    none : look (others a b es) b ≡ None
    none = look-others a b es b ∙ ap (λ r. cond r None (look es b)) (ap (λ r. same_name b a || r) (same_name-self b) ∙ or_true (same_name b a))

    both : (q : List ℕ) (r : Bool) → cond r (Some n) (cond (same_name q a || r) None (look es q)) ≡ cond r (Some n) (cond (same_name q a) None (look es q))
    both q true = refl
    both q false = ap (λ t. cond t None (look es q)) (or_false (same_name q a))
      where
        or_false : (t : Bool) → (t || false) ≡ t
        or_false true = refl
        or_false false = refl

pub others-push : (a b : List ℕ) (es : Pairs) (e : List ℕ × ℕ) → others a b (es ++ e ∷ []) ≡ others a b es ++ cond (same_name a e.0 || same_name b e.0) [] (e ∷ [])
others-push a b [] e = refl
others-push a b (x ∷ es) e = by (others-push a b es e) (same_name a x.0 || same_name b x.0)
  where
    by : others a b (es ++ e ∷ []) ≡ others a b es ++ cond (same_name a e.0 || same_name b e.0) [] (e ∷ []) → (r : Bool) → cond r (others a b (es ++ e ∷ [])) (x ∷ others a b (es ++ e ∷ [])) ≡ cond r (others a b es) (x ∷ others a b es) ++ cond (same_name a e.0 || same_name b e.0) [] (e ∷ [])
    by rest true = rest
    by rest false = ap (λ (l : Pairs). x ∷ l) rest

-- without a
pub from_others_one : (a : List ℕ) (es : Pairs) → from_entries {R = slice_cmp nat_cmp} (others a a es) ≡ remove (from_entries es) a
from_others_one a es = same_map nat_list_cmp_total (slice_cmp-IsAntisymmetric nat_cmp-IsAntisymmetric) _ _ (λ q. get_look (others a a es) q ∙ look-others a a es q ∙ twice (same_name q a) (look es q)
    ∙ sym (get-remove nat_list_cmp_total (from_entries es) a q ∙ ap (cond (same_name q a) None) (get_look es q)))
  where
    twice : (r : Bool) (o : Option ℕ) → cond (r || r) None o ≡ cond r None o
    twice true o = refl
    twice false o = refl

-- put where it was taken away
pub insert-remove : (names : Names) (a : List ℕ) (n : ℕ) → insert (remove names a) a n ≡ insert names a n
insert-remove names a n = same_map nat_list_cmp_total (slice_cmp-IsAntisymmetric nat_cmp-IsAntisymmetric) _ _ (λ q. get-insert nat_list_cmp_total (remove names a) a n q ∙ by q (same_name q a) refl ∙ sym (get-insert nat_list_cmp_total names a n q))
  where
    by : (q : List ℕ) (r : Bool) → r ≡ same_name q a → cond r (Some n) (get (remove names a) q) ≡ cond r (Some n) (get names q)
    by q true is = refl
    by q false is = get-remove nat_list_cmp_total names a q ∙ ap (λ t. cond t None (get names q)) (sym is)
