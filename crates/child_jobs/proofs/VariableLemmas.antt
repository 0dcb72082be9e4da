-- Variables in order: the position of a name, and what is done there.
use Rattle.std.proofs.Common.{◌≡◌, ℕ, zero, suc, ◌+◌, ◌<◌, ◌≤◌, List, [], ◌∷◌, length, drop, get_or, set, slice_get, drop-cons, add-one, Bor, Bool, true, false, cond, map, Some, None, Option, option_map, refl, sym, ap, ◌∙◌, subst, bytes_eq, arith}
use Rattle.std.specs.Prelude.{find}
use Rattle.std.specs.Arc.{arc_value}
use Rattle.std.specs.Cmp.Lexicographic.{slice_cmp, nat_list_cmp_total}
use Rattle.std.specs.List.{AllByRecursion, AllZip, fold, insert, prefix_len, remove}
use Rattle.std.specs.List.Sorted.{IsPartitionedBy, IsPartitionPoint, IsStrictlySortedBy}
use Rattle.std.specs.Map.{keys_of}
use Rattle.std.specs.Ordering.{is_eq, is_lt, match_ordering, nat_cmp, ordering_reverse}
use Rattle.std.specs.declared.alloc.Global.{Global}
use Rattle.std.specs.declared.cmp.Ordering.{Ordering}
use Rattle.std.specs.declared.cmp.Ordering.TheVariants.{Less, Equal, Greater}
use Rattle.std.specs.declared.sync.Arc.{Arc}
use Rattle.std.proofs.lemmas.List.Sums.{prefix_len_is, prefix_len-le-length}
use Rattle.std.proofs.lemmas.Map.Text.{is_eq-slice_cmp}
use Rattle.std.proofs.lemmas.Slice.Eq.{bytes_eq-Decides}
use Rattle.child_jobs.specs.Variables.{AreOrdered, Variable, Variables, is_below, is_named, position_of, value_at, value_of, variables_in, with_value, without_value}

-- how two names compare
abbrev pub names_cmp : List ℕ → List ℕ → Ordering
names_cmp = slice_cmp nat_cmp

-- the other way round
turned : (a b : List ℕ) (o : Ordering) → names_cmp a b ≡ o → names_cmp b a ≡ ordering_reverse o
turned a b o is = nat_list_cmp_total.antisymm b a ∙ ap ordering_reverse is

-- names that compare as different are different
apart : (a b : List ℕ) (o : Ordering) → names_cmp a b ≡ o → bytes_eq a b ≡ is_eq o
apart a b o is = sym (is_eq-slice_cmp a b) ∙ ap is_eq is

alike : (a b : List ℕ) → names_cmp a b ≡ Equal → a ≡ b
alike a b is = (bytes_eq-Decides a b).0 (apart a b Equal is)

lt_less : (o : Ordering) → is_lt o ≡ true → o ≡ Less
lt_less Less h = refl
lt_less Equal h = cc
lt_less Greater h = cc

one_more : (n : ℕ) → suc n ≡ 1 + n
one_more n = omega arith

-- no variables are in order; of those that are, the first is before the others, and they are in order
pub none-ordered : AreOrdered []
unfolding IsStrictlySortedBy
none-ordered = tt

ordered_first : (v : Variable) (vars : Variables) → AreOrdered (v ∷ vars) → AllByRecursion (λ y. names_cmp v.0 y ≡ Less) (keys_of vars)
unfolding IsStrictlySortedBy
ordered_first v vars h = h.0

ordered_rest : (v : Variable) (vars : Variables) → AreOrdered (v ∷ vars) → AreOrdered vars
unfolding IsStrictlySortedBy
ordered_rest v vars h = h.1

ordered_more : (v : Variable) (vars : Variables) → AllByRecursion (λ y. names_cmp v.0 y ≡ Less) (keys_of vars) → AreOrdered vars → AreOrdered (v ∷ vars)
unfolding IsStrictlySortedBy
ordered_more v vars first rest = (first, rest)

-- each answer of a comparison
by_ordering : {P : Type 0} (r : Ordering) → (r ≡ Less → P) → (r ≡ Equal → P) → (r ≡ Greater → P) → P
by_ordering Less a b c = a refl
by_ordering Equal a b c = b refl
by_ordering Greater a b c = c refl

module _ (name value : List ℕ) where
  -- a value is put at the position of its name: over the one that has it, or between those below and those above
  abbrev pub put_at : Variables → ℕ → Variables
  put_at vars position = cond (is_named name (slice_get vars position)) (set vars position (name, value)) (insert vars position (name, value))

  pub with_value-at : (vars : Variables) → with_value vars name value ≡ put_at vars (position_of vars name)
  with_value-at [] = refl
  with_value-at (v ∷ vars) = by_ordering (names_cmp v.0 name) (less (with_value-at vars)) same more where
    whole : Ordering → Variables
    whole o = match_ordering o ((name, value) ∷ v ∷ vars) ((v.0, value) ∷ vars) (v ∷ with_value vars name value)

    there : Ordering → Variables
    there o = put_at (v ∷ vars) (cond (is_lt o) (1 + position_of vars name) 0)

    next : (b : Bool) → v ∷ cond b (set vars (position_of vars name) (name, value)) (insert vars (position_of vars name) (name, value)) ≡ cond b (set (v ∷ vars) (suc (position_of vars name)) (name, value)) (insert (v ∷ vars) (suc (position_of vars name)) (name, value))
    next true = refl
    next false = refl

    less : with_value vars name value ≡ put_at vars (position_of vars name) → names_cmp v.0 name ≡ Less → whole (names_cmp name v.0) ≡ there (names_cmp v.0 name)
    less rest is =
        ap whole (turned v.0 name Less is)
        ∙ ap (λ (vs : Variables). v ∷ vs) rest
        ∙ next (is_named name (slice_get vars (position_of vars name)))
        ∙ ap (put_at (v ∷ vars)) (one_more (position_of vars name))
        ∙ sym (ap there is)

    same : names_cmp v.0 name ≡ Equal → whole (names_cmp name v.0) ≡ there (names_cmp v.0 name)
    same is =
        ap whole (turned v.0 name Equal is)
        ∙ ap (λ (n : List ℕ). (n, value) ∷ vars) (alike v.0 name is)
        ∙ sym (ap (λ b. cond b ((name, value) ∷ vars) ((name, value) ∷ v ∷ vars)) (apart v.0 name Equal is))
        ∙ sym (ap there is)

    more : names_cmp v.0 name ≡ Greater → whole (names_cmp name v.0) ≡ there (names_cmp v.0 name)
    more is =
        ap whole (turned v.0 name Greater is)
        ∙ sym (ap (λ b. cond b ((name, value) ∷ vars) ((name, value) ∷ v ∷ vars)) (apart v.0 name Greater is))
        ∙ sym (ap there is)

-- a name below all others is below the rest
below_rest : (a b : List ℕ) (names : List (List ℕ)) → names_cmp a b ≡ Less → AllByRecursion (λ y. names_cmp b y ≡ Less) names → AllByRecursion (λ y. names_cmp a y ≡ Less) names
below_rest a b [] less all = tt
below_rest a b (n ∷ names) less all = (nat_list_cmp_total.trans a b n less all.0, below_rest a b names less all.1)

-- the order stays when a value is put
above_put : (k name value : List ℕ) (vars : Variables) → names_cmp k name ≡ Less → AllByRecursion (λ y. names_cmp k y ≡ Less) (keys_of vars) → AllByRecursion (λ y. names_cmp k y ≡ Less) (keys_of (with_value vars name value))
above_put k name value [] less all = (less, tt)
above_put k name value (v ∷ vars) less all = by (above_put k name value vars less all.1) (names_cmp name v.0) where
  by : AllByRecursion (λ y. names_cmp k y ≡ Less) (keys_of (with_value vars name value)) → (o : Ordering) → AllByRecursion (λ y. names_cmp k y ≡ Less) (keys_of (match_ordering o ((name, value) ∷ v ∷ vars) ((v.0, value) ∷ vars) (v ∷ with_value vars name value)))
  by rest Less = (less, all)
  by rest Equal = all
  by rest Greater = (all.0, rest)

pub put-ordered : (name value : List ℕ) (vars : Variables) → AreOrdered vars → AreOrdered (with_value vars name value)
put-ordered name value [] h = ordered_more (name, value) [] tt h
put-ordered name value (v ∷ vars) h = by_ordering (names_cmp name v.0)
    (λ is. subst (λ o. AreOrdered (of_order o)) (sym is) (ordered_more (name, value) (v ∷ vars) (is, below_rest name v.0 (keys_of vars) is (ordered_first v vars h)) h))
    (λ is. subst (λ o. AreOrdered (of_order o)) (sym is) (ordered_more (v.0, value) vars (ordered_first v vars h) (ordered_rest v vars h)))
    (λ is. subst (λ o. AreOrdered (of_order o)) (sym is) (ordered_more v (with_value vars name value) (above_put v.0 name value vars (turned name v.0 Greater is) (ordered_first v vars h)) (put-ordered name value vars (ordered_rest v vars h))))
  where
    of_order : Ordering → Variables
    of_order o = match_ordering o ((name, value) ∷ v ∷ vars) ((v.0, value) ∷ vars) (v ∷ with_value vars name value)

-- a name that stands before all of them is none of theirs
module _ (name : List ℕ) where
  not_named : (k : List ℕ) → names_cmp name k ≡ Less → bytes_eq k name ≡ false
  not_named k less = apart k name Greater (turned name k Less less)

  pub without-none : (vars : Variables) → AllByRecursion (λ y. names_cmp name y ≡ Less) (keys_of vars) → without_value vars name ≡ vars
  without-none [] all = refl
  without-none (v ∷ vars) all =
      ap (λ b. cond b vars (v ∷ without_value vars name)) (not_named v.0 all.0) ∙ ap (λ (vs : Variables). v ∷ vs) (without-none vars all.1)

  pub value-none : (vars : Variables) → AllByRecursion (λ y. names_cmp name y ≡ Less) (keys_of vars) → value_of vars name ≡ None
  value-none [] all = refl
  value-none (v ∷ vars) all =
      ap (λ b. option_map (λ (v : Variable). v.1) (cond b (Some v) (find (λ (v : Variable). bytes_eq v.0 name) vars))) (not_named v.0 all.0) ∙ value-none vars all.1

  -- it is taken away from its position, if it is there
  abbrev pub removed_at : Variables → ℕ → Variables
  removed_at vars position = cond (is_named name (slice_get vars position)) (remove vars position) vars

  pub without_value-at : (vars : Variables) → AreOrdered vars → without_value vars name ≡ removed_at vars (position_of vars name)
  without_value-at [] h = refl
  without_value-at (v ∷ vars) h = by_ordering (names_cmp v.0 name) (less (without_value-at vars (ordered_rest v vars h))) same more where
    there : Ordering → Variables
    there o = removed_at (v ∷ vars) (cond (is_lt o) (1 + position_of vars name) 0)

    whole : Bool → Variables
    whole b = cond b vars (v ∷ without_value vars name)

    next : (b : Bool) → v ∷ cond b (remove vars (position_of vars name)) vars ≡ cond b (remove (v ∷ vars) (suc (position_of vars name))) (v ∷ vars)
    next true = refl
    next false = refl

    less : without_value vars name ≡ removed_at vars (position_of vars name) → names_cmp v.0 name ≡ Less → whole (bytes_eq v.0 name) ≡ there (names_cmp v.0 name)
    less rest is =
        ap whole (apart v.0 name Less is)
        ∙ ap (λ (vs : Variables). v ∷ vs) rest
        ∙ next (is_named name (slice_get vars (position_of vars name)))
        ∙ ap (removed_at (v ∷ vars)) (one_more (position_of vars name))
        ∙ sym (ap there is)

    same : names_cmp v.0 name ≡ Equal → whole (bytes_eq v.0 name) ≡ there (names_cmp v.0 name)
    same is = ap whole (apart v.0 name Equal is) ∙ sym (ap (λ b. cond b vars (v ∷ vars)) (apart v.0 name Equal is)) ∙ sym (ap there is)

    more : names_cmp v.0 name ≡ Greater → whole (bytes_eq v.0 name) ≡ there (names_cmp v.0 name)
    more is =
        ap whole (apart v.0 name Greater is)
        ∙ ap (λ (vs : Variables). v ∷ vs) (without-none vars (below_rest name v.0 (keys_of vars) (turned v.0 name Greater is) (ordered_first v vars h)))
        ∙ sym (ap (λ b. cond b vars (v ∷ vars)) (apart v.0 name Greater is))
        ∙ sym (ap there is)

  -- so is its value
  pub value_of-at : (vars : Variables) → AreOrdered vars → value_of vars name ≡ value_at name (slice_get vars (position_of vars name))
  value_of-at [] h = refl
  value_of-at (v ∷ vars) h = by_ordering (names_cmp v.0 name) (less (value_of-at vars (ordered_rest v vars h))) same more where
    there : Ordering → Option (List ℕ)
    there o = value_at name (slice_get (v ∷ vars) (cond (is_lt o) (1 + position_of vars name) 0))

    whole : Bool → Option (List ℕ)
    whole b = option_map (λ (v : Variable). v.1) (cond b (Some v) (find (λ (v : Variable). bytes_eq v.0 name) vars))

    less : value_of vars name ≡ value_at name (slice_get vars (position_of vars name)) → names_cmp v.0 name ≡ Less → whole (bytes_eq v.0 name) ≡ there (names_cmp v.0 name)
    less rest is =
        ap whole (apart v.0 name Less is)
        ∙ rest
        ∙ ap (λ n. value_at name (slice_get (v ∷ vars) n)) (one_more (position_of vars name))
        ∙ sym (ap there is)

    same : names_cmp v.0 name ≡ Equal → whole (bytes_eq v.0 name) ≡ there (names_cmp v.0 name)
    same is = ap whole (apart v.0 name Equal is) ∙ sym (ap (λ b. cond b (Some v.1) None) (apart v.0 name Equal is)) ∙ sym (ap there is)

    more : names_cmp v.0 name ≡ Greater → whole (bytes_eq v.0 name) ≡ there (names_cmp v.0 name)
    more is =
        ap whole (apart v.0 name Greater is)
        ∙ value-none vars (below_rest name v.0 (keys_of vars) (turned v.0 name Greater is) (ordered_first v vars h))
        ∙ sym (ap (λ b. cond b (Some v.1) None) (apart v.0 name Greater is))
        ∙ sym (ap there is)

  -- the order stays when it is taken away
  above_removed : (k : List ℕ) (vars : Variables) → AllByRecursion (λ y. names_cmp k y ≡ Less) (keys_of vars) → AllByRecursion (λ y. names_cmp k y ≡ Less) (keys_of (without_value vars name))
  above_removed k [] all = tt
  above_removed k (v ∷ vars) all = by (above_removed k vars all.1) (bytes_eq v.0 name) where
    by : AllByRecursion (λ y. names_cmp k y ≡ Less) (keys_of (without_value vars name)) → (b : Bool) → AllByRecursion (λ y. names_cmp k y ≡ Less) (keys_of (cond b vars (v ∷ without_value vars name)))
    by rest true = all.1
    by rest false = (all.0, rest)

  pub removed-ordered : (vars : Variables) → AreOrdered vars → AreOrdered (without_value vars name)
  removed-ordered [] h = h
  removed-ordered (v ∷ vars) h = by (removed-ordered vars (ordered_rest v vars h)) (bytes_eq v.0 name) where
    by : AreOrdered (without_value vars name) → (b : Bool) → AreOrdered (cond b vars (v ∷ without_value vars name))
    by rest true = ordered_rest v vars h
    by rest false = ordered_more v (without_value vars name) (above_removed v.0 vars (ordered_first v vars h)) rest

-- the variables of shared ones
abbrev pub Shared : Type 0
Shared = Arc Variable Global

seen-set : (all : List Shared) (i : ℕ) (one : Shared) → variables_in (set all i one) ≡ set (variables_in all) i (arc_value one)
seen-set [] i one = refl
seen-set (a ∷ all) zero one = refl
seen-set (a ∷ all) (suc i) one = ap (λ (vs : Variables). arc_value a ∷ vs) (seen-set all i one)

seen-insert : (all : List Shared) (i : ℕ) (one : Shared) → variables_in (insert all i one) ≡ insert (variables_in all) i (arc_value one)
seen-insert all zero one = refl
seen-insert [] (suc i) one = refl
seen-insert (a ∷ all) (suc i) one = ap (λ (vs : Variables). arc_value a ∷ vs) (seen-insert all i one)

seen-remove : (all : List Shared) (i : ℕ) → variables_in (remove all i) ≡ remove (variables_in all) i
seen-remove [] zero = refl
seen-remove [] (suc i) = refl
seen-remove (a ∷ all) zero = refl
seen-remove (a ∷ all) (suc i) = ap (λ (vs : Variables). arc_value a ∷ vs) (seen-remove all i)

pub seen-clones : (all copies : List Shared) → AllZip (λ a b. arc_value b ≡ arc_value a) all copies → variables_in copies ≡ variables_in all
seen-clones [] [] h = refl
seen-clones [] (b ∷ copies) h = absurd h
seen-clones (a ∷ all) [] h = absurd h
seen-clones (a ∷ all) (b ∷ copies) h =
    ap (λ (v : Variable). v ∷ variables_in copies) h.0 ∙ ap (λ (vs : Variables). arc_value a ∷ vs) (seen-clones all copies h.1)

length-seen : (all : List Shared) → length (variables_in all) ≡ length all
length-seen [] = refl
length-seen (a ∷ all) = ap suc (length-seen all)

-- what is done at a position among those that are shared
module _ (all : List Shared) (vars : Variables) (name : List ℕ) (position : ℕ) (seen : variables_in all ≡ vars) (at : position ≡ position_of vars name) where
  pub position_within : position ≤ length all
  position_within = omega (arith, prefix_len-le-length (is_below name) vars, length-seen all, ap length seen, at)

  pub put_over : (value : List ℕ) (one : Shared) → arc_value one ≡ (name, value) → is_named name (slice_get vars position) ≡ true → variables_in (set all position one) ≡ with_value vars name value
  put_over value one is there =
      seen-set all position one
      ∙ ap (λ (vs : Variables). set vs position (arc_value one)) seen
      ∙ ap (set vars position) is
      ∙ sym (ap (λ b. cond b (set vars position (name, value)) (insert vars position (name, value))) there)
      ∙ ap (put_at name value vars) at
      ∙ sym (with_value-at name value vars)

  pub put_between : (value : List ℕ) (one : Shared) → arc_value one ≡ (name, value) → is_named name (slice_get vars position) ≡ false → variables_in (insert all position one) ≡ with_value vars name value
  put_between value one is there =
      seen-insert all position one
      ∙ ap (λ (vs : Variables). insert vs position (arc_value one)) seen
      ∙ ap (insert vars position) is
      ∙ sym (ap (λ b. cond b (set vars position (name, value)) (insert vars position (name, value))) there)
      ∙ ap (put_at name value vars) at
      ∙ sym (with_value-at name value vars)

  pub taken_away : AreOrdered vars → is_named name (slice_get vars position) ≡ true → variables_in (remove all position) ≡ without_value vars name
  taken_away ordered there =
      seen-remove all position
      ∙ ap (λ (vs : Variables). remove vs position) seen
      ∙ sym (ap (λ b. cond b (remove vars position) vars) there)
      ∙ ap (removed_at name vars) at
      ∙ sym (without_value-at name vars ordered)

  pub left : AreOrdered vars → is_named name (slice_get vars position) ≡ false → vars ≡ without_value vars name
  left ordered there =
      sym (ap (λ b. cond b (remove vars position) vars) there) ∙ ap (removed_at name vars) at ∙ sym (without_value-at name vars ordered)

-- where a search ends
module _ (name : List ℕ) where
  abbrev pub stands_below : Shared → Bool
  stands_below a = is_below name (arc_value a)

  first_below : (v : Variable) (all : List Shared) (j : ℕ) (d : Shared) → AllByRecursion (λ y. names_cmp v.0 y ≡ Less) (keys_of (variables_in all)) → j < length all → stands_below (get_or all j d) ≡ true → is_below name v ≡ true
  first_below v [] j d first within below = absurd (omega arith)
  first_below v (a ∷ all) zero d first within below =
      ap is_lt (nat_list_cmp_total.trans v.0 (arc_value a).0 name first.0 (lt_less (names_cmp (arc_value a).0 name) below))
  first_below v (a ∷ all) (suc j) d first within below = first_below v all j d first.1 (omega arith) below

  parted : (all : List Shared) → AreOrdered (variables_in all) → (i j : ℕ) (d : Shared) → i ≤ j → j < length all → stands_below (get_or all j d) ≡ true → stands_below (get_or all i d) ≡ true
  parted [] ordered i j d le within below = absurd (omega arith)
  parted (a ∷ all) ordered zero zero d le within below = below
  parted (a ∷ all) ordered zero (suc j) d le within below = first_below (arc_value a) all j d (ordered_first (arc_value a) (variables_in all) ordered) (omega arith) below
  parted (a ∷ all) ordered (suc i) zero d le within below = absurd (omega arith)
  parted (a ∷ all) ordered (suc i) (suc j) d le within below = parted all (ordered_rest (arc_value a) (variables_in all) ordered) i j d (omega arith) (omega arith) below

  position-seen : (all : List Shared) → position_of (variables_in all) name ≡ prefix_len stands_below all
  position-seen [] = refl
  position-seen (a ∷ all) = ap (λ n. cond (stands_below a) (1 + n) 0) (position-seen all)

  pub searched : (all : List Shared) (position : ℕ) → AreOrdered (variables_in all) → position ≤ length all → (IsPartitionedBy stands_below all → IsPartitionPoint (λ y. stands_below y ≡ true) (λ y. stands_below y ≡ false) all position) → position ≡ position_of (variables_in all) name
  searched [] position ordered within point = let none : position ≤ 0 = within in omega arith
  searched (a ∷ all) position ordered within point =
      let ends = point (parted (a ∷ all) ordered) in
      sym (position-seen (a ∷ all) ∙ prefix_len_is stands_below (a ∷ all) position a within (λ k l. ends.0 k a (omega arith) l) (λ l. ends.1 position a (omega arith) l))

-- of names that are taken away in turn, the next
pub without_more : (names : List (Bor (List ℕ))) (vs after whole : Variables) (k : ℕ) (d : Bor (List ℕ)) → k < length names → fold without_value vs (map (λ (name : Bor (List ℕ)). name.now) (drop k names)) ≡ whole → after ≡ without_value vs (get_or names k d).now → fold without_value after (map (λ (name : Bor (List ℕ)). name.now) (drop (k + 1) names)) ≡ whole
without_more names vs after whole k d inside so_far next =
    let rest = λ (left : List (Bor (List ℕ))). fold without_value vs (map (λ (name : Bor (List ℕ)). name.now) left) in
    ap (λ (us : Variables). fold without_value us (map (λ (name : Bor (List ℕ)). name.now) (drop (k + 1) names))) next
    ∙ ap (λ n. fold without_value (without_value vs (get_or names k d).now) (map (λ (name : Bor (List ℕ)). name.now) (drop n names))) (add-one k)
    ∙ sym (ap rest (drop-cons names k d inside))
    ∙ so_far
