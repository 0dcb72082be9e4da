-- The suffixes that begin with a dot, and the prefixes that end with one, a byte at a time.
use Rattle.std.proofs.Common.{◌≡◌, ◌≢◌, ℕ, ◌+◌, ◌<◌, ◌≤◌, arith, Bool, true, false, cond, eqb, List, [], ◌∷◌, ◌++◌, map, length, get_or, take, drop, refl, sym, ap, ◌∙◌}
use Rattle.std.proofs.lemmas.List.{at_drop_more, drop_more, append-nil, map-append, append_assoc, take_more}
use Rattle.std.proofs.Common.{inl, inr}
use Rattle.std.proofs.lemmas.Bool.Decides.{eqb_tells}
use Rattle.rule_lookup.specs.Spread.{folded}
use Rattle.rule_lookup.specs.Forms.{dotted_fronts, dotted_ends}

-- where a dot stands, one more suffix begins
pub dotted_ends-dot : (host : List ℕ) (i : ℕ) → i < length host → get_or host i 0 ≡ 46 → dotted_ends (drop i host) ≡ drop i host ∷ dotted_ends (drop (i + 1) host)
dotted_ends-dot host i inside dot =
    at_drop_more dotted_ends host i 0 inside
    ∙ ap (λ b. cond (eqb b 46) ((get_or host i 0 ∷ drop (i + 1) host) ∷ dotted_ends (drop (i + 1) host)) (dotted_ends (drop (i + 1) host))) dot
    ∙ ap (λ (end : List ℕ). end ∷ dotted_ends (drop (i + 1) host)) (sym (drop_more host i 0 inside))

pub dotted_ends-other : (host : List ℕ) (i : ℕ) → i < length host → eqb (get_or host i 0) 46 ≡ false → dotted_ends (drop i host) ≡ dotted_ends (drop (i + 1) host)
dotted_ends-other host i inside other =
    at_drop_more dotted_ends host i 0 inside
    ∙ ap (λ t. cond t ((get_or host i 0 ∷ drop (i + 1) host) ∷ dotted_ends (drop (i + 1) host)) (dotted_ends (drop (i + 1) host))) other

-- the prefix that a last byte makes, if it is a dot
abbrev pub last_front : Bool → List ℕ → List (List ℕ)
last_front is_dot front = cond is_dot (front ∷ []) []

map-last_front : (is_dot : Bool) (x : ℕ) (front : List ℕ) → map (λ (rest : List ℕ). x ∷ rest) (last_front is_dot front) ≡ last_front is_dot (x ∷ front)
map-last_front true x front = refl
map-last_front false x front = refl

pub dotted_fronts-push : (xs : List ℕ) (b : ℕ) → dotted_fronts (xs ++ b ∷ []) ≡ last_front (eqb b 46) (xs ++ b ∷ []) ++ dotted_fronts xs
dotted_fronts-push [] b = sym (append-nil (last_front (eqb b 46) (b ∷ [])))
dotted_fronts-push (x ∷ xs) b =
    ap (λ (fronts : List (List ℕ)). map (λ (rest : List ℕ). x ∷ rest) fronts ++ last_front (eqb x 46) (x ∷ [])) (dotted_fronts-push xs b)
    ∙ ap (λ (fronts : List (List ℕ)). fronts ++ last_front (eqb x 46) (x ∷ [])) (map-append (λ (rest : List ℕ). x ∷ rest) (last_front (eqb b 46) (xs ++ b ∷ [])) (dotted_fronts xs))
    ∙ append_assoc (map (λ (rest : List ℕ). x ∷ rest) (last_front (eqb b 46) (xs ++ b ∷ []))) (map (λ (rest : List ℕ). x ∷ rest) (dotted_fronts xs)) (last_front (eqb x 46) (x ∷ []))
    ∙ ap (λ (fronts : List (List ℕ)). fronts ++ (map (λ (rest : List ℕ). x ∷ rest) (dotted_fronts xs) ++ last_front (eqb x 46) (x ∷ []))) (map-last_front (eqb b 46) x (xs ++ b ∷ []))

-- a position further, a dot there makes one more prefix
pub dotted_fronts-more : (ip : List ℕ) (i : ℕ) → i < length ip → dotted_fronts (take (i + 1) ip) ≡ last_front (eqb (get_or ip i 0) 46) (take (i + 1) ip) ++ dotted_fronts (take i ip)
dotted_fronts-more ip i inside =
    ap dotted_fronts (take_more ip i 0 inside) ∙ dotted_fronts-push (take i ip) (get_or ip i 0)
    ∙ ap (λ (front : List ℕ). last_front (eqb (get_or ip i 0) 46) front ++ dotted_fronts (take i ip)) (sym (take_more ip i 0 inside))

-- the forms so far and those to come, a position back, where a dot stands there and where none does
pub fronts_kept-dot : (forms more : List (List ℕ)) (ip : List ℕ) (i n : ℕ) → i + 1 ≡ n → n ≤ length ip → eqb (get_or ip i 0) 46 ≡ true → more ≡ forms ++ folded (take n ip) ∷ [] → more ++ map folded (dotted_fronts (take i ip)) ≡ forms ++ map folded (dotted_fronts (take n ip))
fronts_kept-dot forms more ip i n next inside dot pushed =
    ap (λ (fs : List (List ℕ)). fs ++ map folded (dotted_fronts (take i ip))) pushed
    ∙ append_assoc forms (folded (take n ip) ∷ []) (map folded (dotted_fronts (take i ip)))
    ∙ ap (λ (fs : List (List ℕ)). forms ++ map folded fs)
    (sym (ap (λ k. dotted_fronts (take k ip)) (sym next) ∙ dotted_fronts-more ip i (omega arith)
    ∙ ap (λ t. last_front t (take (i + 1) ip) ++ dotted_fronts (take i ip)) dot
    ∙ ap (λ k. take k ip ∷ dotted_fronts (take i ip)) next))

pub fronts_kept-other : (forms : List (List ℕ)) (ip : List ℕ) (i n : ℕ) → i + 1 ≡ n → n ≤ length ip → eqb (get_or ip i 0) 46 ≡ false → forms ++ map folded (dotted_fronts (take i ip)) ≡ forms ++ map folded (dotted_fronts (take n ip))
fronts_kept-other forms ip i n next inside other =
    ap (λ (fs : List (List ℕ)). forms ++ map folded fs)
    (sym (ap (λ k. dotted_fronts (take k ip)) (sym next) ∙ dotted_fronts-more ip i (omega arith)
    ∙ ap (λ t. last_front t (take (i + 1) ip) ++ dotted_fronts (take i ip)) other))

pub eqb-other : (a b : ℕ) → a ≢ b → eqb a b ≡ false
eqb-other a b other = elim (eqb_tells a b) [ inl same ↦ absurd (other same.1) | inr apart ↦ apart.0 ]

-- the forms, as they are added one kind after another
pub forms_joined : (users host fronts ends any v1 v2 v3 v4 v5 v6 v7 : List (List ℕ)) (ip : List ℕ) → v1 ≡ [] → v2 ≡ v1 ++ map folded users → v3 ≡ v2 ++ folded ip ∷ [] → v4 ≡ v3 ++ map folded host → v5 ≡ v4 ++ map folded fronts → v6 ≡ v5 ++ map folded (ends ++ any) → v7 ≡ v6 ++ folded [] ∷ [] → v7 ≡ map folded (users ++ (ip ∷ []) ++ host ++ fronts ++ ends ++ any ++ ([] ∷ []))
forms_joined users host fronts ends any v1 v2 v3 v4 v5 v6 v7 ip e1 e2 e3 e4 e5 e6 e7 =
    let joined : v7 ≡ ((((([] ++ map folded users) ++ folded ip ∷ []) ++ map folded host) ++ map folded fronts) ++ map folded (ends ++ any)) ++ folded [] ∷ [] = cc in
    joined ∙ simp (map-append, append_assoc)
