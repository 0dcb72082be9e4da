-- One more address of a line: the least line so far, and what is noted so far.
use Rattle.std.proofs.Common.{◌≡◌, ℕ, ◌+◌, ◌<◌, Bool, true, false, ◌&&◌, ◌||◌, cond, List, [], ◌∷◌, ◌++◌, length, get_or, take, Option, None, Some, bytes_eq, is_some, refl, sym, ap, ◌∙◌, inl, inr, arith}
use Rattle.std.specs.Prelude.{is_none, min}
use Rattle.std.specs.List.{list_all, list_any, filter_map}
use Rattle.std.specs.Option.{option_map_or}
use Rattle.std.specs.Cmp.Lexicographic.{nat_list_eq_equiv}
use Rattle.std.proofs.lemmas.Bool.{and_parts, cases_Bool, cond-true, false_from_ne_true, or_from}
use Rattle.std.proofs.lemmas.List.{take_more}
use Rattle.std.proofs.lemmas.List.Elements.{filter_map-append}
use Rattle.std.proofs.lemmas.List.Folds.{list_all-append, list_any_more}
use Rattle.std.proofs.lemmas.List.Sums.{fold-append}
use Rattle.std.proofs.lemmas.Slice.Eq.{bytes_eq-Decides}
use Rattle.std.specs.Borrow.{Bor}
use Rattle.rule_lines.specs.declared.spread.ReadAddress.{ReadAddress}
use Rattle.rule_lines.specs.declared.spread.ReadAddress.TheVariants.{One}
use Rattle.rule_lines.specs.ReadAddresses.{addresses_read}
use Rattle.rule_lookup.specs.Spread.{folded}
use Rattle.rule_warnings.proofs.CaseLemmas.{folded_from_no_capitals, has_capitals}
use Rattle.rule_warnings.specs.Tables.{noted, noted_all}
use Rattle.rule_warnings.specs.Warnings.{decided_by, least}

-- one more number
least-push : (ns : List ℕ) (n : ℕ) → least (ns ++ n ∷ []) ≡ Some (option_map_or (λ m. min m n) (least ns) n)
least-push [] n = refl
least-push (m ∷ ns) n = ap Some (fold-append min m ns (n ∷ []))

filter_map-one : (first : List ℕ → Option ℕ) (address : List ℕ) (line : ℕ) → first address ≡ Some line → filter_map first (address ∷ []) ≡ line ∷ []
filter_map-one first address line is = rw is refl

-- the step of the search for the line that decides
pub record IsLeastSoFar (first : List ℕ → Option ℕ) (addresses : List (List ℕ)) (found : Option ℕ) : Type 0 where
  pub all : list_all (λ address. is_some (first address)) addresses ≡ true
  pub least : found ≡ Rattle.rule_warnings.specs.Warnings.least (filter_map first addresses)

pub least-more : (first : List ℕ → Option ℕ) (addresses : List (List ℕ)) (i line : ℕ) (old : Option ℕ) → i < length addresses → first (get_or addresses i []) ≡ Some line → IsLeastSoFar first (take i addresses) old → IsLeastSoFar first (take (i + 1) addresses) (Some (option_map_or (λ n. min n line) old line))
least-more first addresses i line old inside is so_far =
    let address = get_or addresses i [] in
    let more = take_more addresses i [] inside in
    record {
      all = ap (list_all (λ address. is_some (first address))) more ∙ list_all-append (λ address. is_some (first address)) (take i addresses) (address ∷ []) ∙ rw (so_far.all, is) refl;
      least = sym (ap (λ (l : List (List ℕ)). least (filter_map first l)) more ∙ ap least (filter_map-append first (take i addresses) (address ∷ []) ∙ ap (λ (l : List ℕ). filter_map first (take i addresses) ++ l) (filter_map-one first address line is)) ∙ least-push (filter_map first (take i addresses)) line ∙ ap (λ o. Some (option_map_or (λ n. min n line) o line)) (sym so_far.least));
    }

here : (f : Option ℕ) (a : Bool) (n : ℕ) → cond (is_none (cond (is_some f) f (cond a (Some n) None)) && true) (Some n) (cond (is_some f) f (cond a (Some n) None)) ≡ cond (is_some f) f (cond (a || true) (Some n) None)
here (Some x) a n = refl
here None true n = refl
here None false n = refl

elsewhere : (f : Option ℕ) (a b : Bool) (n : ℕ) → cond (b && false) (Some n) (cond (is_some f) f (cond a (Some n) None)) ≡ cond (is_some f) f (cond (a || false) (Some n) None)
elsewhere (Some x) a true n = refl
elsewhere (Some x) a false n = refl
elsewhere None true true n = refl
elsewhere None true false n = refl
elsewhere None false true n = refl
elsewhere None false false n = refl

-- the step of noting a line's addresses
pub noted-more : (f g h : List ℕ → Option ℕ) (addresses : List (List ℕ)) (i n : ℕ) (address : List ℕ) → i < length addresses → address ≡ get_or addresses i [] → ((o : List ℕ) → g o ≡ noted_all f (take i addresses) n o) → ((o : List ℕ) → h o ≡ noted g address n o) → (other : List ℕ) → h other ≡ noted_all f (take (i + 1) addresses) n other
noted-more f g h addresses i n address inside is so_far step other =
    let more = list_any_more (bytes_eq other) addresses i [] inside in
    let a = list_any (bytes_eq other) (take i addresses) in
    step other ∙ elim (cases_Bool (bytes_eq address other)) [
      | inl same ↦
          let one : address ≡ other = (bytes_eq-Decides address other).0 same in
          let back : bytes_eq other (get_or addresses i []) ≡ true = (bytes_eq-Decides other (get_or addresses i [])).1 (sym one ∙ is) in
          ap (λ b. cond (is_none (g address) && b) (Some n) (g other)) same
          ∙ ap (λ (l : List ℕ). cond (is_none (g l) && true) (Some n) (g other)) one
          ∙ ap (λ o. cond (is_none o && true) (Some n) o) (so_far other)
          ∙ here (f other) a n
          ∙ ap (λ b. cond (is_some (f other)) (f other) (cond b (Some n) None)) (sym (more ∙ ap (λ b. a || b) back))
      | inr differs ↦
          let back : bytes_eq other (get_or addresses i []) ≡ false = ap (bytes_eq other) (sym is) ∙ nat_list_eq_equiv.symm other address ∙ differs in
          ap (λ b. cond (is_none (g address) && b) (Some n) (g other)) differs
          ∙ ap (λ o. cond (is_none (g address) && false) (Some n) o) (so_far other)
          ∙ elsewhere (f other) a (is_none (g address)) n
          ∙ ap (λ b. cond (is_some (f other)) (f other) (cond b (Some n) None)) (sym (more ∙ ap (λ b. a || b) back))
    ]

kept : (o : Option ℕ) → o ≡ cond (is_some o) o None
kept None = refl
kept (Some x) = refl

-- a line's one address is noted as it stands, where it is in lower case
pub noted-one : (f h : List ℕ → Option ℕ) (read : ReadAddress) (address : Bor (List ℕ)) (n : ℕ) → read ≡ One address → has_capitals address.now ≡ false → ((o : List ℕ) → h o ≡ noted f address.now n o) → (other : List ℕ) → h other ≡ noted_all f (addresses_read read) n other
noted-one f h read address n is none step other =
    let same = folded_from_no_capitals address.now none in
    noted-more f f h (folded address.now ∷ []) 0 n address.now (omega arith) (sym same) (λ o. kept (f o)) step other
    ∙ ap (λ s. noted_all f (addresses_read s) n other) (sym is)

some_none : {P : Type 0} (line : ℕ) → Some line ≡ None → P
some_none line is = absurd (cc)

-- an address in lower case that no line decides stood in none
pub undecided-one : (f : List ℕ → Option ℕ) (read : ReadAddress) (address : Bor (List ℕ)) → read ≡ One address → has_capitals address.now ≡ false → decided_by f (addresses_read read) ≡ None → f address.now ≡ None
undecided-one f read address is none undecided = by_line (f address.now) refl where
  by_line : (o : Option ℕ) → f address.now ≡ o → f address.now ≡ None
  by_line None here = here
  by_line (Some line) here =
      let same = folded_from_no_capitals address.now none in
      let decided : decided_by f (address.now ∷ []) ≡ Some line = ap (λ o. cond (is_some o && true) (least (filter_map f (address.now ∷ []))) None) here ∙ ap least (filter_map-one f address.now line here) in
      some_none line (sym decided ∙ ap (λ (l : List ℕ). decided_by f (l ∷ [])) (sym same) ∙ ap (λ s. decided_by f (addresses_read s)) (sym is) ∙ undecided)

all_some : (t : Bool) (o : Option ℕ) (line : ℕ) → cond t o None ≡ Some line → t ≡ true
all_some true o line is = refl
all_some false o line is = some_none line (sym is)

not_among : (f : List ℕ → Option ℕ) (addresses : List (List ℕ)) → list_all (λ address. is_some (f address)) addresses ≡ true → (other : List ℕ) → f other ≡ None → list_any (bytes_eq other) addresses ≡ false
not_among f [] all other none = refl
not_among f (address ∷ addresses) all other none =
    let (here, later) = and_parts (is_some (f address)) (list_all (λ address. is_some (f address)) addresses) all in
    or_from (bytes_eq other address) (list_any (bytes_eq other) addresses)
    (false_from_ne_true (bytes_eq other address) (λ same. let gone = ap is_some (sym none ∙ ap f ((bytes_eq-Decides other address).0 same)) ∙ here in absurd (cc)))
    (not_among f addresses later other none)

-- where each address is decided, nothing is to be noted
pub decided-all : (f : List ℕ → Option ℕ) (addresses : List (List ℕ)) (line n : ℕ) → decided_by f addresses ≡ Some line → (other : List ℕ) → f other ≡ noted_all f addresses n other
decided-all f addresses line n decided other = by_line (f other) refl where
  by_line : (o : Option ℕ) → f other ≡ o → f other ≡ noted_all f addresses n other
  by_line (Some l) here = sym (cond-true (is_some (f other)) (f other) (cond (list_any (bytes_eq other) addresses) (Some n) None) (ap is_some here))
  by_line None here =
      let all = all_some (list_all (λ address. is_some (f address)) addresses) (least (filter_map f addresses)) line decided in
      here ∙ sym (ap (λ o. cond (is_some o) o (cond (list_any (bytes_eq other) addresses) (Some n) None)) here ∙ ap (λ t. cond t (Some n) None) (not_among f addresses all other here))
