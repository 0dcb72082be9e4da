-- The addresses that stand in a text by themselves, by their bytes: whole IPv4 addresses are kept as their numbers.
use Rattle.std.proofs.Common.{◌≡◌, ℕ, Bool, true, false, cond, List, [], ◌∷◌, Option, None, Some, option_and_then, bytes_eq, refl, sym, ap, ◌∙◌, subst, inl, inr}
use Rattle.std.specs.Prelude.{nat_eq}
use Rattle.std.specs.Borrow.{Bor}
use Rattle.std.specs.Cmp.Lexicographic.{pointwise, nat_list_eq_equiv}
use Rattle.std.specs.HashMap.{HashMap, UpdatesBy, get_by}
use Rattle.std.specs.Map.{KeepsOthers, IsKeyTest, AreApart, lookup}
use Rattle.std.specs.Net.Text.{dotted_text}
use Rattle.std.proofs.lemmas.Bool.{cases_Bool, cond-true, cond-false, false_from_ne_true}
use Rattle.std.proofs.lemmas.Slice.Eq.{bytes_eq-Decides}
use Rattle.rule_lookup.specs.Addresses.{ipv4_in}
use Rattle.rule_lookup.proofs.AddressLemmas.{IsDotted-ipv4_in}
use Rattle.rule_warnings.specs.declared.lent.Lent.{Lent}
use Rattle.rule_warnings.specs.LentLines.{either_line, line_lent, line_whole}

pub others : {K X : Type 0} (eq : K → K → Bool) (test : K → Bool) (old new : List (K × X)) → KeepsOthers eq test old new → (other : K → Bool) → IsKeyTest eq other → AreApart test other → lookup other new ≡ lookup other old
unfolding KeepsOthers
others eq test old new h = h

pub apart : (bs cs ks : List ℕ) → pointwise nat_eq bs cs ≡ false → pointwise nat_eq bs ks ≡ true → pointwise nat_eq cs ks ≡ false
apart bs cs ks other same = nat_list_eq_equiv.symm cs ks ∙ sym (nat_list_eq_equiv.congr bs ks cs same) ∙ other

abbrev by_text : {S : Type 0} → HashMap (Bor (List ℕ)) ℕ S → List ℕ → Option ℕ
by_text table address = get_by (λ (key : Bor (List ℕ)). pointwise nat_eq address key.now) table

-- a new key, and the others
pub updates : {X : Type 0} (f g : List ℕ → Option X) (key : List ℕ) (w : Option X) → g key ≡ w → ((other : List ℕ) → bytes_eq key other ≡ false → g other ≡ f other) → (other : List ℕ) → g other ≡ cond (bytes_eq key other) w (f other)
updates f g key w here apart other = elim (cases_Bool (bytes_eq key other)) [
  | inl same ↦ subst (λ (l : List ℕ). g l ≡ w) ((bytes_eq-Decides key other).0 same) here ∙ sym (cond-true (bytes_eq key other) w (f other) same)
  | inr differs ↦ apart other differs ∙ sym (cond-false (bytes_eq key other) w (f other) differs)
]

texts-updates : {S : Type 0} (key : Bor (List ℕ)) (m n : HashMap (Bor (List ℕ)) ℕ S) (line : ℕ) → UpdatesBy (λ (x y : Bor (List ℕ)). pointwise nat_eq x.now y.now) (λ (k : Bor (List ℕ)). pointwise nat_eq key.now k.now) m n (Some line) → (other : List ℕ) → by_text n other ≡ cond (bytes_eq key.now other) (Some line) (by_text m other)
texts-updates key m n line h =
    updates (by_text m) (by_text n) key.now (Some line) h.1 (λ other differs. others _ _ _ _ h.3 _ (λ x y. nat_list_eq_equiv.congr other x.now y.now) (λ k. apart key.now other k.now differs))

abbrev by_octets : {S : Type 0} → HashMap (List ℕ) ℕ S → List ℕ → Option ℕ
by_octets table octets = get_by (λ (key : List ℕ). pointwise nat_eq octets key) table

pub whole-updates : {S : Type 0} (key : List ℕ) (m n : HashMap (List ℕ) ℕ S) (line : ℕ) → UpdatesBy (λ (x y : List ℕ). pointwise nat_eq x y) (λ (k : List ℕ). pointwise nat_eq key k) m n (Some line) → (other : List ℕ) → by_octets n other ≡ cond (bytes_eq key other) (Some line) (by_octets m other)
whole-updates key m n line h =
    updates (by_octets m) (by_octets n) key (Some line) h.1 (λ other differs. others _ _ _ _ h.3 _ (λ x y. nat_list_eq_equiv.congr other x y) (λ k. apart key other k differs))

-- no two addresses have the same numbers
same_text : (a b octets : List ℕ) → ipv4_in a ≡ Some octets → ipv4_in b ≡ Some octets → a ≡ b
same_text a b octets first second =
    let da = IsDotted-ipv4_in a octets first in
    let db = IsDotted-ipv4_in b octets second in
    let numbers : da.a ∷ da.b ∷ da.c ∷ da.d ∷ [] ≡ db.a ∷ db.b ∷ db.c ∷ db.d ∷ [] = sym da.value ∙ db.value in
    da.spelled ∙ spelled_same da.a da.b da.c da.d db.a db.b db.c db.d numbers ∙ sym db.spelled
  where
    spelled_same : (a b c d e f g h : ℕ) → a ∷ b ∷ c ∷ d ∷ [] ≡ e ∷ f ∷ g ∷ h ∷ [] → dotted_text a b c d ≡ dotted_text e f g h
    spelled_same a b c d e f g h same =
        let first : a ≡ e = cc in
        let second : b ≡ f = cc in
        let third : c ≡ g = cc in
        let fourth : d ≡ h = cc in
        λ i. dotted_text (first i) (second i) (third i) (fourth i)

none_text : (text whole : Option ℕ) → either_line text whole ≡ None → text ≡ None
none_text None whole none = refl
none_text (Some line) whole none = absurd (cc)

-- an address that has no line, kept as its numbers
module _ (old new : Lent) (address octets : List ℕ) (line : ℕ) (is : ipv4_in address ≡ Some octets) (none : line_lent old address ≡ None) (texts : new.texts ≡ old.texts)
    (h : (other : List ℕ) → by_octets new.whole other ≡ cond (bytes_eq octets other) (Some line) (by_octets old.whole other)) where
  text_none : by_text old.texts address ≡ None
  text_none = none_text (by_text old.texts address) (line_whole old address) none

  here : line_whole new address ≡ Some line
  here = ap (option_and_then (λ o. by_octets new.whole o)) is ∙ h octets ∙ cond-true (bytes_eq octets octets) (Some line) (by_octets old.whole octets) ((bytes_eq-Decides octets octets).1 refl)

  elsewhere : (other : List ℕ) → bytes_eq address other ≡ false → (o : Option (List ℕ)) → ipv4_in other ≡ o → option_and_then (λ k. by_octets new.whole k) o ≡ option_and_then (λ k. by_octets old.whole k) o
  elsewhere other differs None other_is = refl
  elsewhere other differs (Some o) other_is =
      let apart_numbers : bytes_eq octets o ≡ false = false_from_ne_true _ (λ same.
      let one : octets ≡ o = (bytes_eq-Decides octets o).0 same in
      let both : address ≡ other = same_text address other o (is ∙ ap Some one) other_is in
      absurd (let yes = (bytes_eq-Decides address other).1 both in cc)) in
      h o ∙ cond-false (bytes_eq octets o) (Some line) (by_octets old.whole o) apart_numbers

  pub noted-whole : (other : List ℕ) → line_lent new other ≡ cond (bytes_eq address other) (Some line) (line_lent old other)
  noted-whole other =
      ap (λ (t : HashMap (Bor (List ℕ)) ℕ _). either_line (by_text t other) (line_whole new other)) texts
      ∙ elim (cases_Bool (bytes_eq address other)) [
        | inl same ↦
            let one : address ≡ other = (bytes_eq-Decides address other).0 same in
            subst (λ (l : List ℕ). either_line (by_text old.texts l) (line_whole new l) ≡ Some line) one
            (ap (λ t. either_line t (line_whole new address)) text_none ∙ here)
            ∙ sym (cond-true (bytes_eq address other) (Some line) (line_lent old other) same)
        | inr differs ↦
            ap (either_line (by_text old.texts other)) (elsewhere other differs (ipv4_in other) refl)
            ∙ sym (cond-false (bytes_eq address other) (Some line) (line_lent old other) differs)
      ]

-- the same of one that is kept as it stands
put_text : (t : Bool) (a b : Option ℕ) (line : ℕ) → either_line (cond t (Some line) a) b ≡ cond t (Some line) (either_line a b)
put_text true a b line = refl
put_text false a b line = refl

pub noted-text : (old new : Lent) (key : Bor (List ℕ)) (line : ℕ) → new.whole ≡ old.whole → UpdatesBy (λ (x y : Bor (List ℕ)). pointwise nat_eq x.now y.now) (λ (k : Bor (List ℕ)). pointwise nat_eq key.now k.now) old.texts new.texts (Some line)
    → (other : List ℕ) → line_lent new other ≡ cond (bytes_eq key.now other) (Some line) (line_lent old other)
noted-text old new key line whole h other =
    ap (λ (t : HashMap (List ℕ) ℕ _). either_line (by_text new.texts other) (option_and_then (λ o. by_octets t o) (ipv4_in other))) whole
    ∙ ap (λ t. either_line t (line_whole old other)) (texts-updates key old.texts new.texts line h other)
    ∙ put_text (bytes_eq key.now other) (by_text old.texts other) (line_whole old other) line
