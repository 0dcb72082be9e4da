-- Bytes cut at the first position of a mark.
use Rattle.std.proofs.Common.{◌≡◌, ℕ, zero, suc, ◌+◌, ◌-◌, ◌<◌, ◌≤◌, true, false, eqb, List, [], ◌∷◌, ◌++◌, length, take, drop, get_or, Bor, MatchOption, Option, Some, None, refl, sym, ap, ◌∙◌, subst, arith, eq-eqb, zero-add, ⊎_elim}
use Rattle.std.specs.Prelude.{nat_eq, option_map}
use Rattle.std.specs.List.{starts_with}
use Rattle.std.proofs.lemmas.Bool.{false_from_ne_true, cases_Bool, or_parts, or_from, eqb-false, ne_eqb}
use Rattle.std.proofs.lemmas.Bool.Decides.{Decides-eqb}
use Rattle.std.proofs.lemmas.List.{take_rest}
use Rattle.std.proofs.lemmas.List.Prefix.{front_fits, front_reads, front_from_reads}
use Rattle.std.proofs.lemmas.Option.{none-some, same_Some}
use Rattle.std.proofs.lemmas.Slice.Eq.{starts_is}
use Rattle.memchr.specs.Find.{Nowhere, OccursAt}
use Rattle.rule_lookup.specs.Lines.{has_byte}
use Rattle.rule_lookup.specs.Settings.{Cut, cut_at}
use Rattle.rule_lookup.proofs.CodeLemmas.{option_map_found}

-- a mark at position 0 is what the bytes begin with
starts_with-front : (mark bytes : List ℕ) → OccursAt bytes mark 0 → starts_with nat_eq bytes mark ≡ true
starts_with-front mark bytes occurs =
    let fits : length mark ≤ length bytes = omega (arith, occurs.fits) in
    (starts_is Decides-eqb bytes mark _ refl).1 _ (front_from_reads 0 bytes mark fits (λ i within. rw zero-add at (occurs.reads i within)))

-- what the bytes begin with is a mark at position 0
OccursAt-front : (mark bytes : List ℕ) → starts_with nat_eq bytes mark ≡ true → OccursAt bytes mark 0
OccursAt-front mark bytes starts =
    let is = (starts_is Decides-eqb bytes mark _ refl).0 starts in
    record { fits = omega (arith, front_fits bytes mark _ is); reads = λ j within. rw zero-add (front_reads 0 bytes mark _ is j within) }

-- a position in the bytes after the first
module _ (mark : List ℕ) (b : ℕ) (bs : List ℕ) (k : ℕ) where
  -- a position behind the next one
  next_position : (j : ℕ) → suc k + j ≡ suc (k + j)
  next_position j = omega arith

  -- a mark behind the first byte stands one position earlier after it
  OccursAt-later : OccursAt (b ∷ bs) mark (suc k) → OccursAt bs mark k
  OccursAt-later occurs = record {
    fits = omega (arith, occurs.fits);
    reads = λ j within. subst (λ n. get_or (b ∷ bs) n 0 ≡ get_or mark j 0) (next_position j) (occurs.reads j within);
  }

  -- and one position later with a byte before
  OccursAt-earlier : OccursAt bs mark k → OccursAt (b ∷ bs) mark (suc k)
  OccursAt-earlier occurs = record {
    fits = omega (arith, occurs.fits);
    reads = λ j within. subst (λ n. get_or (b ∷ bs) n 0 ≡ get_or mark j 0) (sym (next_position j)) (occurs.reads j within);
  }

-- with a byte put before it
abbrev onto_cut : ℕ → Cut → Cut
onto_cut b cut = record cut { before = b ∷ cut.before }

-- a mark that stands nowhere
pub cut_at-nowhere : (mark bytes : List ℕ) → Nowhere (OccursAt bytes mark) 0 (length bytes + 1) → cut_at mark bytes ≡ None
cut_at-nowhere mark [] nowhere = refl
cut_at-nowhere mark (b ∷ bs) nowhere =
    let not_here : starts_with nat_eq (b ∷ bs) mark ≡ false =
    false_from_ne_true _ (λ starts. nowhere 0 (omega arith) (omega arith) (OccursAt-front mark (b ∷ bs) starts)) in
    let later = cut_at-nowhere mark bs (λ k low high occurs. nowhere (suc k) (omega arith) (omega arith) (OccursAt-earlier mark b bs k occurs)) in
    rw not_here (ap (option_map (onto_cut b)) later)

-- the first position of a mark
pub cut_at-first : (mark bytes : List ℕ) (position : ℕ) → 0 < length mark → Nowhere (OccursAt bytes mark) 0 position → OccursAt bytes mark position → cut_at mark bytes ≡ Some (record { before = take position bytes; after = drop (position + length mark) bytes })
cut_at-first mark [] position some before occurs = absurd (omega (arith, occurs.fits))
cut_at-first mark (b ∷ bs) zero some before occurs =
    rw (starts_with-front mark (b ∷ bs) occurs)
    (ap (λ n. let cut : Cut = record { before = []; after = drop n (b ∷ bs) } in Some cut) (sym (zero-add (length mark))))
cut_at-first mark (b ∷ bs) (suc position) some before occurs =
    let not_here : starts_with nat_eq (b ∷ bs) mark ≡ false =
    false_from_ne_true _ (λ starts. before 0 (omega arith) (omega arith) (OccursAt-front mark (b ∷ bs) starts)) in
    let later = cut_at-first mark bs position some (λ k low high at. before (suc k) (omega arith) (omega arith) (OccursAt-earlier mark b bs k at)) (OccursAt-later mark b bs position occurs) in
    rw not_here
    (ap (option_map (onto_cut b)) later
    ∙ ap (λ n. let cut : Cut = record { before = b ∷ take position bs; after = drop n (b ∷ bs) } in Some cut) (sym (next_position mark b bs position (length mark))))

-- the same, where the rest is taken up to its end
pub cut_at-position : (mark bytes : List ℕ) (position : ℕ) → 0 < length mark → Nowhere (OccursAt bytes mark) 0 position → OccursAt bytes mark position → cut_at mark bytes ≡ Some (record { before = take position bytes; after = take (length bytes - (position + length mark)) (drop (position + length mark) bytes) })
cut_at-position mark bytes position some before occurs =
    cut_at-first mark bytes position some before occurs
    ∙ ap (λ after. let cut : Cut = record { before = take position bytes; after = after } in Some cut) (sym (take_rest bytes (position + length mark)))

-- bytes are what stands before a mark, the mark, and what follows it
pub cut_at-parts : (mark bytes : List ℕ) (cut : Cut) → cut_at mark bytes ≡ Some cut → bytes ≡ cut.before ++ (mark ++ cut.after)
cut_at-parts mark [] cut is = absurd (none-some cut is)
cut_at-parts mark (b ∷ bs) cut is =
    ⊎_elim
    (λ here.
    subst (λ (c : Cut). b ∷ bs ≡ c.before ++ (mark ++ c.after)) (same_Some _ cut (rw here at is))
    ((starts_is Decides-eqb (b ∷ bs) mark _ refl).0 here))
    (λ other.
    let later = option_map_found (onto_cut b) (cut_at mark bs) cut (rw other at is) in
    subst (λ (c : Cut). b ∷ bs ≡ c.before ++ (mark ++ c.after)) later.2 (ap (λ xs. b ∷ xs) (cut_at-parts mark bs later.0 later.1)))
    (cases_Bool (starts_with nat_eq (b ∷ bs) mark))

-- a mark of one byte
pub cut_at-byte : (b : ℕ) (before after : List ℕ) → has_byte b before ≡ false → cut_at (b ∷ []) (before ++ b ∷ after) ≡ Some (record { before = before; after = after })
cut_at-byte b [] after without = rw (eq-eqb b b refl) refl
cut_at-byte b (x ∷ xs) after without =
    let parts = or_parts (eqb x b) (has_byte b xs) without in
    let other : eqb b x ≡ false = ne_eqb b x (λ same. eqb-false x b parts.0 (sym same)) in
    rw other (ap (option_map (onto_cut x)) (cut_at-byte b xs after parts.1))

-- a mark of one byte that stands nowhere
pub cut_at-no_byte : (b : ℕ) (bytes : List ℕ) → has_byte b bytes ≡ false → cut_at (b ∷ []) bytes ≡ None
cut_at-no_byte b [] without = refl
cut_at-no_byte b (x ∷ xs) without =
    let parts = or_parts (eqb x b) (has_byte b xs) without in
    let other : eqb b x ≡ false = ne_eqb b x (λ same. eqb-false x b parts.0 (sym same)) in
    rw other (ap (option_map (onto_cut x)) (cut_at-no_byte b xs parts.1))

-- a mark of one byte is that byte
pub one_byte : (mark : List ℕ) (d : ℕ) → 0 < length mark → length mark < 2 → mark ≡ get_or mark 0 d ∷ []
one_byte [] d some few = absurd (omega (arith, some))
one_byte (b ∷ []) d some few = refl
one_byte (b ∷ c ∷ bs) d some few = absurd (omega (arith, few))

-- the cut at a mark of one byte, by what a search for the byte finds
pub cut_at-found : (mark : List ℕ) (b : ℕ) (bytes : List ℕ) (r : Option (Bor (List ℕ) × Bor (List ℕ))) → mark ≡ b ∷ []
    → MatchOption r (has_byte b bytes ≡ false) (λ parts. (has_byte b parts.0.now ≡ false) × (bytes ≡ parts.0.now ++ b ∷ parts.1.now))
    → MatchOption r (cut_at mark bytes ≡ None) (λ parts. cut_at mark bytes ≡ Some (record { before = parts.0.now; after = parts.1.now }))
cut_at-found mark b bytes None is without = ap (λ m. cut_at m bytes) is ∙ cut_at-no_byte b bytes without
cut_at-found mark b bytes (Some parts) is found =
    ap (λ m. cut_at m bytes) is ∙ ap (cut_at (b ∷ [])) found.1 ∙ cut_at-byte b parts.0.now parts.1.now found.0

-- what stands before the first position of a byte has none
pub cut_at-before : (b : ℕ) (bytes : List ℕ) (cut : Cut) → cut_at (b ∷ []) bytes ≡ Some cut → has_byte b cut.before ≡ false
cut_at-before b [] cut is = absurd (none-some cut is)
cut_at-before b (x ∷ xs) cut is =
    ⊎_elim (λ here. subst (λ (c : Cut). has_byte b c.before ≡ false) (same_Some _ cut (rw here at is)) refl)
    (λ other.
    let later = option_map_found (onto_cut x) (cut_at (b ∷ []) xs) cut (rw other at is) in
    let differs : eqb x b ≡ false = ne_eqb x b (λ same. eqb-false b x other (sym same)) in
    subst (λ (c : Cut). has_byte b c.before ≡ false) later.2 (or_from (eqb x b) (has_byte b later.0.before) differs (cut_at-before b xs later.0 later.1)))
    (cases_Bool (eqb b x))
