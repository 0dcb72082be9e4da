-- Where the entry of each record stands in its probe.
use Rattle.std.proofs.Common.{◌≡◌, ℕ, ◌<◌, Bool, eqb, List, length, get_or, take, refl, sym, ap, ◌∙◌, subst, inl, inr, arith, length-take}
use Rattle.std.proofs.lemmas.Bool.{cases_lt, eq-eqb}
use Rattle.std.proofs.lemmas.List.{get_or_default, get_or-take}
use Rattle.std.proofs.lemmas.List.Elements.{All-from_get_or}
use Rattle.std.proofs.lemmas.List.Sums.{position_or_len_is}
use Rattle.std.specs.List.{All, IsAmong, before_first, count_by, position_or_len}
use Rattle.cdb_files.specs.Format.{Pair, entries_of}
use Rattle.cdb_files.specs.Image.{slots_of}
use Rattle.cdb_files.specs.Slots.{is_same, probe, table_entries, table_of}
use Rattle.cdb_files.proofs.FirstEmpty.{empty, is_same-other, is_same-self, length-probe}
use Rattle.cdb_files.proofs.Placing.{IsBefore, entry, slots_placed}
use Rattle.cdb_files.proofs.Entries.{among_earlier, kept, rising_all, rising_table}

-- the slots of a hash's table, in the order in which it is looked for
abbrev pub probe_of : List Pair → ℕ → List (ℕ × ℕ)
probe_of pairs hash = probe hash (slots_of (table_entries (table_of hash) pairs))

-- the entry of the i-th record
abbrev pub entry_of : List Pair → ℕ → ℕ × ℕ
entry_of pairs i = entry (entries_of pairs) i

-- it stands at one position, and before it in its probe stand earlier ones
pub record Stands (pairs : List Pair) (i : ℕ) : Type 0 where
  pub position : ℕ
  pub inside : position < length (probe_of pairs (entry_of pairs i).0)
  pub here : get_or (probe_of pairs (entry_of pairs i).0) position empty ≡ entry_of pairs i
  pub passed : (k : ℕ) → k < position → IsAmong (take i (entries_of pairs)) (get_or (probe_of pairs (entry_of pairs i).0) k empty)
  pub once : count_by (is_same (entry_of pairs i)) (slots_of (table_entries (table_of (entry_of pairs i).0) pairs)) ≡ 1

-- each record's entry stands so
pub stands : (pairs : List Pair) (i : ℕ) → i < length (entries_of pairs) → Stands pairs i
stands pairs i l =
    let es = entries_of pairs in
    let e = entry es i in
    let t = table_of e.0 in
    let test : ℕ × ℕ → Bool = λ x. eqb (table_of x.0) t in
    let slots = slots_of (table_entries t pairs) in
    let own = kept test es i l (eq-eqb t t refl) in
    let placed = slots_placed (table_entries t pairs) (rising_table t pairs) in
    let found = placed.found own.at own.inside in
    record {
      position = found.position;
      inside = omega (arith, found.inside, length-probe e.0 slots);
      here = subst (λ (x : ℕ × ℕ). get_or (probe x.0 slots) found.position empty ≡ x) own.here found.here;
      passed = λ k m. among_earlier test es i (get_or (probe e.0 slots) k empty) own
          (subst (λ (x : ℕ × ℕ). IsBefore (table_entries t pairs) own.at (get_or (probe x.0 slots) k empty)) own.here (found.passed k m));
      once = subst (λ (x : ℕ × ℕ). count_by (is_same x) slots ≡ 1) own.here (placed.once own.at own.inside);
    }

-- an earlier entry stands at a lower position, which is not 0
pub earlier_lower : (pairs : List Pair) (i : ℕ) (s : ℕ × ℕ) → i < length (entries_of pairs) → IsAmong (take i (entries_of pairs)) s
    → (0 < s.1) × (s.1 < (entry_of pairs i).1)
earlier_lower pairs i s l a =
    let es = entries_of pairs in
    let rising = rising_all pairs in
    let size = length-take i es in
    let j = a.0 in
    let within : j < i = omega (arith, a.1.0) in
    let same : s.1 ≡ (entry es j).1 = ap (λ (x : ℕ × ℕ). x.1) (a.1.1 ∙ get_or-take i es j s within ∙ get_or_default es j s empty (omega (arith, l))) in
    ((omega (arith, same, rising.above j (omega (arith, l)))), (omega (arith, same, rising.rising j i within l)))

-- its position is the first at which the probe has it
pub position_is : (pairs : List Pair) (i : ℕ) → i < length (entries_of pairs) → (s : Stands pairs i)
    → position_or_len (is_same (entry_of pairs i)) (probe_of pairs (entry_of pairs i).0) ≡ s.position
position_is pairs i l s =
    let e = entry_of pairs i in
    position_or_len_is (is_same e) (probe_of pairs e.0) s.position empty (omega (arith, s.inside))
    (λ k m. is_same-other e (get_or (probe_of pairs e.0) k empty) (λ z. absurd (omega (arith, z, (earlier_lower pairs i (get_or (probe_of pairs e.0) k empty) l (s.passed k m)).1))))
    (λ _. ap (is_same e) s.here ∙ is_same-self e)

-- what a look-up passes before it are earlier entries
pub passes_earlier : (pairs : List Pair) (i : ℕ) → i < length (entries_of pairs)
    → All (IsAmong (take i (entries_of pairs))) (before_first (is_same (entry_of pairs i)) (probe_of pairs (entry_of pairs i).0))
passes_earlier pairs i l =
    let among : ℕ × ℕ → Type 0 = IsAmong (take i (entries_of pairs)) in
    let slots = probe_of pairs (entry_of pairs i).0 in
    let s = stands pairs i l in
    let passed : All among (take s.position slots) = All-from_get_or among (take s.position slots) empty (λ k m.
    let before : k < s.position = omega (arith, m, length-take s.position slots) in
    subst among (sym (get_or-take s.position slots k empty before)) (s.passed k before)) in
    subst (λ (n : ℕ). All among (take n slots)) (sym (position_is pairs i l s)) passed

-- of two entries with one hash the earlier is met first
pub met_first : (pairs : List Pair) (i j : ℕ) → i < j → j < length (entries_of pairs) → (entry_of pairs i).0 ≡ (entry_of pairs j).0
    → position_or_len (is_same (entry_of pairs i)) (probe_of pairs (entry_of pairs i).0) < position_or_len (is_same (entry_of pairs j)) (probe_of pairs (entry_of pairs j).0)
met_first pairs i j ij l same =
    let a = stands pairs i (omega arith) in
    let b = stands pairs j l in
    let rises = (rising_all pairs).rising i j ij l in
    let first = position_is pairs i (omega arith) a in
    let second = position_is pairs j l b in
    let there : get_or (probe_of pairs (entry_of pairs i).0) b.position empty ≡ entry_of pairs j =
    ap (λ (h : ℕ). get_or (probe_of pairs h) b.position empty) same ∙ b.here in
    elim (cases_lt a.position b.position) [
      | inl before ↦ omega arith
      | inr after ↦ absurd (elim (cases_lt b.position a.position) [
        | inl earlier ↦
            let lower = earlier_lower pairs i (get_or (probe_of pairs (entry_of pairs i).0) b.position empty) (omega arith) (a.passed b.position earlier) in
            omega (arith, lower.1, rises, ap (λ (s : ℕ × ℕ). s.1) there)
        | inr level ↦
            let one : a.position ≡ b.position = omega arith in
            let both : entry_of pairs i ≡ entry_of pairs j = sym a.here ∙ ap (λ (k : ℕ). get_or (probe_of pairs (entry_of pairs i).0) k empty) one ∙ there in
            omega (arith, rises, ap (λ (s : ℕ × ℕ). s.1) both)
      ])
    ]
