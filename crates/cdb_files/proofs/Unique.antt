-- Two files that are written of the same pairs have the same slots.
use Rattle.std.proofs.Common.{◌≡◌, ◌⊎◌, ℕ, zero, suc, ◌+◌, ◌*◌, ◌/◌, ◌%◌, ◌<◌, ◌≤◌, Bool, true, cond, eqb, List, [], ◌∷◌, length, get_or, take, refl, sym, ap, ◌∙◌, subst, inl, inr, arith, length-take, mod-lt}
use Rattle.std.proofs.lemmas.Bool.{cases_lt, eqb-true}
use Rattle.std.proofs.lemmas.List.{ext_get_or, get_or_default, get_or-take}
use Rattle.std.proofs.lemmas.List.Elements.{All-filter, All-from_get_or, All-get_or, filter_passes}
use Rattle.std.proofs.lemmas.List.FromFn.{length-map-range_with_len}
use Rattle.std.proofs.lemmas.List.Sums.{passes_at_first, sum_by-cons}
use Rattle.std.specs.List.{IsAmong, count_by, position_or_len}
use Rattle.cdb_files.specs.Format.{Pair, entries_of, two_numbers_at}
use Rattle.cdb_files.specs.Slots.{is_same, pointer_at, probe, probe_at, slots_at, table_entries, table_of}
use Rattle.cdb_files.specs.Written.{Written}
use Rattle.cdb_files.proofs.Entries.{length-entries, rising_all}
use Rattle.cdb_files.proofs.Placing.{entry}
use Rattle.cdb_files.proofs.FirstEmpty.{count_by-probe, empty, first_inside, get_or-probe, is_same-self, length-probe, nth, same_from_is_same}
use Rattle.cdb_files.proofs.Standing.{entry_of}

-- ---- one position where an element passes

count_pos : (p : ℕ × ℕ → Bool) (xs : List (ℕ × ℕ)) (k : ℕ) → k < length xs → p (get_or xs k empty) ≡ true → 0 < count_by p xs
count_pos p [] k l h = absurd (omega arith)
count_pos p (x ∷ xs) zero l h = omega (arith, sum_by-cons (λ (s : ℕ × ℕ). cond (p s) 1 0) x xs, ap {B = ℕ} (λ (b : Bool). cond b 1 0) h)
count_pos p (x ∷ xs) (suc k) l h = omega (arith, sum_by-cons (λ (s : ℕ × ℕ). cond (p s) 1 0) x xs, count_pos p xs k (omega arith) h)

one_position : (p : ℕ × ℕ → Bool) (xs : List (ℕ × ℕ)) (k l : ℕ) → count_by p xs ≤ 1 → k < length xs → l < length xs → p (get_or xs k empty) ≡ true → p (get_or xs l empty) ≡ true → k ≡ l
one_position p [] k l once inside there here same = absurd (omega arith)
one_position p (x ∷ xs) zero zero once inside there here same = refl
one_position p (x ∷ xs) zero (suc l) once inside there here same =
    absurd (omega (arith, once, sum_by-cons (λ (s : ℕ × ℕ). cond (p s) 1 0) x xs, ap {B = ℕ} (λ (b : Bool). cond b 1 0) here, count_pos p xs l (omega arith) same))
one_position p (x ∷ xs) (suc k) zero once inside there here same =
    absurd (omega (arith, once, sum_by-cons (λ (s : ℕ × ℕ). cond (p s) 1 0) x xs, ap {B = ℕ} (λ (b : Bool). cond b 1 0) same, count_pos p xs k (omega arith) here))
one_position p (x ∷ xs) (suc k) (suc l) once inside there here same =
    ap suc (one_position p xs k l (omega (arith, once, sum_by-cons (λ (s : ℕ × ℕ). cond (p s) 1 0) x xs)) (omega arith) (omega arith) here same)

-- ---- what a written file has in its slots

pub length-slots : (pairs : List Pair) (file : List ℕ) (t : ℕ) → Written file pairs → t < 256 → length (slots_at file t) ≡ 2 * length (table_entries t pairs)
length-slots pairs file t w l =
    length-map-range_with_len (λ i. two_numbers_at file ((pointer_at file t).0 + 8 * i)) 0 (pointer_at file t).1 ∙ ap (λ (p : ℕ × ℕ). p.1) (w.pointers t l)

-- the table of an entry
abbrev table_at : List Pair → ℕ → ℕ
table_at pairs i = table_of (entry_of pairs i).0

table-lt : (pairs : List Pair) (i : ℕ) → table_at pairs i < 256
table-lt pairs i = mod-lt (entry_of pairs i).0 {m = 256} (omega arith)

-- where the entry of a record stands in its probe
record At (pairs : List Pair) (file : List ℕ) (i : ℕ) : Type 0 where
  position : ℕ
  inside : position < length (slots_at file (table_at pairs i))
  here : get_or (probe_at file (entry_of pairs i).0) position empty ≡ entry_of pairs i
  passed : (k : ℕ) → k < position → IsAmong (take i (entries_of pairs)) (get_or (probe_at file (entry_of pairs i).0) k empty)
  once : count_by (is_same (entry_of pairs i)) (slots_at file (table_at pairs i)) ≡ 1

stands_at : (pairs : List Pair) (file : List ℕ) (i : ℕ) → Written file pairs → i < length (entries_of pairs) → At pairs file i
stands_at pairs file i w l =
    let es = entries_of pairs in
    let e = entry es i in
    let slots = slots_at file (table_of e.0) in
    let probed = probe e.0 slots in
    let once : count_by (is_same e) slots ≡ 1 = All-get_or (λ (x : ℕ × ℕ). count_by (is_same x) (slots_at file (table_of x.0)) ≡ 1) es i empty l w.cdb.one_slot in
    let first : position_or_len (is_same e) probed < length probed = first_inside (is_same e) probed (omega (arith, once, count_by-probe (is_same e) e.0 slots)) in
    let before = w.past_earlier i empty (omega (arith, l, length-entries pairs)) in
    record {
      position = position_or_len (is_same e) probed;
      inside = omega (arith, first, length-probe e.0 slots);
      here = same_from_is_same e (get_or probed (position_or_len (is_same e) probed) empty) (passes_at_first (is_same e) probed empty first);
      passed = λ k m. subst (IsAmong (take i es)) (get_or-take (position_or_len (is_same e) probed) probed k empty m)
          (All-get_or (IsAmong (take i es)) (take (position_or_len (is_same e) probed) probed) k empty (omega (arith, m, first, length-take (position_or_len (is_same e) probed) probed)) before);
      once = once;
    }

-- an earlier entry
record Earlier (pairs : List Pair) (i : ℕ) (s : ℕ × ℕ) : Type 0 where
  j : ℕ
  before : j < i
  is : s ≡ entry_of pairs j

earlier : (pairs : List Pair) (i : ℕ) (s : ℕ × ℕ) → i < length (entries_of pairs) → IsAmong (take i (entries_of pairs)) s → Earlier pairs i s
earlier pairs i s l a =
    let es = entries_of pairs in
    let j = a.0 in
    let within : j < i = omega (arith, a.1.0, length-take i es) in
    record { j = j; before = within; is = a.1.1 ∙ get_or-take i es j s within ∙ get_or_default es j s empty (omega (arith, l)) }

-- the entry in a slot of a table
record Holds (pairs : List Pair) (t : ℕ) (s : ℕ × ℕ) : Type 0 where
  j : ℕ
  inside : j < length (entries_of pairs)
  table : table_at pairs j ≡ t
  is : s ≡ entry_of pairs j

among_table : (pairs : List Pair) (t : ℕ) (s : ℕ × ℕ) → IsAmong (table_entries t pairs) s → Holds pairs t s
among_table pairs t s a =
    let es = entries_of pairs in
    let test : ℕ × ℕ → Bool = λ x. eqb (table_of x.0) t in
    let each : (k : ℕ) → k < length es → IsAmong es (get_or es k empty) = λ k l. (k, (l, get_or_default es k empty (get_or es k empty) l)) in
    let all = All-get_or (IsAmong es) (table_entries t pairs) a.0 s a.1.0 (All-filter test (IsAmong es) es (All-from_get_or (IsAmong es) es empty each)) in
    let among : IsAmong es s = subst (IsAmong es) (sym a.1.1) all in
    let is : s ≡ entry es among.0 = among.1.1 ∙ get_or_default es among.0 s empty among.1.0 in
    let passes : test s ≡ true = subst (λ (x : ℕ × ℕ). test x ≡ true) (sym a.1.1) (All-get_or (λ (x : ℕ × ℕ). test x ≡ true) (table_entries t pairs) a.0 s a.1.0 (filter_passes test es)) in
    record { j = among.0; inside = among.1.0; table = ap (λ (x : ℕ × ℕ). table_of x.0) (sym is) ∙ eqb-true (table_of s.0) t passes; is = is }

held : (pairs : List Pair) (file : List ℕ) (t q : ℕ) → Written file pairs → t < 256 → q < length (slots_at file t) → (get_or (slots_at file t) q empty ≡ empty) ⊎ Holds pairs t (get_or (slots_at file t) q empty)
held pairs file t q w l inside =
    let s = get_or (slots_at file t) q empty in
    elim (All-get_or (λ (x : ℕ × ℕ). (x.1 ≡ 0) ⊎ IsAmong (table_entries t pairs) x) (slots_at file t) q empty inside (w.cdb.no_other t l)) [
      | inl none ↦
          let hash : s.0 ≡ 0 = All-get_or (λ (x : ℕ × ℕ). x.1 ≡ 0 → x.0 ≡ 0) (slots_at file t) q empty inside (w.zeros t l) none in
          inl (λ i. (hash i, none i))
      | inr among ↦ inr (among_table pairs t s among)
    ]

-- an entry is not the empty slot
filled : (pairs : List Pair) (j : ℕ) → j < length (entries_of pairs) → entry_of pairs j ≡ empty → ⊥
filled pairs j l is = absurd (omega (arith, (rising_all pairs).above j l, ap (λ (s : ℕ × ℕ). s.1) is))

-- ---- two files

-- where the one has one of the first i entries, the other has it
abbrev Agree : List Pair → List ℕ → List ℕ → ℕ → Type 0
Agree pairs a b i =
    (j : ℕ) → j < i → (k : ℕ) → k < length (slots_at a (table_at pairs j))
    → get_or (slots_at a (table_at pairs j)) k empty ≡ entry_of pairs j → get_or (slots_at b (table_at pairs j)) k empty ≡ entry_of pairs j

module _ (pairs : List Pair) (a b : List ℕ) (wa : Written a pairs) (wb : Written b pairs) where
  same_size : (t : ℕ) → t < 256 → length (slots_at a t) ≡ length (slots_at b t)
  same_size t l = length-slots pairs a t wa l ∙ sym (length-slots pairs b t wb l)

  -- the next entry does not stand earlier in the probe of the one
  not_before : (i : ℕ) → i < length (entries_of pairs) → Agree pairs b a i → (x : At pairs a i) (y : At pairs b i) → x.position < y.position → ⊥
  not_before i l agree x y less =
      let e = entry_of pairs i in
      let t = table_at pairs i in
      let size = same_size t (table-lt pairs i) in
      let q = nth e.0 x.position (slots_at b t) in
      let inside : x.position < length (slots_at b t) = omega (arith, x.inside, size) in
      let q_in : q < length (slots_at b t) = mod-lt (e.0 / 256 + x.position) (omega (arith, inside)) in
      let old = earlier pairs i (get_or (probe_at b e.0) x.position empty) l (y.passed x.position less) in
      let slot : get_or (slots_at b t) q empty ≡ entry_of pairs old.j = sym (get_or-probe e.0 x.position (slots_at b t) empty inside) ∙ old.is in
      let old_in : old.j < length (entries_of pairs) = omega (arith, old.before, l) in
      let table : table_at pairs old.j ≡ t = elim (held pairs b t q wb (table-lt pairs i) q_in) [
        | inl none ↦ absurd (filled pairs old.j old_in (sym slot ∙ none))
        | inr h ↦ ap (λ (s : ℕ × ℕ). table_of s.0) (sym slot ∙ h.is) ∙ h.table
      ] in
      let there : get_or (slots_at a t) q empty ≡ entry_of pairs old.j =
      subst (λ (u : ℕ). q < length (slots_at b u) → get_or (slots_at b u) q empty ≡ entry_of pairs old.j → get_or (slots_at a u) q empty ≡ entry_of pairs old.j) table (agree old.j old.before q) q_in slot in
      let own : get_or (slots_at a t) q empty ≡ e =
      ap (λ (n : ℕ). get_or (slots_at a t) ((e.0 / 256 + x.position) % n) empty) (sym size) ∙ sym (get_or-probe e.0 x.position (slots_at a t) empty x.inside) ∙ x.here in
      omega (arith, (rising_all pairs).rising old.j i old.before l, ap (λ (s : ℕ × ℕ). s.1) (sym there ∙ own))

  -- where both stand at one position of the probe, the other has it where the one has it
  at_one : (i : ℕ) → (x : At pairs a i) (y : At pairs b i) → x.position ≡ y.position → (k : ℕ) → k < length (slots_at a (table_at pairs i))
      → get_or (slots_at a (table_at pairs i)) k empty ≡ entry_of pairs i → get_or (slots_at b (table_at pairs i)) k empty ≡ entry_of pairs i
  at_one i x y level k inside has =
      let e = entry_of pairs i in
      let t = table_at pairs i in
      let size = same_size t (table-lt pairs i) in
      let q = nth e.0 x.position (slots_at a t) in
      let q_in : q < length (slots_at a t) = mod-lt (e.0 / 256 + x.position) (omega (arith, inside)) in
      let own : get_or (slots_at a t) q empty ≡ e = sym (get_or-probe e.0 x.position (slots_at a t) empty x.inside) ∙ x.here in
      let same : k ≡ q = one_position (is_same e) (slots_at a t) k q (omega (arith, x.once)) inside q_in (ap (is_same e) has ∙ is_same-self e) (ap (is_same e) own ∙ is_same-self e) in
      let moved : q ≡ nth e.0 y.position (slots_at b t) = ap (λ (n : ℕ). (e.0 / 256 + n) % length (slots_at a t)) level ∙ ap (λ (n : ℕ). (e.0 / 256 + y.position) % n) size in
      ap (λ (n : ℕ). get_or (slots_at b t) n empty) (same ∙ moved) ∙ sym (get_or-probe e.0 y.position (slots_at b t) empty y.inside) ∙ y.here

module _ (pairs : List Pair) (a b : List ℕ) (wa : Written a pairs) (wb : Written b pairs) where
  -- both stand at one position of the probe
  level : (i : ℕ) → i < length (entries_of pairs) → Agree pairs a b i → Agree pairs b a i → (x : At pairs a i) (y : At pairs b i) → x.position ≡ y.position
  level i l ab ba x y =
      elim (cases_lt x.position y.position) [
        | inl less ↦ absurd (not_before pairs a b wa wb i l ba x y less)
        | inr le ↦ elim (cases_lt y.position x.position) [
          | inl less ↦ absurd (not_before pairs b a wb wa i l ab y x less)
          | inr ge ↦ omega arith
        ]
      ]

  agree : (n : ℕ) → n ≤ length (entries_of pairs) → Agree pairs a b n × Agree pairs b a n
  agree zero l = (λ j less. absurd (omega arith), λ j less. absurd (omega arith))
  agree (suc n) l =
      let both = agree n (omega arith) in
      let inside : n < length (entries_of pairs) = omega arith in
      let x = stands_at pairs a n wa inside in
      let y = stands_at pairs b n wb inside in
      let one = level n inside both.0 both.1 x y in (
        (λ j less. elim (cases_lt j n) [
          | inl before ↦ both.0 j before
          | inr past ↦ (let last : j ≡ n = omega arith in subst (λ (m : ℕ). (k : ℕ) → k < length (slots_at a (table_at pairs m)) → get_or (slots_at a (table_at pairs m)) k empty ≡ entry_of pairs m → get_or (slots_at b (table_at pairs m)) k empty ≡ entry_of pairs m) (sym last) (at_one pairs a b wa wb n x y one))
        ]),
        (λ j less. elim (cases_lt j n) [
          | inl before ↦ both.1 j before
          | inr past ↦ (let last : j ≡ n = omega arith in subst (λ (m : ℕ). (k : ℕ) → k < length (slots_at b (table_at pairs m)) → get_or (slots_at b (table_at pairs m)) k empty ≡ entry_of pairs m → get_or (slots_at a (table_at pairs m)) k empty ≡ entry_of pairs m) (sym last) (at_one pairs b a wb wa n y x (sym one)))
        ]),
      )

  -- what the one has in a slot of a table, the other has there
  copies : (t k : ℕ) → t < 256 → k < length (slots_at a t) → Agree pairs a b (length (entries_of pairs)) → Holds pairs t (get_or (slots_at a t) k empty) → get_or (slots_at b t) k empty ≡ get_or (slots_at a t) k empty
  copies t k l inside ab h =
      subst (λ (u : ℕ). k < length (slots_at a u) → get_or (slots_at a u) k empty ≡ entry_of pairs h.j → get_or (slots_at b u) k empty ≡ entry_of pairs h.j) h.table (ab h.j h.inside k) inside h.is ∙ sym h.is

module _ (pairs : List Pair) (a b : List ℕ) (wa : Written a pairs) (wb : Written b pairs) where
  same_slot : (t k : ℕ) → t < 256 → k < length (slots_at a t) → get_or (slots_at a t) k empty ≡ get_or (slots_at b t) k empty
  same_slot t k l inside =
      let both = agree pairs a b wa wb (length (entries_of pairs)) (omega arith) in
      let inside' : k < length (slots_at b t) = omega (arith, inside, same_size pairs a b wa wb t l) in
      elim (held pairs a t k wa l inside) [
        | inr h ↦ sym (copies pairs a b wa wb t k l inside both.0 h)
        | inl none ↦ elim (held pairs b t k wb l inside') [
          | inr h ↦ copies pairs b a wb wa t k l inside' both.1 h
          | inl none' ↦ none ∙ sym none'
        ]
      ]

  pub same_slots : (t : ℕ) → t < 256 → slots_at a t ≡ slots_at b t
  same_slots t l = ext_get_or empty (slots_at a t) (slots_at b t) (same_size pairs a b wa wb t l) (λ k m. same_slot t k l m)
