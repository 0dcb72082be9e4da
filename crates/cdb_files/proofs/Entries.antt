-- The entries of the records: they rise, they fit their numbers, and so do those of one table.
use Rattle.std.proofs.Common.{◌≡◌, ℕ, zero, suc, ◌+◌, ◌^◌, ◌<◌, ◌≤◌, Bool, true, List, [], ◌∷◌, ◌++◌, length, get_or, take, drop, refl, sym, ap, ◌∙◌, subst, arith, length-append, mod-lt}
use Rattle.std.proofs.lemmas.Bool.{cond-true, cond_both}
use Rattle.std.proofs.lemmas.List.{drop_more, get_or_at, get_or_default, get_or-take, length-take-le, take-append-drop, take_at}
use Rattle.std.proofs.lemmas.List.Elements.{All-cons, All-filter, All-nil, filter-append}
use Rattle.std.specs.List.{All, IsAmong, filter}
use Rattle.cdb_files.specs.Format.{Pair, entries_from, entries_of, hash_of, record_of, records_of}
use Rattle.cdb_files.specs.Image.{finished_length, records_length}
use Rattle.cdb_files.specs.Slots.{table_entries}
use Rattle.cdb_files.proofs.FirstEmpty.{empty}
use Rattle.cdb_files.proofs.Placing.{IsBefore, Rising, entry}

-- positions rise from above a position
abbrev pub Above : ℕ → List (ℕ × ℕ) → Type 0
Above position [] = Unit
Above position (e ∷ es) = (position < e.1) × Above e.1 es

-- what rises from above a position rises from above a lower one
above-lower : (low high : ℕ) (es : List (ℕ × ℕ)) → low ≤ high → Above high es → Above low es
above-lower low high [] l a = tt
above-lower low high (e ∷ es) l a = ((omega (arith, a.0)), a.1)

-- what a test keeps rises too
above-filter : (test : ℕ × ℕ → Bool) (position : ℕ) (es : List (ℕ × ℕ)) → Above position es → Above position (filter test es)
above-filter test position [] a = tt
above-filter test position (e ∷ es) a =
    cond_both (test e) (e ∷ filter test es) (filter test es) (Above position)
    (λ kept. (a.0, above-filter test e.1 es a.1))
    (λ out. above-lower position e.1 (filter test es) (omega (arith, a.0)) (above-filter test e.1 es a.1))

-- each position is above the least
above-at : (position k : ℕ) (es : List (ℕ × ℕ)) → Above position es → k < length es → position < (entry es k).1
above-at position k [] a l = absurd (omega arith)
above-at position zero (e ∷ es) a l = a.0
above-at position (suc k) (e ∷ es) a l = omega (arith, a.0, above-at e.1 k es a.1 (omega arith))

-- a later position is above an earlier one
above-rising : (position j k : ℕ) (es : List (ℕ × ℕ)) → Above position es → j < k → k < length es → (entry es j).1 < (entry es k).1
above-rising position j k [] a jk l = absurd (omega arith)
above-rising position j zero (e ∷ es) a jk l = absurd (omega arith)
above-rising position zero (suc k) (e ∷ es) a jk l = above-at e.1 k es a.1 (omega arith)
above-rising position (suc j) (suc k) (e ∷ es) a jk l = above-rising e.1 j k es a.1 (omega arith) (omega arith)

-- entries above position 0 rise
rising_from_above : (es : List (ℕ × ℕ)) → Above 0 es → Rising es
rising_from_above es a = record { above = λ j l. above-at 0 j es a l; rising = λ j k jk l. above-rising 0 j k es a jk l }

-- the entries of records that stand from a position on are above any lower position
above-entries : (low position : ℕ) (pairs : List Pair) → low < position → Above low (entries_from position pairs)
above-entries low position [] l = tt
above-entries low position (pair ∷ pairs) l = (l, above-entries position _ pairs (omega arith))

-- the entries of all records rise
pub rising_all : (pairs : List Pair) → Rising (entries_of pairs)
rising_all pairs = rising_from_above (entries_of pairs) (above-entries 0 2048 pairs (omega arith))

-- the entries of one table rise
pub rising_table : (t : ℕ) (pairs : List Pair) → Rising (table_entries t pairs)
rising_table t pairs = rising_from_above (table_entries t pairs) (above-filter _ 0 (entries_of pairs) (above-entries 0 2048 pairs (omega arith)))

-- where the next record stands
abbrev after : ℕ → Pair → ℕ
after position pair = position + 8 + length pair.key + length pair.value

-- from any position on there is an entry for each record
length-entries_from : (position : ℕ) (pairs : List Pair) → length (entries_from position pairs) ≡ length pairs
length-entries_from position [] = refl
length-entries_from position (pair ∷ pairs) = ap suc (length-entries_from (after position pair) pairs)

-- there is an entry for each record
pub length-entries : (pairs : List Pair) → length (entries_of pairs) ≡ length pairs
length-entries pairs = length-entries_from 2048 pairs

-- from any position on an entry has the hash of its record's key
hash-entries_from : (position i : ℕ) (pairs : List Pair) (e : ℕ × ℕ) (p : Pair) → i < length pairs
    → (get_or (entries_from position pairs) i e).0 ≡ hash_of (get_or pairs i p).key
hash-entries_from position i [] e p l = absurd (omega arith)
hash-entries_from position zero (pair ∷ pairs) e p l = refl
hash-entries_from position (suc i) (pair ∷ pairs) e p l = hash-entries_from (after position pair) i pairs e p (omega arith)

-- an entry has the hash of its record's key
pub hash-entries : (i : ℕ) (pairs : List Pair) (e : ℕ × ℕ) (p : Pair) → i < length pairs
    → (get_or (entries_of pairs) i e).0 ≡ hash_of (get_or pairs i p).key
hash-entries i pairs e p l = hash-entries_from 2048 i pairs e p l

-- two numbers fit their 32 bits
abbrev pub AreFit : ℕ × ℕ → Type 0
AreFit p = (p.0 < 2 ^ 32) × (p.1 < 2 ^ 32)

-- how long a record is
length-record : (pair : Pair) (rest : List ℕ) → length (record_of pair ++ rest) ≡ 8 + length pair.key + length pair.value + length rest
length-record pair rest = omega (arith, length-append (pair.key ++ pair.value) rest, length-append pair.key pair.value)

-- the entries fit where the records end below 2 ^ 32
fit-entries_from : (position : ℕ) (pairs : List Pair) → position + records_length pairs < 2 ^ 32 → All AreFit (entries_from position pairs)
fit-entries_from position [] l = All-nil AreFit
fit-entries_from position (pair ∷ pairs) l =
    let size = length-record pair (records_of pairs) in
    All-cons AreFit (hash_of pair.key, position) (entries_from (after position pair) pairs) (mod-lt _ (omega arith), (omega (arith, l)))
    (fit-entries_from (after position pair) pairs (omega (arith, l, size)))

-- the entries of a table fit where the whole file does
pub fit_table : (t : ℕ) (pairs : List Pair) → finished_length pairs < 2 ^ 32 → All AreFit (table_entries t pairs)
fit_table t pairs l = All-filter _ AreFit (entries_of pairs) (fit-entries_from 2048 pairs (omega arith))

-- where an entry stands among those that a test keeps: behind the kept ones of those before it
pub record Kept (test : ℕ × ℕ → Bool) (es : List (ℕ × ℕ)) (i : ℕ) : Type 0 where
  pub at : ℕ
  pub inside : at < length (filter test es)
  pub here : entry (filter test es) at ≡ entry es i
  pub earlier : take at (filter test es) ≡ filter test (take i es)

-- each entry that passes is kept
pub kept : (test : ℕ × ℕ → Bool) (es : List (ℕ × ℕ)) (i : ℕ) → i < length es → test (entry es i) ≡ true → Kept test es i
kept test es i l passes =
    let front = filter test (take i es) in
    let back = filter test (drop (i + 1) es) in
    let split : filter test es ≡ front ++ (entry es i ∷ back) =
    ap (filter test) (sym (take-append-drop i es) ∙ ap (λ (r : List (ℕ × ℕ)). take i es ++ r) (drop_more es i empty l))
    ∙ filter-append test (take i es) (entry es i ∷ drop (i + 1) es)
    ∙ ap (λ (r : List (ℕ × ℕ)). front ++ r) (cond-true (test (entry es i)) (entry es i ∷ back) back passes) in
    record {
      at = length front;
      inside = omega (arith, ap length split, length-append front (entry es i ∷ back));
      here = ap (λ (r : List (ℕ × ℕ)). entry r (length front)) split ∙ get_or_at front (entry es i) back empty (length front) refl;
      earlier = ap (take (length front)) split ∙ take_at front (entry es i ∷ back) (length front) refl;
    }

-- what a test keeps is among what there was
among-filter : (test : ℕ × ℕ → Bool) (es : List (ℕ × ℕ)) → All (IsAmong es) (filter test es)
among-filter test es = All-filter test (IsAmong es) es (λ k d l. (k, (l, get_or_default es k d _ l)))

-- a kept entry before the position of another is among those before the other
pub among_earlier : (test : ℕ × ℕ → Bool) (es : List (ℕ × ℕ)) (i : ℕ) (s : ℕ × ℕ) → (k : Kept test es i) → IsBefore (filter test es) k.at s → IsAmong (take i es) s
among_earlier test es i s k b =
    let front = filter test (take i es) in
    let position = ap (λ (r : List (ℕ × ℕ)). entry r b.0) k.earlier in
    let same : entry front b.0 ≡ s = sym position ∙ get_or-take k.at (filter test es) b.0 empty b.1 ∙ sym b.2 in
    let size : length front ≡ k.at = sym (ap length k.earlier) ∙ length-take-le k.at (filter test es) (omega (arith, k.inside)) in
    subst (IsAmong (take i es)) same (among-filter test (take i es) b.0 empty (omega (arith, size, b.1)))
