-- Entries by their tables, and where each table stands.
use Rattle.std.proofs.Common.{◌≡◌, ◌≢◌, ℕ, ◌+◌, ◌*◌, ◌^◌, ◌<◌, ◌≤◌, cond, eqb, ltb, List, [], ◌∷◌, ◌++◌, length, set, get_or, map, ◌∙◌, ap, sym, refl, inl, inr, arith, length-set}
use Rattle.std.specs.List.{count_by}
use Rattle.std.proofs.Math.ListN.{replicate}
use Rattle.std.proofs.lemmas.Bool.{cases_eq, cond-false, eq-eqb, le-ltb, ne_eqb}
use Rattle.std.proofs.lemmas.Bool.Decides.{nat_tests}
use Rattle.std.proofs.lemmas.List.{append-nil, get_or-map, get_or-replicate, get_or-set_other, get_or-set_same, length-replicate, map-set, replicate-append-replicate, set-get_or}
use Rattle.std.proofs.lemmas.List.Elements.{filter-append}
use Rattle.std.proofs.lemmas.List.Sums.{count_by-le-length, length-filter, sum_by-cons}
use Rattle.cdb_files.specs.Format.{Pair, entries_of, records_of}
use Rattle.cdb_files.specs.Image.{finished_length, table_position}
use Rattle.cdb_files.specs.Slots.{table_entries, table_of, entries_in}
use Rattle.cdb_files.specs.Tables.{HoldsByTable}
use Rattle.cdb_files.proofs.RecordLemmas.{length-entries_from}

-- an entry more, in its own table and in another
entries_in-push_own : (t : ℕ) (entries : List (ℕ × ℕ)) (e : ℕ × ℕ) → table_of e.0 ≡ t → entries_in t (entries ++ e ∷ []) ≡ entries_in t entries ++ e ∷ []
entries_in-push_own t entries e own =
    filter-append (λ (x : ℕ × ℕ). eqb (table_of x.0) t) entries (e ∷ []) ∙ ap (λ b. entries_in t entries ++ cond b (e ∷ []) []) (eq-eqb _ _ own)

entries_in-push_other : (t : ℕ) (entries : List (ℕ × ℕ)) (e : ℕ × ℕ) → table_of e.0 ≢ t → entries_in t (entries ++ e ∷ []) ≡ entries_in t entries
entries_in-push_other t entries e other =
    filter-append (λ (x : ℕ × ℕ). eqb (table_of x.0) t) entries (e ∷ []) ∙ ap (λ b. entries_in t entries ++ cond b (e ∷ []) []) (ne_eqb _ _ other) ∙ append-nil (entries_in t entries)

pub HoldsByTable-push : (lists : List (List (ℕ × ℕ))) (entries : List (ℕ × ℕ)) (e : ℕ × ℕ) (t : ℕ) → t ≡ table_of e.0 → t < 256 → HoldsByTable lists entries → HoldsByTable (set lists t (get_or lists t [] ++ e ∷ [])) (entries ++ e ∷ [])
HoldsByTable-push lists entries e t is within held = record {
  tables = length-set lists t (get_or lists t [] ++ e ∷ []) ∙ held.tables;
  each = λ k below.
      elim (cases_eq k t) [
        | inl same ↦
            rw same (get_or-set_same lists t (get_or lists t [] ++ e ∷ []) [] (omega (arith, within, held.tables)) ∙ ap (λ xs. xs ++ e ∷ []) (held.each t within) ∙ sym (entries_in-push_own t entries e (sym is)))
        | inr other ↦
            get_or-set_other lists t k (get_or lists t [] ++ e ∷ []) [] other ∙ held.each k below ∙ sym (entries_in-push_other k entries e (λ h. other (sym h ∙ sym is)))
      ];
}

-- the entries before the next table are those before this one, and its own
count_by-before_more : (t : ℕ) (entries : List (ℕ × ℕ)) → count_by (λ (e : ℕ × ℕ). ltb (table_of e.0) (t + 1)) entries ≡ count_by (λ (e : ℕ × ℕ). ltb (table_of e.0) t) entries + count_by (λ (e : ℕ × ℕ). eqb (table_of e.0) t) entries
count_by-before_more t [] = refl
count_by-before_more t (e ∷ entries) =
    let one : cond (ltb (table_of e.0) (t + 1)) 1 0 ≡ cond (ltb (table_of e.0) t) 1 0 + cond (eqb (table_of e.0) t) 1 0 = one_before_more (table_of e.0) t in
    omega (arith, one, count_by-before_more t entries, sum_by-cons (λ (x : ℕ × ℕ). cond (ltb (table_of x.0) (t + 1)) 1 0) e entries, sum_by-cons (λ (x : ℕ × ℕ). cond (ltb (table_of x.0) t) 1 0) e entries, sum_by-cons (λ (x : ℕ × ℕ). cond (eqb (table_of x.0) t) 1 0) e entries)
  where
    one_before_more : (a t : ℕ) → cond (ltb a (t + 1)) 1 0 ≡ cond (ltb a t) 1 0 + cond (eqb a t) 1 0
    one_before_more a t = grind (arith, nat_tests)

-- a table begins where the one before it ends
pub table_position-more : (pairs : List Pair) (t : ℕ) → table_position pairs t + 16 * length (table_entries t pairs) ≡ table_position pairs (t + 1)
table_position-more pairs t =
    omega (arith, count_by-before_more t (entries_of pairs), length-filter (λ (e : ℕ × ℕ). eqb (table_of e.0) t) (entries_of pairs))

pub table_position-le : (pairs : List Pair) (t : ℕ) → table_position pairs t ≤ finished_length pairs
table_position-le pairs t =
    omega (arith, count_by-le-length (λ (e : ℕ × ℕ). ltb (table_of e.0) t) (entries_of pairs), length-entries_from pairs 2048)

-- one list of many is written again
pub map-set_same : {X Y : Type 0} (f : X → Y) (xs : List X) (i : ℕ) (x y : X) → x ≡ get_or xs i x → f y ≡ f x → map f (set xs i y) ≡ map f xs
map-set_same f xs i x y here same =
    map-set f xs i y ∙ ap (λ v. set (map f xs) i v) (same ∙ ap f here) ∙ sym (map-set f xs i (get_or xs i x)) ∙ ap (map f) (set-get_or xs i x)

pub map-set_push : {X Y : Type 0} (f : X → List Y) (xs : List X) (i : ℕ) (x y : X) (e : Y) → i < length xs → x ≡ get_or xs i x → f y ≡ f x ++ e ∷ [] → map f (set xs i y) ≡ set (map f xs) i (get_or (map f xs) i [] ++ e ∷ [])
map-set_push f xs i x y e within here more =
    map-set f xs i y ∙ ap (λ v. set (map f xs) i v) (more ∙ ap (λ v. v ++ e ∷ []) (ap f here ∙ sym (get_or-map f xs i x [] within)))

-- lists with nothing in them hold no entries
pub HoldsByTable-none : (n : ℕ) (lists : List (List (ℕ × ℕ))) → n ≡ 256 → lists ≡ replicate n [] → HoldsByTable lists []
HoldsByTable-none n lists all empty = record {
  tables = ap length empty ∙ length-replicate n [] ∙ all;
  each = λ t below. ap (λ ls. get_or ls t []) empty ∙ get_or-replicate n t [] [] (omega (arith, all, below));
}

pub replicate-push : {X : Type 0} (n : ℕ) (x : X) → replicate (n + 1) x ≡ replicate n x ++ x ∷ []
replicate-push n x = sym (replicate-append-replicate n 1 x)

-- the first table stands behind the records
pub table_position-zero : (pairs : List Pair) → table_position pairs 0 ≡ 2048 + length (records_of pairs)
table_position-zero pairs = omega (arith, none_before_zero (entries_of pairs))
  where
    none_before_zero : (entries : List (ℕ × ℕ)) → count_by (λ (e : ℕ × ℕ). ltb (table_of e.0) 0) entries ≡ 0
    none_before_zero [] = refl
    none_before_zero (e ∷ entries) = omega (arith, none_before_zero entries, sum_by-cons (λ (x : ℕ × ℕ). cond (ltb (table_of x.0) 0) 1 0) e entries, cond-false {A = ℕ} (ltb (table_of e.0) 0) 1 0 (le-ltb (table_of e.0) 0 (omega arith)))

-- a table ends inside the finished file
pub table_fits : (pairs : List Pair) (t : ℕ) (entries : List (ℕ × ℕ)) → finished_length pairs < 2 ^ 32 → entries ≡ table_entries t pairs → table_position pairs t + 16 * length entries < 2 ^ 32
table_fits pairs t entries fits e =
    omega (arith, fits, ap length e, table_position-more pairs t, table_position-le pairs (t + 1))
