-- Records one after the other, and their entries.
use Rattle.std.proofs.Common.{◌≡◌, ℕ, ◌+◌, suc, List, [], ◌∷◌, ◌++◌, length, ◌∙◌, ap, refl, arith, length-append}
use Rattle.std.proofs.lemmas.List.{append-nil}
use Rattle.std.proofs.lemmas.List.Concat.{flat_map-append}
use Rattle.cdb_files.specs.Format.{Pair, entries_from, hash_of, record_bytes, record_of, records_of}
use Rattle.cdb_files.specs.Image.{finished_length}

pub length-record_bytes : (key value : List ℕ) → length (record_bytes key value) ≡ 8 + length key + length value
length-record_bytes key value = omega (arith, length-append key value)

pub length-entries_from : (pairs : List Pair) (position : ℕ) → length (entries_from position pairs) ≡ length pairs
length-entries_from [] position = refl
length-entries_from (p ∷ pairs) position = ap suc (length-entries_from pairs (position + 8 + length p.key + length p.value))

-- a record more, and its entry
pub records_of-push : (pairs : List Pair) (p : Pair) → records_of (pairs ++ p ∷ []) ≡ records_of pairs ++ record_of p
records_of-push pairs p =
    flat_map-append record_of pairs (p ∷ []) ∙ ap (λ bytes. records_of pairs ++ bytes) (append-nil (record_of p))

pub entries_from-push : (pairs : List Pair) (position : ℕ) (p : Pair) → entries_from position (pairs ++ p ∷ []) ≡ entries_from position pairs ++ (hash_of p.key, position + length (records_of pairs)) ∷ []
entries_from-push [] position p =
    let here : position ≡ position + 0 = omega arith in ap (λ at. (hash_of p.key, at) ∷ []) here
entries_from-push (q ∷ pairs) position p =
    let next = position + 8 + length q.key + length q.value in
    let behind : next + length (records_of pairs) ≡ position + length (records_of (q ∷ pairs)) = omega (arith, length-append (record_of q) (records_of pairs), length-record_bytes q.key q.value) in
    ap (λ es. (hash_of q.key, position) ∷ es) (entries_from-push pairs next p ∙ ap (λ at. entries_from next pairs ++ (hash_of p.key, at) ∷ []) behind)

-- a pair more
pub finished_length-push : (pairs : List Pair) (p : Pair) → finished_length (pairs ++ p ∷ []) ≡ finished_length pairs + 24 + length p.key + length p.value
finished_length-push pairs p =
    omega (arith, ap length (records_of-push pairs p), length-append (records_of pairs) (record_of p), length-record_bytes p.key p.value, length-append pairs (p ∷ []))
