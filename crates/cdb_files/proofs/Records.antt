-- Where the records of some pairs stand in a compiled file, and what is read back of each.
use Rattle.std.proofs.Common.{◌≡◌, ℕ, zero, suc, ◌+◌, ◌-◌, ◌^◌, ◌<◌, ◌≤◌, List, [], ◌∷◌, ◌++◌, length, take, drop, get_or, le_refl, ◌≢◌, refl, sym, ap, ◌∙◌, arith}
use Rattle.std.proofs.lemmas.List.{append_assoc, drop-drop, drop_at, length-append, length-drop, take-append-drop, take_at}
use Rattle.byteorder.specs.Endian.{little_number}
use Rattle.byteorder.specs.Numbers.{little_number-reads_back}
use Rattle.cdb_files.specs.Format.{Pair, entries_from, entries_of, hash_of, number, number_at, record_of, records_of}
use Rattle.cdb_files.specs.IsCdb.{IsCdb}

-- the record of a pair begins at a position of a file
pub record StandsAt (file : List ℕ) (position : ℕ) (pair : Pair) : Type 0 where
  pub rest : List ℕ
  pub is : drop position file ≡ record_of pair ++ rest

-- the record of a pair is read back at a position of a file
pub record IsReadAt (file : List ℕ) (position : ℕ) (pair : Pair) : Type 0 where
  pub inside : position + 8 + length pair.key + length pair.value ≤ length file
  pub key_length : number_at file position ≡ length pair.key
  pub value_length : number_at file (position + 4) ≡ length pair.value
  pub key : take (length pair.key) (drop (position + 8) file) ≡ pair.key
  pub value : take (length pair.value) (drop (position + 8 + length pair.key) file) ≡ pair.value

-- a record is two numbers, a key and a value long
pub length-record_of : (pair : Pair) → length (record_of pair) ≡ 8 + length pair.key + length pair.value
length-record_of pair = omega (arith, length-append pair.key pair.value)

-- each record stands where its entry says
pub stands : (file : List ℕ) (pairs : List Pair) (position : ℕ) (rest : List ℕ) → drop position file ≡ records_of pairs ++ rest
    → (j : ℕ) (p : Pair) (e : ℕ × ℕ) → j < length pairs → StandsAt file (get_or (entries_from position pairs) j e).1 (get_or pairs j p)
stands file [] position rest begins j p e inside = absurd (omega arith)
stands file (pair ∷ pairs) position rest begins zero p e inside =
    record { rest = records_of pairs ++ rest; is = begins ∙ append_assoc (record_of pair) (records_of pairs) rest }
stands file (pair ∷ pairs) position rest begins (suc j) p e inside =
    let size = length (record_of pair) in
    let long : size ≡ 8 + length pair.key + length pair.value = length-record_of pair in
    let next : position + size ≡ position + 8 + length pair.key + length pair.value = omega arith in
    let whole : drop position file ≡ record_of pair ++ (records_of pairs ++ rest) = begins ∙ append_assoc (record_of pair) (records_of pairs) rest in
    let after : drop (position + size) file ≡ records_of pairs ++ rest =
    sym (drop-drop size position file) ∙ ap (drop size) whole ∙ drop_at (record_of pair) (records_of pairs ++ rest) size refl in
    let moved : drop (position + 8 + length pair.key + length pair.value) file ≡ records_of pairs ++ rest = rw next at after in
    stands file pairs (position + 8 + length pair.key + length pair.value) rest moved j p e (omega arith)

-- a number that was written is read back
number-reads_back : (file : List ℕ) (position n : ℕ) (rest : List ℕ) → n < 2 ^ 32 → drop position file ≡ number n ++ rest → number_at file position ≡ n
number-reads_back file position n rest small is = ap (little_number 4) is ∙ little_number-reads_back 4 n rest small

-- what stands some bytes further on
further : (file bytes : List ℕ) (position n m : ℕ) → drop position file ≡ bytes → position + n ≡ m → drop m file ≡ drop n bytes
further file bytes position n m is sum = ap (λ k. drop k file) (sym sum) ∙ sym (drop-drop n position file) ∙ ap (drop n) is

-- a record that stands in a file is read back
pub read_back : (file : List ℕ) (position : ℕ) (pair : Pair) → length file < 2 ^ 32 → StandsAt file position pair → IsReadAt file position pair
read_back file position pair fits at =
    let bytes = record_of pair ++ at.rest in
    let text : drop 8 bytes ≡ pair.key ++ (pair.value ++ at.rest) = append_assoc pair.key pair.value at.rest in
    let long : length file - position ≡ 8 + length pair.key + length pair.value + length at.rest =
    sym (length-drop position file) ∙ ap length at.is ∙ omega (arith, length-append (record_of pair) at.rest, length-record_of pair) in
    let key_from : drop (position + 8) file ≡ pair.key ++ (pair.value ++ at.rest) = further file bytes position 8 (position + 8) at.is refl ∙ text in
    let value_from : drop (position + 8 + length pair.key) file ≡ pair.value ++ at.rest =
    further file (pair.key ++ (pair.value ++ at.rest)) (position + 8) (length pair.key) (position + 8 + length pair.key) key_from refl
    ∙ drop_at pair.key (pair.value ++ at.rest) (length pair.key) refl in
    let lengths : drop position file ≡ number (length pair.key) ++ (number (length pair.value) ++ ((pair.key ++ pair.value) ++ at.rest)) = at.is in
    let second : drop (position + 4) file ≡ number (length pair.value) ++ ((pair.key ++ pair.value) ++ at.rest) = further file bytes position 4 (position + 4) at.is refl in
    record {
      inside = omega arith;
      key_length = number-reads_back file position (length pair.key) (number (length pair.value) ++ ((pair.key ++ pair.value) ++ at.rest)) (omega arith) lengths;
      value_length = number-reads_back file (position + 4) (length pair.value) ((pair.key ++ pair.value) ++ at.rest) (omega arith) second;
      key = ap (take (length pair.key)) key_from ∙ take_at pair.key (pair.value ++ at.rest) (length pair.key) refl;
      value = ap (take (length pair.value)) value_from ∙ take_at pair.value at.rest (length pair.value) refl;
    }

-- there is an entry for each pair
pub length-entries_from : (pairs : List Pair) (position : ℕ) → length (entries_from position pairs) ≡ length pairs
length-entries_from [] position = refl
length-entries_from (pair ∷ pairs) position =
    ap suc (length-entries_from pairs (position + 8 + length pair.key + length pair.value))

-- each with the hash of its key
pub hash-entries_from : (pairs : List Pair) (position j : ℕ) (p : Pair) (e : ℕ × ℕ) → j < length pairs
    → (get_or (entries_from position pairs) j e).0 ≡ hash_of (get_or pairs j p).key
hash-entries_from [] position j p e inside = absurd (omega arith)
hash-entries_from (pair ∷ pairs) position zero p e inside = refl
hash-entries_from (pair ∷ pairs) position (suc j) p e inside =
    hash-entries_from pairs (position + 8 + length pair.key + length pair.value) j p e (omega arith)

-- and a position no earlier than the first
pub position-entries_from : (pairs : List Pair) (position j : ℕ) (e : ℕ × ℕ) → j < length pairs → position ≤ (get_or (entries_from position pairs) j e).1
position-entries_from [] position j e inside = absurd (omega arith)
position-entries_from (pair ∷ pairs) position zero e inside = le_refl position
position-entries_from (pair ∷ pairs) position (suc j) e inside =
    let later = position-entries_from pairs (position + 8 + length pair.key + length pair.value) j e (omega arith) in
    omega arith

-- what a slot that stands for a pair says: the hash of its key, and where its record is read back
pub record IsSlotOf (file : List ℕ) (pair : Pair) (slot : ℕ × ℕ) : Type 0 where
  pub hash : slot.0 ≡ hash_of pair.key
  pub filled : slot.1 ≢ 0
  pub read : IsReadAt file slot.1 pair

-- the entry of each pair is such a slot
pub entry_is : (file : List ℕ) (pairs : List Pair) → IsCdb file pairs → (j : ℕ) (p : Pair) (e : ℕ × ℕ) → j < length pairs
    → IsSlotOf file (get_or pairs j p) (get_or (entries_of pairs) j e)
entry_is file pairs cdb j p e inside =
    let rest = drop (length (records_of pairs)) (drop 2048 file) in
    let begins : drop 2048 file ≡ records_of pairs ++ rest =
    sym (take-append-drop (length (records_of pairs)) (drop 2048 file)) ∙ ap (λ front. front ++ rest) cdb.records in
    let late = position-entries_from pairs 2048 j e inside in
    record {
      hash = hash-entries_from pairs 2048 j p e inside;
      filled = omega arith;
      read = read_back file (get_or (entries_of pairs) j e).1 (get_or pairs j p) cdb.fits (stands file pairs 2048 rest begins j p e inside);
    }
