-- Numbers, hashes and records of a compiled file, as the cdb page has them.
use Rattle.std.specs.Prelude.{ℕ, ◌+◌, ◌*◌, ◌^◌, ◌%◌, List, [], ◌∷◌, ◌++◌, bit_xor, length, drop, flat_map}
use Rattle.std.specs.List.{fold}
use Rattle.byteorder.specs.Endian.{little_bytes, little_number}

-- a number: 32 bits, the lowest byte first
abbrev pub number : ℕ → List ℕ
number n = little_bytes 4 n

-- the number at a position of a file
abbrev pub number_at : List ℕ → ℕ → ℕ
number_at file position = little_number 4 (drop position file)

-- two numbers, one after the other: a pointer (position, number of slots), or a slot (hash, position)
abbrev pub two_numbers : ℕ × ℕ → List ℕ
two_numbers p = number p.0 ++ number p.1

abbrev pub two_numbers_at : List ℕ → ℕ → ℕ × ℕ
two_numbers_at file position = (number_at file position, number_at file (position + 4))

-- the hash of one byte more
abbrev pub hash_step : ℕ → ℕ → ℕ
hash_step h c = bit_xor ((h * 32 + h) % 2 ^ 32) c

-- the hash of a key, in 32 bits (over bytes no step leaves them)
abbrev pub hash_of : List ℕ → ℕ
hash_of key = fold hash_step 5381 key % 2 ^ 32

-- a key with its value
pub record Pair : Type 0 where
  pub key : List ℕ
  pub value : List ℕ

-- a record: the length of its key, the length of its value, the key, the value
abbrev pub record_bytes : List ℕ → List ℕ → List ℕ
record_bytes key value = number (length key) ++ number (length value) ++ key ++ value

abbrev pub record_of : Pair → List ℕ
record_of pair = record_bytes pair.key pair.value

abbrev pub records_of : List Pair → List ℕ
records_of pairs = flat_map record_of pairs

-- the slots that stand for records from a position on: each the hash of its key, and its position
abbrev pub entries_from : ℕ → List Pair → List (ℕ × ℕ)
entries_from position [] = []
entries_from position (pair ∷ pairs) =
    (hash_of pair.key, position) ∷ entries_from (position + 8 + length pair.key + length pair.value) pairs

-- records stand after the pointers
abbrev pub entries_of : List Pair → List (ℕ × ℕ)
entries_of pairs = entries_from 2048 pairs
