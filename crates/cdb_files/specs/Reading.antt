-- What a lookup in a compiled file finds, whatever the bytes of the file.
use Rattle.std.specs.Prelude.{ℕ, ◌+◌, ◌*◌, ◌==◌, ◌&&◌, ◌||◌, not, nat_le, Bool, List, length, take, drop, find, Option, Some, None, bytes_eq, if◌then◌else◌}
use Rattle.cdb_files.specs.Format.{Pair, hash_of, number_at}
use Rattle.cdb_files.specs.Slots.{is_empty, pointer_at, probe_at, table_of}
use Rattle.rule_lookup.specs.Lookups.{Finding}
use Rattle.rule_lookup.specs.Lookups.Finding.{Has, Absent, Broken}

-- so many bytes from a position on lie in a file
abbrev pub lies_in : List ℕ → ℕ → ℕ → Bool
lies_in file position len = nat_le (position + len) (length file)

-- the lengths of the key and of the value of the record at a position
abbrev pub key_length : List ℕ → ℕ → ℕ
key_length file position = number_at file position

abbrev pub value_length : List ℕ → ℕ → ℕ
value_length file position = number_at file (position + 4)

-- the record at a position lies in the file: its lengths, its key and its value
abbrev pub holds_record : List ℕ → ℕ → Bool
holds_record file position =
    lies_in file position 8 && lies_in file (position + 8 + key_length file position) (value_length file position)

-- where the key of the record at a position would stand, there are other bytes
abbrev pub has_other_bytes : List ℕ → List ℕ → ℕ → Bool
has_other_bytes file key position = not (bytes_eq (take (length key) (drop (position + 8) file)) key)

-- the record at a position lies in the file, and has another key
abbrev pub has_other_key : List ℕ → List ℕ → ℕ → Bool
has_other_key file key position =
    holds_record file position && (not (key_length file position == length key) || has_other_bytes file key position)

-- a slot with another hash, or of a record with another key, is passed
abbrev pub is_passed : List ℕ → List ℕ → ℕ × ℕ → Bool
is_passed file key slot =
    not (is_empty slot) && (not (slot.0 == hash_of key) || has_other_key file key slot.1)

-- the value of the record at a position, which has this key, if it lies in the file
abbrev pub value_at : List ℕ → List ℕ → ℕ → Finding
value_at file key position =
    if holds_record file position
    then Has (take (value_length file position) (drop (position + 8 + length key) file))
    else Broken

-- the slot that is not passed decides: where it is empty, or where there is none, there is no such key
abbrev pub found_at : List ℕ → List ℕ → Option (ℕ × ℕ) → Finding
found_at file key None = Absent
found_at file key (Some slot) = if is_empty slot then Absent else value_at file key slot.1

-- in the table of the key: the first slot of the probe that is not passed
abbrev pub found_in_table : List ℕ → List ℕ → ℕ × ℕ → Finding
found_in_table file key pointer =
    if pointer.1 == 0 then Absent
    else (if lies_in file pointer.0 (8 * pointer.1)
    then found_at file key (find (λ (slot : ℕ × ℕ). not (is_passed file key slot)) (probe_at file (hash_of key)))
    else Broken)

-- a file shorter than the pointers is damaged
abbrev pub reading : List ℕ → List ℕ → Finding
reading file key =
    if lies_in file 0 2048 then found_in_table file key (pointer_at file (table_of (hash_of key))) else Broken

-- the value of a pair that was found, or that there is none
abbrev pub value_of : Option Pair → Finding
value_of None = Absent
value_of (Some pair) = Has pair.value

-- the value of the first pair with a key
abbrev pub first_value : List Pair → List ℕ → Finding
first_value pairs key = value_of (find (λ (pair : Pair). bytes_eq pair.key key) pairs)
