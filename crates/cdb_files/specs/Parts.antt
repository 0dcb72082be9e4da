-- The parts of a lookup in a compiled file.
use Rattle.std.specs.Prelude.{◌≡◌, ◌≤◌, ℕ, ◌+◌, ◌*◌, Bool, false, not, List, ◌∷◌, ◌++◌, length, map, find, take, drop, Option, Some, None, Result, IfOk, IfErr, IsTrue, if◌then◌else◌}
use Rattle.std.specs.List.{range_with_len}
use Rattle.cdb_files.specs.Format.{hash_of, two_numbers_at}
use Rattle.cdb_files.specs.Slots.{probe}
use Rattle.cdb_files.specs.Reading.{found_at, has_other_key, is_passed, value_at}
use Rattle.rule_lookup.specs.Lookups.{Finding}
use Rattle.rule_lookup.specs.Lookups.Finding.{Has, Absent, Broken}
use Rattle.rule_lookup.specs.declared.source.FindFault.{FindFault}
use Rattle.rule_lookup.specs.declared.source.FindFault.TheVariants.{Short, Device, OutOfMemory}
use Rattle.rule_lookup.specs.Settings.{Assignment}
use Rattle.rule_lookup.specs.Codes.{decoded, settings_in, settings_with}
use Rattle.rule_lookup.specs.Lines.{has_byte, pieces_of}
use Rattle.rule_lookup.specs.declared.decision.DecideFault.{DecideFault}
use Rattle.rule_lookup.specs.declared.decision.DecideFault.TheVariants.{Find, Code, OutOfMemory as NoMemory}
use Rattle.cdb_files.specs.declared.cdb_file.Stored.{Stored}
use Rattle.cdb_files.specs.declared.window.Window.{Window}

-- so many bytes from a position on
abbrev pub bytes_at : List ℕ → ℕ → ℕ → List ℕ
bytes_at file position len = take len (drop position file)

-- what the record at a position has for a key: nothing, if it has another key
abbrev pub record_at : List ℕ → List ℕ → ℕ → Finding
record_at file key position = if has_other_key file key position then Absent else value_at file key position

-- the slots that a pointer names: where they stand, and how many they are
abbrev pub slots_from : List ℕ → ℕ × ℕ → List (ℕ × ℕ)
slots_from file pointer = map (λ i. two_numbers_at file (pointer.0 + 8 * i)) (range_with_len 0 pointer.1)

-- what is found among slots: the first that is not passed decides
abbrev pub found_in_probe : List ℕ → List ℕ → List (ℕ × ℕ) → Finding
found_in_probe file key slots = found_at file key (find (λ (slot : ℕ × ℕ). not (is_passed file key slot)) slots)

-- what is found among the slots that a pointer names, in the order in which the key's hash is looked for
abbrev pub found_in_slots : List ℕ → List ℕ → ℕ × ℕ → Finding
found_in_slots file key pointer = found_in_probe file key (probe (hash_of key) (slots_from file pointer))

-- the position of a record's value, and the value
abbrev pub value_position : Stored → ℕ
value_position stored = stored.position + 8 + stored.key_len

abbrev pub value_of : List ℕ → Stored → List ℕ
value_of file stored = bytes_at file (value_position stored) stored.value_len

-- a record's value lies in a file
abbrev pub IsInside : List ℕ → Stored → Type 0
IsInside file stored = value_position stored + stored.value_len ≤ length file

-- an answer is a record whose value is what is found, and lies in the file
abbrev pub IsRecord : List ℕ → Finding → Option Stored → Type 0
IsRecord file found (Some stored) = (found ≡ Has (value_of file stored)) × IsInside file stored
IsRecord file found None = found ≡ Absent

abbrev pub Tells : List ℕ → Finding → Result (Option Stored) FindFault → Type 0
Tells file found result = IfOk result (IsRecord file found)

-- bytes of a file that were read together
abbrev pub IsWindowOf : List ℕ → Window → Type 0
IsWindowOf file window = window.bytes.items ≡ bytes_at file window.position (length window.bytes.items)

-- that have so many bytes from a position on
abbrev pub Covers : Window → ℕ → ℕ → Type 0
Covers window position len = (window.position ≤ position) × (position + len ≤ window.position + length window.bytes.items)

-- a fault where something is to be found in a file of which it is known, or not, that it is honest and that it is sound
abbrev pub IsFault : Bool → Bool → Finding → FindFault → Type 0
IsFault honest sound found Short = IsTrue honest → found ≡ Broken
IsFault honest sound found Device = IsTrue sound → ⊥
IsFault honest sound found OutOfMemory = Unit {0}

-- a fault of a read inside such a file
abbrev pub ReadFails : Bool → Bool → FindFault → Type 0
ReadFails honest sound Short = IsTrue honest → ⊥
ReadFails honest sound Device = IsTrue sound → ⊥
ReadFails honest sound OutOfMemory = Unit {0}

-- an answer that is a fault is one where this is to be found
abbrev pub FailsOf : {X : Type 0} → Bool → Bool → Finding → Result X FindFault → Type 0
FailsOf honest sound found result = IfErr result (IsFault honest sound found)

-- a fault of a read inside such a file, where a decision is asked for
abbrev pub IsReadFault : Bool → Bool → DecideFault → Type 0
IsReadFault honest sound (Find Short) = IsTrue honest → ⊥
IsReadFault honest sound (Find Device) = IsTrue sound → ⊥
IsReadFault honest sound (Find OutOfMemory) = ⊥
IsReadFault honest sound (Code fault) = ⊥
IsReadFault honest sound NoMemory = Unit {0}

-- where a byte first stands among bytes, if it does
abbrev pub IsFirst : ℕ → List ℕ → Option ℕ → Type 0
IsFirst byte bytes None = has_byte byte bytes ≡ false
IsFirst byte bytes (Some at) = (has_byte byte (take at bytes) ≡ false) × (bytes ≡ take at bytes ++ byte ∷ drop (at + 1) bytes)

-- settings with codes behind them are other settings with those behind the first bytes of these codes
abbrev pub AddsCodes : List ℕ → List Assignment → List Assignment → ℕ → Type 0
AddsCodes codes old new count = settings_with new (drop count codes) ≡ settings_with old codes

-- a fault where bytes inside such a file are read as the codes of settings
abbrev pub SettingsFail : Bool → Bool → List ℕ → DecideFault → Type 0
SettingsFail honest sound codes (Find Short) = IsTrue honest → ⊥
SettingsFail honest sound codes (Find Device) = IsTrue sound → ⊥
SettingsFail honest sound codes (Find OutOfMemory) = ⊥
SettingsFail honest sound codes (Code fault) = IsTrue honest → settings_in (pieces_of 0 codes) ≡ None
SettingsFail honest sound codes NoMemory = Unit {0}

-- a fault where a value inside such a file is decoded
abbrev pub CodeFails : Bool → Bool → List ℕ → DecideFault → Type 0
CodeFails honest sound value (Find Short) = IsTrue honest → ⊥
CodeFails honest sound value (Find Device) = IsTrue sound → ⊥
CodeFails honest sound value (Find OutOfMemory) = ⊥
CodeFails honest sound value (Code fault) = IsTrue honest → decoded value ≡ None
CodeFails honest sound value NoMemory = Unit {0}
