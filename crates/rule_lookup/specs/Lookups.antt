-- What a look-up in a source of pairs answers.
use Rattle.std.specs.Prelude.{◌≡◌, ◌≢◌, ℕ, List, Option, Some, None, find, bytes_eq}
use Rattle.std.specs.Borrow.{Bor}
use Rattle.rule_lookup.specs.declared.source.FindFault.{FindFault}
use Rattle.rule_lookup.specs.declared.source.FindFault.TheVariants.{Short, Device, OutOfMemory}
use Rattle.rule_lookup.specs.Codes.{code_of}
use Rattle.rule_lookup.specs.Pairs.{Rule}

-- the value of the first pair with the key, or that there is none, or that the source is damaged
pub data Finding : Type 0 where
  Has : List ℕ → Finding
  Absent : Finding
  Broken : Finding

-- how far a source is known to answer what it finds: not at all; where its device does not fail; always
pub data Trust : Type 0 where
  Unknown : Trust
  Honest : Trust
  Sound : Trust

-- what is said of a source that is known to be honest
abbrev pub WhereKnown : Trust → Type 0 → Type 0
WhereKnown Unknown fact = Unit {0}
WhereKnown Honest fact = fact
WhereKnown Sound fact = fact

-- an answer without a fault
abbrev pub Answers : Trust → Finding → Option (List ℕ) → Type 0
Answers trust found (Some code) = WhereKnown trust (found ≡ Has code)
Answers trust found None = WhereKnown trust (found ≡ Absent)

-- a fault: a source that is sound has none of its device
abbrev pub Fails : Trust → Finding → FindFault → Type 0
Fails trust found Short = WhereKnown trust (found ≡ Broken)
Fails trust found Device = trust ≢ Sound
Fails trust found OutOfMemory = Unit {0}

-- the code of a rule that was found, or that there is none
abbrev pub code_under : Option Rule → Finding
code_under None = Absent
code_under (Some rule) = Has (code_of rule.instr)

-- what a list of pairs finds under a key: the code of the first one with this address
abbrev pub found_among : List Rule → List ℕ → Finding
found_among rules key = code_under (find (λ (rule : Rule). bytes_eq rule.address key) rules)

-- a code that was found, or none
abbrev pub code_found : Option (Bor (List ℕ)) → Finding
code_found None = Absent
code_found (Some code) = Has code.now
