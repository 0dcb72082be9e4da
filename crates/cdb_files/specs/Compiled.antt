-- Compiled files of rule texts.
use Rattle.std.specs.Prelude.{ℕ, List, map}
use Rattle.cdb_files.specs.Format.{Pair}
use Rattle.cdb_files.specs.IsCdb.{IsCdb}
use Rattle.rule_lookup.specs.Codes.{code_of}
use Rattle.rule_lookup.specs.Pairs.{Rule, pairs_of}

-- a rule is stored under its address, as the code of its instruction
abbrev pub pair_of : Rule → Pair
pair_of rule = record { key = rule.address; value = code_of rule.instr }

abbrev pub stored : List Rule → List Pair
stored rules = map pair_of rules

-- a file is compiled of a text
abbrev pub Compiled : List ℕ → List ℕ → Type 0
Compiled file text = IsCdb file (stored (pairs_of text))
