-- The addresses of a range, and how long rules are where they are stored.
use Rattle.std.specs.Prelude.{ℕ, ◌+◌, List, ◌++◌, length, map, decimal}
use Rattle.std.specs.List.{range_with_len, sum_by}
use Rattle.rule_lines.specs.declared.spread.Numbers.{Numbers}
use Rattle.rule_lookup.specs.Codes.{code_of}
use Rattle.rule_lookup.specs.Pairs.{Rule}

-- an address for each number, between two parts
abbrev pub addresses_under : List ℕ → Numbers → List ℕ → List (List ℕ)
addresses_under front numbers back = map (λ n. front ++ decimal n ++ back) (range_with_len numbers.first numbers.count)

-- how many bytes a rule has where it is stored: its address, and the code of its instruction
abbrev pub rule_length : Rule → ℕ
rule_length rule = length rule.address + length (code_of rule.instr)

-- and all rules together
abbrev pub stored_length : List Rule → ℕ
stored_length rules = sum_by rule_length rules

-- the same of addresses, each with a code of this length
abbrev pub length_with : ℕ → List (List ℕ) → ℕ
length_with code addresses = sum_by (λ (address : List ℕ). length address + code) addresses
