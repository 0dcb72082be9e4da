-- What `tcprulescheck` tells of a compiled file.
use Rattle.std.specs.Prelude.{◌≡◌, ◌⊎◌, ⊤, ℕ, Bool, IsTrue, List, Option, option_map, Ok, Err}
use Rattle.cdb_files.specs.Reading.{reading}
use Rattle.rule_lookup.specs.declared.code.CodeFault.TheVariants.{NotCode}
use Rattle.rule_lookup.specs.declared.source.FindFault.TheVariants.{Short}
use Rattle.rule_lookup.specs.declared.decision.DecideFault.TheVariants.{Find, Code}
use Rattle.rule_lookup.specs.declared.decision.Decision.{Decision}
use Rattle.rule_lookup.specs.declared.decision.WhenMissing.TheVariants.{Deny as DenyMissing}
use Rattle.rule_lookup.specs.Decisions.{decision_from}
use Rattle.rule_lookup.specs.Peers.{Client}
use Rattle.rules_install.specs.Steps.{HasFailed}
use Rattle.rules_tools.specs.declared.tcprulescheck.CheckFault.{CheckFault}
use Rattle.rules_tools.specs.declared.tcprulescheck.CheckFault.TheVariants.{Damaged, Device, ReadFault, OutOfMemory}

-- the decision by the bytes of a file, or where there is none that of a missing file
abbrev pub DecidesBy : Option (List ℕ) → Client → Decision → Type 0
DecidesBy file peer decision = decision_from (option_map reading file) DenyMissing peer ≡ Ok decision

-- no decision comes only where the decision by the bytes is a fault, and the file is called damaged; or where the device or memory fails
abbrev pub FailsBy : Option (List ℕ) → Client → CheckFault → Type 0
FailsBy file peer Damaged =
    (decision_from (option_map reading file) DenyMissing peer ≡ Err (Find Short))
    ⊎ (decision_from (option_map reading file) DenyMissing peer ≡ Err (Code NotCode))
FailsBy file peer Device = ⊤
FailsBy file peer ReadFault = ⊤
FailsBy file peer OutOfMemory = ⊤
FailsBy file peer fault = ⊥

-- the device is blamed for an opening only where it failed, and for a read only where the file is not sound
abbrev pub Blames : ℕ → ℕ → Bool → CheckFault → Type 0
Blames before now sound Device = HasFailed before now
Blames before now sound ReadFault = ¬ IsTrue sound
Blames before now sound fault = ⊤
