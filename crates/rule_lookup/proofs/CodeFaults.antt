-- Bytes that are no code have no instruction.
use Rattle.std.proofs.Common.{◌≡◌, ℕ, List, Option, Some, None, refl, ap, ◌∙◌}
use Rattle.rule_lookup.proofs.CodeLemmas.{code_of-decoded, IsInstr-decoded}
use Rattle.rule_lookup.specs.declared.instr.Instr.{Instr}
use Rattle.rule_lookup.specs.Codes.{decoded, IsCode, RefusesCode}
use Rattle.rule_lookup.specs.Lookups.{Finding, Has, Trust, WhereKnown}
use Rattle.rule_lookup.specs.declared.code.CodeFault.TheVariants.{NotCode}
use Rattle.rule_lookup.specs.declared.code.DecodeFault.{DecodeFault}
use Rattle.rule_lookup.specs.declared.code.DecodeFault.TheVariants.{Code as NoCode, OutOfMemory as NoMemoryToDecode}
use Rattle.rule_lookup.specs.Decisions.{LookupFails, instr_by, instr_in, of_code}
use Rattle.rule_lookup.proofs.DecisionLemmas.{WhereKnown-map}

pub decoded-none : (bytes : List ℕ) → ¬ IsCode bytes → decoded bytes ≡ None
decoded-none bytes none = by_cases (decoded bytes) refl where
  by_cases : (o : Option Instr) → decoded bytes ≡ o → o ≡ None
  by_cases None is = refl
  by_cases (Some instr) is = absurd (none (instr, IsInstr-decoded bytes instr is, code_of-decoded bytes instr is))

-- so what is found and is no code has none
pub refused-code : (t : Trust) (found : Finding) (code : List ℕ) (fault : DecodeFault) → WhereKnown t (found ≡ Has code) → RefusesCode code fault → LookupFails t (instr_in found) (of_code fault)
refused-code t found code (NoCode NotCode) is refuses = WhereKnown-map t (λ h. ap instr_in h ∙ ap instr_by (decoded-none code refuses)) is
refused-code t found code NoMemoryToDecode is refuses = tt
