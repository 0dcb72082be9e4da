-- Decisions by a file that is compiled of a text.
use Rattle.std.proofs.Common.{◌≡◌, Result, Ok, refl}
use Rattle.rule_lookup.specs.Lookups.{Sound}
use Rattle.rule_lookup.specs.declared.decision.Decision.{Decision}
use Rattle.rule_lookup.specs.declared.decision.DecideFault.{DecideFault}
use Rattle.rule_lookup.specs.declared.decision.DecideFault.TheVariants.{Find, Code, OutOfMemory}
use Rattle.rule_lookup.specs.Decisions.{DecisionFails}
use Rattle.rule_lookup.specs.declared.source.FindFault.TheVariants.{Short, Device, OutOfMemory as NoMemoryToFind}

-- where there is a decision, a file that is sound has no fault but want of memory
pub fault-OutOfMemory : (expected : Result Decision DecideFault) (decision : Decision) (fault : DecideFault) → expected ≡ Ok decision → DecisionFails Sound expected fault → fault ≡ OutOfMemory
fault-OutOfMemory expected decision (Find Short) is fails = cc
fault-OutOfMemory expected decision (Find Device) is fails = absurd (fails refl)
fault-OutOfMemory expected decision (Find NoMemoryToFind) is fails = absurd fails
fault-OutOfMemory expected decision (Code kind) is fails = cc
fault-OutOfMemory expected decision OutOfMemory is fails = refl
