-- What is known of a file, said of it as a source.
use Rattle.std.proofs.Common.{◌≡◌, Bool, true, false, List, ℕ, IsTrue, refl, ap, ◌∙◌}
use Rattle.std.specs.Prelude.{◌≢◌}
use Rattle.cdb_files.specs.Parts.{CodeFails, IsFault}
use Rattle.cdb_files.specs.Sources.{trust_of}
use Rattle.rule_lookup.specs.Decisions.{LookupFails, instr_by, instr_in, of_look_up}
use Rattle.rule_lookup.specs.Lookups.{Fails, Finding, WhereKnown}
use Rattle.rule_lookup.specs.Lookups.Finding.{Has}
use Rattle.rule_lookup.specs.Lookups.Trust.{Sound}
use Rattle.rule_lookup.specs.declared.code.CodeFault.TheVariants.{NotCode}
use Rattle.rule_lookup.specs.declared.decision.DecideFault.{DecideFault}
use Rattle.rule_lookup.specs.declared.decision.DecideFault.TheVariants.{Find, Code, OutOfMemory as NoMemory}
use Rattle.rule_lookup.specs.declared.source.FindFault.{FindFault}
use Rattle.rule_lookup.specs.declared.source.FindFault.TheVariants.{Short, Device, OutOfMemory}

-- what holds where it is honest, as a sound file is
pub known : (honest sound : Bool) (P : Type 0) → (IsTrue sound → IsTrue honest) → (IsTrue honest → P) → WhereKnown (trust_of honest sound) P
known true true P law holds = holds refl
known false true P law holds = holds (law refl)
known true false P law holds = holds refl
known false false P law holds = tt

-- one whose device fails is not sound
pub unsound : (honest sound : Bool) → (IsTrue sound → ⊥) → trust_of honest sound ≢ Sound
unsound honest true fails = λ _. fails refl
unsound true false fails = λ is. cc
unsound false false fails = λ is. cc

-- what is to be found could not be read
pub Fails-find : (honest sound : Bool) (found : Finding) (e : FindFault) → (IsTrue sound → IsTrue honest) → IsFault honest sound found e → Fails (trust_of honest sound) found e
Fails-find honest sound found Short law fails = known honest sound _ law fails
Fails-find honest sound found Device law fails = unsound honest sound fails
Fails-find honest sound found OutOfMemory law fails = tt

-- the same where a decision is asked for
pub LookupFails-find : (honest sound : Bool) (found : Finding) (e : FindFault) → (IsTrue sound → IsTrue honest) → IsFault honest sound found e → LookupFails (trust_of honest sound) (instr_in found) (of_look_up e)
LookupFails-find honest sound found Short law fails = known honest sound _ law (λ h. ap instr_in (fails h))
LookupFails-find honest sound found Device law fails = unsound honest sound fails
LookupFails-find honest sound found OutOfMemory law fails = tt

-- the value of the record was not decoded
pub LookupFails-decode : (honest sound : Bool) (found : Finding) (value : List ℕ) (e : DecideFault) → (IsTrue sound → IsTrue honest) → (IsTrue honest → found ≡ Has value) → CodeFails honest sound value e → LookupFails (trust_of honest sound) (instr_in found) e
LookupFails-decode honest sound found value (Find Short) law has fails = known honest sound _ law (λ h. absurd (fails h))
LookupFails-decode honest sound found value (Find Device) law has fails = unsound honest sound fails
LookupFails-decode honest sound found value (Find OutOfMemory) law has fails = fails
LookupFails-decode honest sound found value (Code NotCode) law has fails =
    known honest sound _ law (λ h. ap instr_in (has h) ∙ ap instr_by (fails h))
LookupFails-decode honest sound found value NoMemory law has fails = tt
