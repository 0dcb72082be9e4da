-- The words of the parts of a lookup, as those of the whole.
use Rattle.std.proofs.Common.{◌≡◌, ℕ, Bool, List, None, Result, Ok, Err, IsTrue, refl, sym, ◌∙◌, subst}
use Rattle.rule_lookup.specs.Codes.{decoded, settings_in, RefusesCode}
use Rattle.rule_lookup.specs.Lines.{pieces_of}
use Rattle.rule_lookup.specs.Lookups.{Finding}
use Rattle.rule_lookup.specs.Lookups.Finding.{Broken}
use Rattle.rule_lookup.specs.declared.code.CodeFault.{CodeFault}
use Rattle.rule_lookup.specs.declared.code.CodeFault.TheVariants.{NotCode}
use Rattle.rule_lookup.specs.declared.code.DecodeFault.{DecodeFault}
use Rattle.rule_lookup.specs.declared.code.DecodeFault.TheVariants.{Code as NoCode, OutOfMemory as NoMemoryToDecode}
use Rattle.rule_lookup.specs.declared.source.FindFault.{FindFault}
use Rattle.rule_lookup.specs.declared.source.FindFault.TheVariants.{Short, Device, OutOfMemory}
use Rattle.rule_lookup.specs.declared.decision.DecideFault.{DecideFault}
use Rattle.rule_lookup.specs.declared.decision.DecideFault.TheVariants.{Find, Code, OutOfMemory as NoMemory}
use Rattle.rule_lookup.specs.Decisions.{of_code}
use Rattle.rule_lookup.proofs.CodeFaults.{decoded-none}
use Rattle.cdb_files.specs.Parts.{CodeFails, FailsOf, IsFault, IsReadFault, ReadFails, SettingsFail}

-- a value that was read is no code
pub CodeFails-code : (honest sound : Bool) (value code : List ℕ) (e : DecodeFault) → (IsTrue honest → code ≡ value) → RefusesCode code e → CodeFails honest sound value (of_code e)
CodeFails-code honest sound value code (NoCode NotCode) same refuses = λ h. subst (λ bytes. decoded bytes ≡ None) (same h) (decoded-none code refuses)
CodeFails-code honest sound value code NoMemoryToDecode same refuses = tt

-- a piece was not decoded
pub SettingsFail-code : (honest sound : Bool) (codes : List ℕ) (e : DecodeFault) → ((fault : CodeFault) → e ≡ NoCode fault → IsTrue honest → settings_in (pieces_of 0 codes) ≡ None) → SettingsFail honest sound codes (of_code e)
SettingsFail-code honest sound codes (NoCode fault) refused = refused fault refl
SettingsFail-code honest sound codes NoMemoryToDecode refused = tt

-- bytes could not be read
pub SettingsFail-read : (honest sound : Bool) (codes : List ℕ) (e : DecideFault) → IsReadFault honest sound e → SettingsFail honest sound codes e
SettingsFail-read honest sound codes (Find Short) fails = fails
SettingsFail-read honest sound codes (Find Device) fails = fails
SettingsFail-read honest sound codes (Find OutOfMemory) fails = fails
SettingsFail-read honest sound codes (Code fault) fails = absurd fails
SettingsFail-read honest sound codes NoMemory fails = tt

-- other bytes are none either
pub SettingsFail-same : (honest sound : Bool) (codes all : List ℕ) (e : DecideFault) → (IsTrue honest → settings_in (pieces_of 0 codes) ≡ None → settings_in (pieces_of 0 all) ≡ None) → SettingsFail honest sound codes e → SettingsFail honest sound all e
SettingsFail-same honest sound codes all (Find Short) none fails = fails
SettingsFail-same honest sound codes all (Find Device) none fails = fails
SettingsFail-same honest sound codes all (Find OutOfMemory) none fails = fails
SettingsFail-same honest sound codes all (Code fault) none fails = λ h. none h (fails h)
SettingsFail-same honest sound codes all NoMemory none fails = tt

-- the settings of a value were not decoded
pub CodeFails-settings : (honest sound : Bool) (value codes : List ℕ) (e : DecideFault) → (IsTrue honest → settings_in (pieces_of 0 codes) ≡ None → decoded value ≡ None) → SettingsFail honest sound codes e → CodeFails honest sound value e
CodeFails-settings honest sound value codes (Find Short) none fails = fails
CodeFails-settings honest sound value codes (Find Device) none fails = fails
CodeFails-settings honest sound value codes (Find OutOfMemory) none fails = fails
CodeFails-settings honest sound value codes (Code fault) none fails = λ h. none h (fails h)
CodeFails-settings honest sound value codes NoMemory none fails = tt

-- what is to be found could not be read
pub IsFault-read : (honest sound : Bool) (found : Finding) (e : FindFault) → ReadFails honest sound e → IsFault honest sound found e
IsFault-read honest sound found Short fails = λ h. absurd (fails h)
IsFault-read honest sound found Device fails = fails
IsFault-read honest sound found OutOfMemory fails = tt

-- a fault at one position is one of what is found there
pub IsFault-at : (honest sound : Bool) (found whole : Finding) (e : FindFault) → IsFault honest sound found e → (IsTrue honest → found ≡ Broken → whole ≡ Broken) → IsFault honest sound whole e
IsFault-at honest sound found whole Short fault broken = λ h. broken h (fault h)
IsFault-at honest sound found whole Device fault broken = fault
IsFault-at honest sound found whole OutOfMemory fault broken = tt

-- where two findings are the same in an honest file
pub FailsOf-same : {X : Type 0} (honest sound : Bool) (found whole : Finding) (r : Result X FindFault) → (IsTrue honest → found ≡ whole) → FailsOf honest sound found r → FailsOf honest sound whole r
FailsOf-same honest sound found whole (Ok x) same fails = tt
FailsOf-same honest sound found whole (Err e) same fails = IsFault-at honest sound found whole e fails (λ h broken. sym (same h) ∙ broken)
