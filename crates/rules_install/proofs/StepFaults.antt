-- Which faults a call may answer.
use Rattle.std.proofs.Common.{◌≡◌, ◌≢◌, ◌⊎◌, inl, inr, ⊎_elim, zero, suc, [], ◌∷◌, refl, sym, subst, arith}
use Rattle.std.specs.Prelude.{Result, Ok, Err, IfErr, Contains}
use Rattle.dir_calls.specs.declared.fault.DirFault.{DirFault}
use Rattle.dir_calls.specs.declared.fault.DirFault.TheVariants.{NoScratch, NoName, Device, OutOfMemory as NoMemory}
use Rattle.dir_calls.specs.declared.phase.Phase.{Phase}
use Rattle.dir_calls.specs.declared.phase.Phase.TheVariants.{Done}
use Rattle.rules_install.specs.declared.fault.InstallFault.TheVariants.{OutOfMemory}
use Rattle.rules_install.specs.Steps.{IsOfDevice, answer_of}

-- want of memory, or the device's
abbrev pub IsSure : DirFault → Type 0
IsSure fault = (fault ≡ NoMemory) ⊎ (fault ≡ Device)

pub of_err : {T : Type 0} (outcome : Result T DirFault) (fault : DirFault) (P : DirFault → Type 0) → IfErr outcome P → outcome ≡ Err fault → P fault
of_err {T} outcome fault P holds is = subst (λ (r : Result T DirFault). IfErr r P) is holds

pub among_two : (fault : DirFault) → Contains (Device ∷ NoMemory ∷ []) fault → IsSure fault
among_two fault (zero, within, is) = inr (sym is)
among_two fault (suc zero, within, is) = inl (sym is)
among_two fault (suc (suc k), within, is) = absurd (omega (arith, within))

pub among_three : (other fault : DirFault) → Contains (other ∷ Device ∷ NoMemory ∷ []) fault → fault ≢ other → IsSure fault
among_three other fault (zero, within, is) differs = absurd (differs (sym is))
among_three other fault (suc zero, within, is) differs = inr (sym is)
among_three other fault (suc (suc zero), within, is) differs = inl (sym is)
among_three other fault (suc (suc (suc k)), within, is) differs = absurd (omega (arith, within))

-- so a step blames the device alone
pub of_device : {T : Type 0} (next : Phase) (outcome : Result T DirFault) → ((fault : DirFault) → outcome ≡ Err fault → IsSure fault)
    → IsOfDevice (answer_of next outcome)
of_device next (Ok x) sure = tt
of_device next (Err NoMemory) sure = tt
of_device next (Err NoScratch) sure = ⊎_elim (λ is. absurd (cc)) (λ is. absurd (cc)) (sure NoScratch refl)
of_device next (Err NoName) sure = ⊎_elim (λ is. absurd (cc)) (λ is. absurd (cc)) (sure NoName refl)
of_device next (Err Device) sure = refl

-- a step to Done answers no want of memory, where its call does not
pub no_memory : {T : Type 0} (next : Phase) (outcome : Result T DirFault) → (next ≡ Done → outcome ≢ Err NoMemory) → next ≡ Done
    → answer_of next outcome ≢ Err OutOfMemory
no_memory next (Ok x) never done is = absurd (cc)
no_memory next (Err NoMemory) never done is = never done refl
no_memory next (Err NoScratch) never done is = absurd (cc)
no_memory next (Err NoName) never done is = absurd (cc)
no_memory next (Err Device) never done is = absurd (cc)

pub not_device : ◌≡◌ {A = DirFault} NoMemory Device → ⊥
not_device is = absurd (cc)
