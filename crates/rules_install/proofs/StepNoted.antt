-- What is noted of what a call of the directory answered.
use Rattle.std.proofs.Common.{◌≡◌, true, refl, sym, ◌∙◌, ap}
use Rattle.std.specs.Prelude.{None, Some, Result, Err}
use Rattle.dir_calls.specs.declared.fault.DirFault.{DirFault}
use Rattle.dir_calls.specs.declared.fault.DirFault.TheVariants.{NoScratch, NoName, Device, OutOfMemory as NoMemory}
use Rattle.dir_calls.specs.declared.phase.Phase.{Phase}
use Rattle.rules_install.specs.declared.fault.InstallFault.TheVariants.{Disk}
use Rattle.rules_install.specs.Installing.{Installing}
use Rattle.rules_install.specs.Steps.{answer_of, noted}

-- a fault that is not want of memory ends the installation
module _ {T : Type 0} (next : Phase) (outcome : Result T DirFault) (fault : DirFault) (is : outcome ≡ Err fault) (other : fault ≡ NoMemory → ⊥) where
  pub fault_answer : Err (Disk fault next) ≡ answer_of next outcome
  fault_answer = by fault other ∙ sym (ap (answer_of next) is)
    where
      by : (f : DirFault) → (f ≡ NoMemory → ⊥) → Err (Disk f next) ≡ answer_of {T = T} next (Err f)
      by NoScratch other = refl
      by NoName other = refl
      by Device other = refl
      by NoMemory other = absurd (other refl)

  pub fault_noted : (s : Installing) → record s { over = true } ≡ noted next s outcome
  fault_noted s = by fault other ∙ sym (ap (noted next s) is)
    where
      by : (f : DirFault) → (f ≡ NoMemory → ⊥) → record s { over = true } ≡ noted {T = T} next s (Err f)
      by NoScratch other = refl
      by NoName other = refl
      by Device other = refl
      by NoMemory other = absurd (other refl)

-- once a phase was reached, the installation has begun
pub has_begun : (next : Phase) (P : Type 0) → Some next ≡ None → P
has_begun next P is = absurd (cc)
