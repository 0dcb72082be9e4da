-- Failures that are counted.
use Rattle.std.proofs.Common.{◌≡◌, ◌⊎◌, inl, inr, ℕ, ◌<◌, ◌≤◌, ◌+◌, ◌-◌, ◌^◌, ◌∙◌, subst, arith}
use Rattle.std.specs.Prelude.{Result, Ok, Err}
use Rattle.dir_calls.specs.Moments.{CountsFault}
use Rattle.dir_calls.specs.declared.fault.DirFault.{DirFault}
use Rattle.dir_calls.specs.declared.fault.DirFault.TheVariants.{NoScratch, NoName, Device, OutOfMemory}

-- the count never falls
pub counts_later : {T : Type 0} (before now : ℕ) (result : Result T DirFault) → CountsFault before now result → before ≤ now
counts_later before now (Ok x) counted = omega (arith, counted)
counts_later before now (Err NoScratch) counted = omega (arith, counted)
counts_later before now (Err NoName) counted = omega (arith, counted)
counts_later before now (Err OutOfMemory) counted = omega (arith, counted)
counts_later before now (Err Device) (inl one) = omega (arith, one)
counts_later before now (Err Device) (inr (same, top)) = omega (arith, same)

-- it rises with a fault of the device, or is at its end
pub counts_device : (before now : ℕ) → (now ≡ before + 1) ⊎ ((now ≡ before) × (before ≡ 2 ^ 64 - 1)) → (before < now) ⊎ (now ≡ 2 ^ 64 - 1)
counts_device before now (inl one) = inl (omega (arith, one))
counts_device before now (inr (same, top)) = inr (omega (arith, same, top))

-- a call that counted none, and then a call whose fault is passed on
pub counted_on : {T U : Type 0} (before mid now : ℕ) (first : Result T DirFault) (last : Result U DirFault) (fault : DirFault) → first ≡ Err fault → last ≡ Err fault → mid ≡ before
    → CountsFault mid now first → CountsFault before now last
counted_on before mid now first last Device one two same counted = rw two (subst (λ (n : ℕ). (now ≡ n + 1) ⊎ ((now ≡ n) × (n ≡ 2 ^ 64 - 1))) same (rw one at counted))
counted_on before mid now first last NoScratch one two same counted = rw two ((rw one at counted) ∙ same)
counted_on before mid now first last NoName one two same counted = rw two ((rw one at counted) ∙ same)
counted_on before mid now first last OutOfMemory one two same counted = rw two ((rw one at counted) ∙ same)
