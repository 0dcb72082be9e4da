-- Before the first step nothing is filled.
use Rattle.std.proofs.Common.{◌≡◌, true, false, ℕ}
use Rattle.std.specs.Prelude.{Option, None, Some}
use Rattle.dir_calls.specs.declared.phase.Phase.{Phase}
use Rattle.dir_calls.specs.declared.phase.Phase.TheVariants.{Fresh, Filling}

pub not_whole : (filled size : ℕ) → false ≡ true → filled ≡ size
not_whole filled size is = absurd (cc)

pub none_reached : (P : Type 0) → ◌≡◌ {A = Option Phase} None (Some Fresh) → P
none_reached P is = absurd (cc)

-- nor is a file that is being filled just made
pub filling_reached : (P : Type 0) → ◌≡◌ {A = Option Phase} (Some Filling) (Some Fresh) → P
filling_reached P is = absurd (cc)
