-- What stops since a moment may have left.
use Rattle.std.specs.Prelude.{◌≡◌, ◌⊎◌, ℕ, ◌≤◌, ◌+◌, ◌^◌, ◌-◌, Result, Err}
use Rattle.dir_calls.specs.Directory.{Directory}
use Rattle.dir_calls.specs.declared.fault.DirFault.{DirFault}
use Rattle.dir_calls.specs.declared.fault.DirFault.TheVariants.{Device}

-- the images that a stop since each moment may have left
abbrev pub ImagesSince : Type 1
ImagesSince = ℕ → Directory → Type 0

-- The images of stops since an earlier moment are those that there were before, and these.
abbrev pub AddsOnly : (before : ℕ) → (past since : ImagesSince) → (Left : Directory → Type 0) → Type 0
AddsOnly before past since Left =
    (moment : ℕ) (image : Directory) → moment ≤ before → since moment image → past moment image ⊎ Left image

-- Time goes on: a stop since a moment may have left what it may have left before, or one of these, and nothing else.
pub record Elapses (before now : ℕ) (past since : ImagesSince) (Left : Directory → Type 0) : Type 0 where
  pub later : before ≤ now
  pub nothing_else : AddsOnly before past since Left
  pub keeps : (moment : ℕ) (image : Directory) → moment ≤ before → past moment image → since moment image

-- A stop since a moment may have left each of these.
abbrev pub Includes : ℕ → ImagesSince → (Directory → Type 0) → Type 0
Includes before since Left = (moment : ℕ) (image : Directory) → moment ≤ before → Left image → since moment image

-- A stop since the moment of the old directory leaves only directories with the property P.
pub record LeavesOnly {D : Type 0} (moment : D → ℕ) (left_since : D → ImagesSince) (old new : D) (P : Directory → Type 0) : Type 0 where
  pub later : moment old ≤ moment new
  pub each : (image : Directory) → left_since new (moment old) image → P image
  -- the same for a run that began before the old directory's moment
  pub before : AddsOnly (moment old) (left_since old) (left_since new) P

-- One failure more is counted if `Device` is answered, unless the count is at its end; otherwise none.
abbrev pub CountsFault : {T : Type 0} → ℕ → ℕ → Result T DirFault → Type 0
CountsFault before now (Err Device) = (now ≡ before + 1) ⊎ ((now ≡ before) × (before ≡ 2 ^ 64 - 1))
CountsFault before now result = now ≡ before
