-- How many connections were let in, and when a server ends by faults of accepting.
use Rattle.std.specs.Prelude.{◌≡◌, ◌+◌, ◌-◌, ◌^◌, ◌⊎◌, ℕ, Bool, false, min, nat_le, Option, Some, None}
use Rattle.tcp_connections.specs.declared.supply.Supply.{Supply}

-- what came of a connection, by how many were let in before and after it; the count stays at its greatest number
abbrev pub LetsIn : {T : Type 0} → Option T → (old new : ℕ) → Type 0
LetsIn (Some work) old new = new ≡ min (2 ^ 64 - 1) (old + 1)
LetsIn None old new = new ≡ old

-- what the system gives is enough for one connection: its descriptors
abbrev pub suffices : Supply → Bool
suffices supply = nat_le supply.to_begin supply.descriptors

-- there was too little for one connection, or so many faults came in succession
abbrev pub FailedToAccept : (suffices : Bool) → (faults : ℕ) → Type 0
FailedToAccept suffices faults = (suffices ≡ false) ⊎ (faults ≡ 100)
