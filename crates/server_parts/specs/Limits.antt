-- The limits on memory, and which of them are too small for a server.
use Rattle.std.specs.Prelude.{ℕ, Bool, ◌+◌, ◌*◌, ◌-◌, min, nat_lt, Option, Some, None, if◌then◌else◌}
use Rattle.server_words.specs.declared.mode.Mode.{Mode}
use Rattle.server_words.specs.declared.mode.Mode.TheVariants.{HandedOver, Pumped}
use Rattle.server_parts.specs.declared.limits.MemoryLimits.{MemoryLimits}
use Rattle.server_parts.specs.declared.limits.SmallLimit.{SmallLimit}
use Rattle.server_parts.specs.declared.limits.Counted.TheVariants.{Data, Addresses}

-- what a server takes of data and of address space, in bytes, beside its connections
abbrev pub data_alone : ℕ
data_alone = 540000

abbrev pub addresses_alone : ℕ
addresses_alone = 3300000

-- what is left of the limits beside that
abbrev pub room_of : MemoryLimits → ℕ
room_of limits = min (limits.data - data_alone) (limits.addresses - addresses_alone)

-- memory is low if there is no room for five connections that begin, of which each takes so much
abbrev pub is_low : MemoryLimits → ℕ → Bool
is_low limits start = nat_lt (room_of limits) (5 * start)

-- what its first connection takes, whose program inherits no variables: 320 KiB, and, if it is pumped, 320 KiB more for
-- buffers
abbrev pub first_connection : Mode → ℕ
first_connection HandedOver = 327680
first_connection Pumped = 655360

abbrev pub small_addresses : MemoryLimits → ℕ → Option SmallLimit
small_addresses limits wanted =
    if nat_lt limits.addresses wanted then Some (record { counted = Addresses; limit = limits.addresses; wanted = wanted }) else None

-- the limit that is lower than what a server wants for itself and its first connection; of two that of data
abbrev pub small_limit : Mode → MemoryLimits → Option SmallLimit
small_limit mode limits =
    if nat_lt limits.data (data_alone + first_connection mode)
    then Some (record { counted = Data; limit = limits.data; wanted = data_alone + first_connection mode })
    else small_addresses limits (addresses_alone + first_connection mode)
