-- What is true of the fields of each state.
use Rattle.std.specs.Prelude.{◌≡◌, ℕ, ◌≤◌, List, All}
use Rattle.std.specs.BTreeMap.{values}
use Rattle.server_events.specs.Addresses.{count_of}
use Rattle.server_events.specs.ServerState.{ServerState, count_from}
use Rattle.server_events.specs.declared.state.Connection.{Connection}
use Rattle.server_events.specs.declared.state.State.TheInside.{Inside}

-- what events see of a state
abbrev pub state_of : Inside → ServerState
state_of s = record {
  limit = s.limit;
  per_address = s.per_address;
  last = s.last;
  connections = values s.connections;
  phase = s.phase;
}

-- a connection stands under its own serial
abbrev pub HasOwnSerial : ℕ × Connection → Type 0
HasOwnSerial e = e.0 ≡ e.1.serial

-- a connection stands under no serial above the last
abbrev pub IsUpTo : ℕ → ℕ × Connection → Type 0
IsUpTo last e = e.0 ≤ last

-- each connection stands under its own serial, none above the last, and of each address as many are counted as come from it
pub record Kept (s : Inside) : Type 0 where
  pub own : All HasOwnSerial s.connections.entries
  pub up_to_last : All (IsUpTo s.last) s.connections.entries
  pub counted : (q : List ℕ) → count_of s.addresses q ≡ count_from q (values s.connections)
