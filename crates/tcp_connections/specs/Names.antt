-- Which names the ends of a connection have.
use Rattle.std.specs.Prelude.{ℕ, Bool, not, ◌&&◌, List, Option, Some, None, map, option_map, string_bytes, if◌then◌else◌}
use Rattle.child_jobs.specs.Hosts.{Hosts, name_of, confirms}
use Rattle.child_jobs.specs.Ends.{LocalEnd}
use Rattle.rule_lookup.specs.Peers.{Client}
use Rattle.std.specs.Char.{to_ascii_lowercase}
use Rattle.tcp_connections.specs.declared.names.HostNames.{HostNames}

-- the name that a table has for an address, if there is a table
abbrev pub name_in : Option Hosts → List ℕ → Option (List ℕ)
name_in None ip = None
name_in (Some hosts) ip = name_of hosts ip

-- a name; none if only confirmed names are wanted and the table does not confirm this one
abbrev pub kept_name : (confirm : Bool) → Hosts → (ip : List ℕ) → Option (List ℕ) → Option (List ℕ)
kept_name confirm hosts ip None = None
kept_name confirm hosts ip (Some name) = if confirm && not (confirms hosts name ip) then None else Some name

-- the name that a table has for a client, if names are wanted
abbrev pub wanted_name : (confirm : Bool) → Option Hosts → (ip : List ℕ) → Option (List ℕ)
wanted_name confirm None ip = None
wanted_name confirm (Some hosts) ip = kept_name confirm hosts ip (name_of hosts ip)

-- the name of the client at an address
abbrev pub client_name : HostNames → (ip : List ℕ) → Option (List ℕ)
client_name names ip = if names.remote then wanted_name names.confirm names.hosts ip else None

-- one name, or else another
abbrev pub or_else : Option (List ℕ) → Option (List ℕ) → Option (List ℕ)
or_else (Some name) other = Some name
or_else None other = other

-- the name of the server's end at an address: the given one, or else the table's
abbrev pub local_name : HostNames → (ip : List ℕ) → Option (List ℕ)
local_name names ip = or_else (option_map string_bytes names.local) (name_in names.hosts ip)

-- the client at an address and port, with its name if it has one, in small letters
abbrev pub client_at : HostNames → (ip : List ℕ) → (port : ℕ) → Client
client_at names ip port =
    record { ip = ip; port = port; host = option_map (map to_ascii_lowercase) (client_name names ip); info = None }

-- the server's end at an address and port, with its name if it has one
abbrev pub local_at : HostNames → (ip : List ℕ) → (port : ℕ) → LocalEnd
local_at names ip port = record { ip = ip; port = port; host = local_name names ip }
