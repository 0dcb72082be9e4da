-- How the fields of a host table are seen, and what is read of its lines.
use Rattle.std.specs.Prelude.{◌≡◌, ℕ, true, nat_le, List, ◌++◌, map, length, drop, take, Option, Some, None, string_bytes, if◌then◌else◌}
use Rattle.std.specs.BTreeMap.{BTreeMap}
use Rattle.std.specs.BTreeSet.{BTreeSet}
use Rattle.std.specs.declared.alloc.Global.{Global}
use Rattle.std.specs.declared.string.String.{String}
use Rattle.std.specs.Global.{Vec}
use Rattle.child_jobs.specs.declared.hosts.Said.{Said}
use Rattle.child_jobs.specs.declared.hosts.Said.TheVariants.{Nothing, Gives, Has}
use Rattle.child_jobs.specs.HostRows.{Row, ignored, gives, says, bad, is_host_name, lower}
use Rattle.child_jobs.specs.Hosts.{Hosts}

-- the first, or else the second
abbrev pub option_or : Option (List ℕ) → Option (List ℕ) → Option (List ℕ)
option_or None later = later
option_or (Some name) later = Some name

-- an address, and a name in lower case after it, unless that is too long
abbrev pub key_of : List ℕ → List ℕ → Option (List ℕ)
key_of name ip = if nat_le (length name) 255 then Some (ip ++ lower name) else None

-- what the fields of a table know; the first four bytes of a key are an address, and the others a name
abbrev pub hosts_in : BTreeMap (List ℕ) (String Global) → BTreeSet (Vec ℕ) → Hosts
hosts_in names keys = record {
  names = map (λ (e : List ℕ × String Global). (e.0, string_bytes e.1)) names.entries;
  addresses = map (λ (k : Vec ℕ). (drop 4 k.items, take 4 k.items)) keys.keys;
}

-- what a line says
abbrev pub row_said : Said → Row
row_said Nothing = ignored
row_said (Gives ip name) = gives ip (lower name.now)
row_said (Has name ip) = says (lower name.now) ip

-- what is read of a line: nothing if it is bad
abbrev pub row_read : Option Said → Row
row_read None = bad
row_read (Some said) = row_said said

-- a name in it is a host's
abbrev pub HasHostName : Said → Type 0
HasHostName Nothing = Unit {0}
HasHostName (Gives ip name) = is_host_name name.now ≡ true
HasHostName (Has name ip) = is_host_name name.now ≡ true

-- the name that a text is
abbrev pub host_name_in : List ℕ → Option (List ℕ)
host_name_in name = if is_host_name name then Some name else None
