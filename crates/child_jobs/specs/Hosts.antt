-- What a host table knows: the name of each address, and the addresses of names.
use Rattle.std.specs.Prelude.{◌≡◌, ℕ, Bool, ◌&&◌, nat_le, List, Option, length, bytes_eq}
use Rattle.std.specs.List.{list_any}
use Rattle.std.specs.Map.{lookup}
use Rattle.child_jobs.specs.HostRows.{Row, first_name, is_confirmed, lower}

-- the addresses that have a name, each with its name; and names in lower case, each with an address that it has
pub record Hosts : Type 0 where
  pub names : List (List ℕ × List ℕ)
  pub addresses : List (List ℕ × List ℕ)

-- the name of an address
abbrev pub name_of : Hosts → List ℕ → Option (List ℕ)
name_of hosts ip = lookup (bytes_eq ip) hosts.names

-- whether a name has an address; one that is too long has none
abbrev pub confirms : Hosts → List ℕ → List ℕ → Bool
confirms hosts name ip =
    nat_le (length name) 255 && list_any (λ (a : List ℕ × List ℕ). bytes_eq a.0 (lower name) && bytes_eq a.1 ip) hosts.addresses

-- a table says what some lines say, for every address of four numbers and every name
pub record SaysAs (hosts : Hosts) (rows : List Row) : Type 0 where
  pub names : (ip : List ℕ) → length ip ≡ 4 → name_of hosts ip ≡ first_name rows ip
  pub confirmed : (name ip : List ℕ) → length ip ≡ 4 → confirms hosts name ip ≡ is_confirmed rows name ip
