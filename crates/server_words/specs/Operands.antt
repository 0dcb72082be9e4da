-- The words after the options: host, port, program.
use Rattle.std.specs.Prelude.{ℕ, List, [], ◌∷◌, map, Option, Some, None, option_map, option_and_then, bytes_eq, codes, string_bytes, if◌then◌else◌}
use Rattle.std.specs.declared.alloc.Global.{Global}
use Rattle.std.specs.Prelude.{String}
use Rattle.rule_lookup.specs.Addresses.{ipv4_in}
use Rattle.server_words.specs.Numbers.{number_in}

-- where a server listens, and the program that it starts
pub record Service : Type 0 where
  pub address : List ℕ
  pub port : ℕ
  pub path : List ℕ
  pub args : List (List ℕ)

-- the texts that words are
abbrev pub texts : List (String Global) → List (List ℕ)
texts words = map string_bytes words

-- a host: `0` for any address, `localhost`, or an IPv4 address
abbrev pub address_in : List ℕ → Option (List ℕ)
address_in host =
    if bytes_eq host (codes "0") then Some (0 ∷ 0 ∷ 0 ∷ 0 ∷ [])
    else (if bytes_eq host (codes "localhost") then Some (127 ∷ 0 ∷ 0 ∷ 1 ∷ []) else ipv4_in host)

-- a port
abbrev pub port_in : List ℕ → Option ℕ
port_in word = number_in word 0 65535

-- a host, a port and the path of a program, and any words more
abbrev pub operands_in : List (List ℕ) → Option Service
operands_in (host ∷ port ∷ path ∷ args) =
    option_and_then (λ address.
    option_map (λ port. record { address = address; port = port; path = path; args = args }) (port_in port)) (address_in host)
operands_in words = None
