-- The client that variables tell.
use Rattle.std.specs.Prelude.{◌≡◌, ⊤, ℕ, List, [], ◌∷◌, map, not, codes, Option, Some, None, option_map, Result, Ok, Err, if◌then◌else◌}
use Rattle.std.specs.Char.{to_ascii_lowercase}
use Rattle.std.specs.Str.{is_utf8}
use Rattle.rule_lookup.specs.Addresses.{ipv4_in}
use Rattle.rule_lookup.specs.Peers.{Client, fits}
use Rattle.rules_tools.specs.declared.tcprulescheck.CheckFault.{CheckFault}
use Rattle.rules_tools.specs.declared.tcprulescheck.CheckFault.TheVariants.{BadIp, BadHost, BadInfo, OutOfMemory}

-- the value of a variable, if it is set and text
abbrev pub text_in : Option (List ℕ) → Option (List ℕ)
text_in None = None
text_in (Some value) = if is_utf8 value then Some value else None

-- an empty one tells nothing
abbrev pub unless_empty : Option (List ℕ) → Option (List ℕ)
unless_empty None = None
unless_empty (Some []) = None
unless_empty (Some (byte ∷ bytes)) = Some (byte ∷ bytes)

abbrev pub known : Option (List ℕ) → Option (List ℕ)
known value = unless_empty (text_in value)

-- the address that is told: 0.0.0.0 where none is, and none where it is no address
abbrev pub address_told : Option (List ℕ) → Option (List ℕ)
address_told None = Some (0 ∷ 0 ∷ 0 ∷ 0 ∷ [])
address_told (Some text) = ipv4_in text

-- the client of what is known of it, or the first of these that is wrong
abbrev pub client_by : Option (List ℕ) → (host info : Option (List ℕ)) → Result Client CheckFault
client_by None host info = Err BadIp
client_by (Some ip) host info =
    if not (fits host) then Err BadHost
    else (if not (fits info) then Err BadInfo
    else Ok (record { ip = ip; port = 0; host = option_map (map to_ascii_lowercase) host; info = info }))

-- the client that variables tell, or the first of them that is wrong
abbrev pub client_of : (List ℕ → Option (List ℕ)) → Result Client CheckFault
client_of value =
    client_by (address_told (known (value (codes "TCPREMOTEIP")))) (known (value (codes "TCPREMOTEHOST"))) (known (value (codes "TCPREMOTEINFO")))

-- no client is told: a variable is wrong, or memory runs out
abbrev pub ClientFails : (List ℕ → Option (List ℕ)) → CheckFault → Type 0
ClientFails value OutOfMemory = ⊤
ClientFails value fault = client_of value ≡ Err fault
