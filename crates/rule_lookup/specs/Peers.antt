-- The other end of a connection, and which names it may have.
use Rattle.std.specs.Prelude.{◌≡◌, ℕ, Bool, true, false, not, ◌&&◌, nat_lt, nat_le, List, map, length, Option, Some, None, option_map, ◌==◌}
use Rattle.std.specs.List.{list_any}
use Rattle.std.specs.Borrow.{Bor}
use Rattle.std.specs.Char.{to_ascii_lowercase}
use Rattle.rule_lookup.specs.declared.peer.PeerFault.{PeerFault}
use Rattle.rule_lookup.specs.declared.peer.PeerFault.TheVariants.{BadHost, BadInfo, OutOfMemory}

-- a peer's address and port, its host's name, and its user's
pub record Client : Type 0 where
  pub ip : List ℕ
  pub port : ℕ
  pub host : Option (List ℕ)
  pub info : Option (List ℕ)

-- a name has 1 to 255 bytes, none of them zero
abbrev pub is_peer_name : List ℕ → Bool
is_peer_name name = nat_lt 0 (length name) && nat_le (length name) 255 && not (list_any (λ b. b == 0) name)

-- the same of a name that may be unknown
abbrev pub may_be_name : Option (Bor (List ℕ)) → Bool
may_be_name None = true
may_be_name (Some name) = is_peer_name name.now

-- a host's name in lower case
abbrev pub lowered : Option (Bor (List ℕ)) → Option (List ℕ)
lowered host = option_map (λ (name : Bor (List ℕ)). map to_ascii_lowercase name.now) host

-- a name as it was given
abbrev pub given : Option (Bor (List ℕ)) → Option (List ℕ)
given name = option_map (λ (name : Bor (List ℕ)). name.now) name

-- the same of a name as it is kept
abbrev pub fits : Option (List ℕ) → Bool
fits None = true
fits (Some name) = is_peer_name name

-- the names that a peer keeps may be names, and that of its host is in lower case
pub record HasNames (host info : Option (List ℕ)) : Type 0 where
  pub host_fits : fits host ≡ true
  pub info_fits : fits info ≡ true
  pub lower : option_map (map to_ascii_lowercase) host ≡ host

-- why a peer is refused: for its host, or else for its user; want of memory only if both names may be
abbrev pub RefusesNames : Option (Bor (List ℕ)) → Option (Bor (List ℕ)) → PeerFault → Type 0
RefusesNames host info BadHost = may_be_name host ≡ false
RefusesNames host info BadInfo = (may_be_name host ≡ true) × (may_be_name info ≡ false)
RefusesNames host info OutOfMemory = (may_be_name host ≡ true) × (may_be_name info ≡ true)
