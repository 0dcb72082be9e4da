-- The lookup forms of a peer, in their order.
use Rattle.std.specs.Prelude.{◌≡◌, ℕ, ◌==◌, List, [], ◌∷◌, ◌++◌, map, drop, Option, Some, None, string_bytes, if◌then◌else◌}
use Rattle.std.specs.Net.Text.{ipv4_text}
use Rattle.std.specs.declared.alloc.Global.{Global}
use Rattle.std.specs.declared.string.String.{String}
use Rattle.rule_lookup.specs.Spread.{folded}
use Rattle.rule_lookup.specs.Peers.{Client}

-- the prefixes that end with a dot, longest first
abbrev pub dotted_fronts : List ℕ → List (List ℕ)
dotted_fronts [] = []
dotted_fronts (b ∷ bs) = map (λ front. b ∷ front) (dotted_fronts bs) ++ (if b == 46 then (b ∷ []) ∷ [] else [])

-- the suffixes that begin with a dot, longest first
abbrev pub dotted_ends : List ℕ → List (List ℕ)
dotted_ends [] = []
dotted_ends (b ∷ bs) = if b == 46 then (b ∷ bs) ∷ dotted_ends bs else dotted_ends bs

-- 1: the user at the address, if the user is known
abbrev pub user_at_address : Option (List ℕ) → List ℕ → List (List ℕ)
user_at_address None ip = []
user_at_address (Some user) ip = (user ++ 64 ∷ ip) ∷ []

-- 2: the user at the host, if both are known
abbrev pub user_at_host : Option (List ℕ) → Option (List ℕ) → List (List ℕ)
user_at_host (Some user) (Some host) = (user ++ 64 ∷ 61 ∷ host) ∷ []
user_at_host (Some user) None = []
user_at_host None host = []

-- 4: `=` before the host, if it is known
abbrev pub host_alone : Option (List ℕ) → List (List ℕ)
host_alone None = []
host_alone (Some host) = (61 ∷ host) ∷ []

-- 6: `=` before each proper suffix of the host that begins with a dot, if it is known
abbrev pub host_ends : Option (List ℕ) → List (List ℕ)
host_ends None = []
host_ends (Some host) = map (λ end. 61 ∷ end) (dotted_ends (drop 1 host))

-- 7: `=` alone, if the host is known
abbrev pub any_host : Option (List ℕ) → List (List ℕ)
any_host None = []
any_host (Some host) = (61 ∷ []) ∷ []

-- the forms as they are made; 3 is the address, 5 the prefixes of it that end with a dot, and 8 is empty
abbrev pub plain_forms : Client → List (List ℕ)
plain_forms peer =
    let ip = ipv4_text peer.ip in
    user_at_address peer.info ip ++ user_at_host peer.info peer.host ++ (ip ∷ []) ++ host_alone peer.host ++ dotted_fronts ip
    ++ host_ends peer.host ++ any_host peer.host ++ ([] ∷ [])

-- the lookup forms: those with their letters from the first `=` on in lower case
abbrev pub forms_of : Client → List (List ℕ)
forms_of peer = map folded (plain_forms peer)

-- texts, and after them these, with their letters from the first `=` on in lower case
abbrev pub AddsForms : List (String Global) → List (String Global) → List (List ℕ) → Type 0
AddsForms old new added = map string_bytes new ≡ map string_bytes old ++ map folded added
