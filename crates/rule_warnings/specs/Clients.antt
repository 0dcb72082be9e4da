-- Which addresses are lookup forms of some peer.
use Rattle.std.specs.Prelude.{◌≡◌, ℕ, ◌+◌, ◌<◌, Bool, false, not, ◌&&◌, ◌||◌, ◌==◌, nat_eq, nat_lt, nat_le, List, [], ◌∷◌, ◌++◌, length, get_or, drop, is_some, codes, Contains}
use Rattle.std.specs.List.{ends_with, list_any, position_or_len}
use Rattle.std.specs.Char.{is_ascii_uppercase}
use Rattle.rule_lookup.specs.Lines.{has_byte}
use Rattle.rule_lookup.specs.Addresses.{ipv4_in}
use Rattle.rule_lookup.specs.Forms.{forms_of}
use Rattle.rule_lookup.specs.Peers.{Client, HasNames}

-- a peer that there may be: an address of four numbers below 256, and names that may be names
pub record IsPeer (peer : Client) : Type 0 where
  pub four : length peer.ip ≡ 4
  pub fits : (k : ℕ) → get_or peer.ip k 0 < 256
  pub names : HasNames peer.host peer.info

-- some peer has this form
pub record IsSomePeers (form : List ℕ) : Type 0 where
  pub peer : Client
  pub may_be : IsPeer peer
  pub has : Contains (forms_of peer) form

-- without a zero byte, and without ASCII capital letters from the first `=` on
abbrev pub is_plain : List ℕ → Bool
is_plain address = not (has_byte 0 address) && not (list_any is_ascii_uppercase (drop (position_or_len (λ b. b == 61) address) address))

-- a whole IPv4 address
abbrev pub is_whole : List ℕ → Bool
is_whole address = is_some (ipv4_in address)

-- with one, two or three zeros behind it, it is a whole IPv4 address
abbrev pub is_whole_with_zeros : List ℕ → Bool
is_whole_with_zeros address = is_whole (address ++ codes "0") || is_whole (address ++ codes "0.0") || is_whole (address ++ codes "0.0.0")

-- the front of an IPv4 address up to one of its dots: with zeros for what is missing it is a whole one
abbrev pub is_front : List ℕ → Bool
is_front address = ends_with nat_eq address (46 ∷ []) && is_whole_with_zeros address

-- `=`, alone or before a host or the end of one: at most 255 bytes
abbrev pub is_host : List ℕ → Bool
is_host [] = false
is_host (b ∷ host) = b == 61 && nat_le (length host) 255

-- where a user may be: at a whole IPv4 address, or at `=` and a host
abbrev pub is_end : List ℕ → Bool
is_end end = is_whole end || (is_host end && nat_lt 1 (length end))

-- with n bytes before it, it has an `@` behind a user of 1 to 255 bytes, and before a host or an IP address
abbrev pub has_user_after : ℕ → List ℕ → Bool
has_user_after n [] = false
has_user_after n (b ∷ bs) = (b == 64 && nat_lt 0 n && nat_le n 255 && is_end bs) || has_user_after (n + 1) bs

-- a user of 1 to 255 bytes, `@`, and a host or an IP address
abbrev pub is_users : List ℕ → Bool
is_users address = has_user_after 0 address

-- an address that is a form of some peer
abbrev pub is_form : List ℕ → Bool
is_form address = is_plain address && (length address == 0 || is_host address || is_whole address || is_front address || is_users address)

-- an address that asks for a user: it has an `@`, and is no host
abbrev pub asks_user : List ℕ → Bool
asks_user address = has_byte 64 address && not (is_host address)
