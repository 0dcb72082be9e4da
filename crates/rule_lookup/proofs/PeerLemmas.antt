-- The names of a peer: in lower case a name has as many bytes, and a zero byte only where it had one.
use Rattle.std.proofs.Common.{◌≡◌, ℕ, suc, zero, ◌+◌, Bool, true, false, cond, ◌==◌, List, [], ◌∷◌, map, Option, None, Some, option_map, refl, sym, ap, ◌∙◌, arith, ne_eqb}
use Rattle.std.specs.List.{list_any}
use Rattle.std.specs.Borrow.{Bor}
use Rattle.std.specs.Char.{to_ascii_lowercase}
use Rattle.std.proofs.lemmas.List.{length-map}
use Rattle.std.proofs.lemmas.Str.Ascii.{lowercase-lowercase}
use Rattle.rule_lookup.specs.Peers.{HasNames, fits, given, is_peer_name, lowered, may_be_name}

never_zero : (a b : Bool) (c : ℕ) → (cond a (suc c) (cond b (suc c + 32) (suc c)) == 0) ≡ false
never_zero true b c = ne_eqb (suc c) 0 (λ same. omega (arith, same))
never_zero false true c = ne_eqb (suc c + 32) 0 (λ same. omega (arith, same))
never_zero false false c = ne_eqb (suc c) 0 (λ same. omega (arith, same))

zero-lowercase : (c : ℕ) → (to_ascii_lowercase c == 0) ≡ (c == 0)
zero-lowercase zero = refl
zero-lowercase (suc c) = never_zero _ _ c ∙ sym (ne_eqb (suc c) 0 (λ same. omega (arith, same)))

no_zero-lowercase : (name : List ℕ) → list_any (λ b. b == 0) (map to_ascii_lowercase name) ≡ list_any (λ b. b == 0) name
no_zero-lowercase [] = refl
no_zero-lowercase (b ∷ bs) = rw (zero-lowercase b, no_zero-lowercase bs)

is_peer_name-lowercase : (name : List ℕ) → is_peer_name (map to_ascii_lowercase name) ≡ is_peer_name name
is_peer_name-lowercase name = rw (length-map name to_ascii_lowercase, no_zero-lowercase name)

map-lowercase : (name : List ℕ) → map to_ascii_lowercase (map to_ascii_lowercase name) ≡ map to_ascii_lowercase name
map-lowercase [] = refl
map-lowercase (b ∷ bs) = rw (lowercase-lowercase b, map-lowercase bs)

fits-given : (name : Option (Bor (List ℕ))) → may_be_name name ≡ true → fits (given name) ≡ true
fits-given None may = refl
fits-given (Some name) may = may

fits-lowered : (name : Option (Bor (List ℕ))) → may_be_name name ≡ true → fits (lowered name) ≡ true
fits-lowered None may = refl
fits-lowered (Some name) may = is_peer_name-lowercase name.now ∙ may

lowered-lowered : (name : Option (Bor (List ℕ))) → option_map (map to_ascii_lowercase) (lowered name) ≡ lowered name
lowered-lowered None = refl
lowered-lowered (Some name) = ap Some (map-lowercase name.now)

-- the names that a peer is made with
pub HasNames-new : (host info : Option (Bor (List ℕ))) → may_be_name host ≡ true → may_be_name info ≡ true → HasNames (lowered host) (given info)
HasNames-new host info host_may info_may = record {
  host_fits = fits-lowered host host_may;
  info_fits = fits-given info info_may;
  lower = lowered-lowered host;
}
