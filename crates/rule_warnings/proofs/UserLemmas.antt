-- A user before an `@`, a byte at a time.
use Rattle.std.proofs.Common.{◌≡◌, ℕ, ◌+◌, ◌<◌, ◌==◌, ◌&&◌, ◌||◌, nat_lt, nat_le, Bool, false, List, [], ◌∷◌, length, get_or, drop, refl, ap, ◌∙◌, arith}
use Rattle.std.proofs.lemmas.List.{at_drop_more}
use Rattle.rule_warnings.specs.Clients.{has_user_after, is_end}

-- whether an `@` behind a user stands at a position, before a host or an IP address, at which a user may be
abbrev pub user_at : List ℕ → ℕ → Bool
user_at address n = get_or address n 0 == 64 && nat_lt 0 n && nat_le n 255 && is_end (drop (n + 1) address)

-- a position further
pub has_user_after-at : (address : List ℕ) (n : ℕ) → n < length address → has_user_after n (drop n address) ≡ (user_at address n || has_user_after (n + 1) (drop (n + 1) address))
has_user_after-at address n inside = at_drop_more (has_user_after n) address n 0 inside

far : (a b : Bool) (n : ℕ) → 255 < n → (a && nat_lt 0 n && nat_le n 255 && b) ≡ false
far a b n beyond = grind arith

-- no user is that long
pub has_user_after-far : (n : ℕ) (bs : List ℕ) → 255 < n → has_user_after n bs ≡ false
has_user_after-far n [] beyond = refl
has_user_after-far n (b ∷ bs) beyond =
    ap (λ t. t || has_user_after (n + 1) bs) (far (b == 64) (is_end bs) n beyond) ∙ has_user_after-far (n + 1) bs (omega arith)
