-- A line's words: how far the first one goes, and the names of hosts.
use Rattle.std.proofs.Common.{◌≡◌, ℕ, ◌+◌, ◌<◌, ◌≤◌, Bool, true, false, cond, List, [], ◌∷◌, length, take, drop, get_or, bytes_eq, ◌==◌, ◌≢◌, Some, None, Result, Ok, Err, Bor, refl, sym, ap, ◌∙◌, add-one, arith, drop-cons}
use Rattle.std.specs.Prelude.{MatchResult, nat_le, nat_lt, ◌&&◌}
use Rattle.std.specs.List.{All, prefix_len}
use Rattle.std.specs.Result.{result_ok}
use Rattle.std.specs.Str.{IsUtf8}
use Rattle.std.proofs.lemmas.List.{drop_all}
use Rattle.std.proofs.lemmas.Bool.{leb-true, ne_eqb}
use Rattle.std.proofs.lemmas.List.Elements.{All-nil, All-cons}
use Rattle.std.proofs.lemmas.Str.{IsUtf8-from_ascii}
use Rattle.std.proofs.lemmas.Str.Ascii.{IsAscii-from_all}
use Rattle.rule_lookup.specs.Addresses.{ipv4_in}
use Rattle.rule_lookup.specs.Peers.{given}
use Rattle.child_jobs.specs.HostMaps.{host_name_in}
use Rattle.child_jobs.specs.HostRows.{ignored, gives, bad, are_visible, is_host_name, lower, first_word, second_word, row_of_words, row_of_trimmed, gives_by, says_by}

-- a position past those that pass: one more passes, or no more does
module _ (p : ℕ → Bool) (xs : List ℕ) (k : ℕ) (so_far : prefix_len p xs ≡ k + prefix_len p (drop k xs)) where
  prefix_at : k < length xs → prefix_len p xs ≡ k + cond (p (get_or xs k 0)) (1 + prefix_len p (drop (k + 1) xs)) 0
  prefix_at inside =
      so_far ∙ ap (λ (ys : List ℕ). k + prefix_len p ys) (drop-cons xs k 0 inside ∙ ap (λ n. get_or xs k 0 ∷ drop n xs) (sym (add-one k)))

  pub prefix_more : k < length xs → p (get_or xs k 0) ≡ true → prefix_len p xs ≡ k + 1 + prefix_len p (drop (k + 1) xs)
  prefix_more inside passes =
      let at : prefix_len p xs ≡ k + (1 + prefix_len p (drop (k + 1) xs)) = prefix_at inside ∙ ap (λ b. k + cond b (1 + prefix_len p (drop (k + 1) xs)) 0) passes in
      omega arith

  pub prefix_stops : k < length xs → p (get_or xs k 0) ≡ false → prefix_len p xs ≡ k
  prefix_stops inside fails =
      let at : prefix_len p xs ≡ k + 0 = prefix_at inside ∙ ap (λ b. k + cond b (1 + prefix_len p (drop (k + 1) xs)) 0) fails in
      omega arith

  pub prefix_all : length xs ≤ k → prefix_len p xs ≡ k
  prefix_all outside =
      let at : prefix_len p xs ≡ k + 0 = so_far ∙ ap (λ (ys : List ℕ). k + prefix_len p ys) (drop_all k xs outside) in
      omega arith

-- of two tests that hold, each does
pub both_hold : (a b : Bool) → (a && b) ≡ true → (a ≡ true) × (b ≡ true)
both_hold true b h = (refl, h)
both_hold false b h = cc

-- visible characters are ASCII
visible_ascii : (bytes : List ℕ) → are_visible bytes ≡ true → All (λ b. b < 128) bytes
visible_ascii [] h = All-nil (λ b. b < 128)
visible_ascii (b ∷ bytes) h =
    let (here, later) = both_hold (nat_le 33 b && nat_le b 126) (are_visible bytes) h in
    let most : b ≤ 126 = leb-true b 126 ((both_hold (nat_le 33 b) (nat_le b 126) here).1) in
    All-cons (λ b. b < 128) b bytes (omega arith) (visible_ascii bytes later)

-- so the name of a host is a text
host_name_utf8 : (name : List ℕ) → is_host_name name ≡ true → IsUtf8 name
host_name_utf8 name h =
    let visible = (both_hold (nat_lt 0 (length name) && nat_le (length name) 255) (are_visible name) h).1 in
    IsUtf8-from_ascii name (IsAscii-from_all name (visible_ascii name visible))

pub host_name_read : {E : Type 0} (name : List ℕ) (Q : E → Type 0) (read : Result (Bor (List ℕ)) E) → true ≡ is_host_name name → MatchResult read (λ text. (text.now ≡ name) × IsUtf8 name) (λ e. (IsUtf8 name → ⊥) × Q e) → given (result_ok read) ≡ host_name_in name
host_name_read name Q (Ok text) h is = ap Some is.0 ∙ ap (λ b. cond b (Some name) None) h
host_name_read name Q (Err e) h is = absurd (is.0 (host_name_utf8 name (sym h)))

-- the name of a host is not too long
pub host_name_short : (name : List ℕ) → is_host_name name ≡ true → nat_le (length name) 255 ≡ true
host_name_short name h =
    (both_hold (nat_lt 0 (length name)) (nat_le (length name) 255) (both_hold (nat_lt 0 (length name) && nat_le (length name) 255) (are_visible name) h).0).1

-- the row of an address and a name
gives_by_name : (ip name second : List ℕ) → Some name ≡ host_name_in second → gives ip (lower name) ≡ gives_by (Some ip) second
gives_by_name ip name second found =
    elim (is_host_name second) as (λ b. Some name ≡ cond b (Some second) None → gives ip (lower name) ≡ cond b (gives ip (lower second)) bad) [
      | true ↦ λ e. (let same : name ≡ second = cc in ap (λ n. gives ip (lower n)) same)
      | false ↦ λ e. cc
    ] found

row_of_gives : (first second ip name : List ℕ) → bytes_eq (take 1 first) (61 ∷ []) ≡ false → Some ip ≡ ipv4_in first → Some name ≡ host_name_in second → gives ip (lower name) ≡ row_of_words first second
unfolding ipv4_in
row_of_gives [] second ip name other address named = cc
row_of_gives (f ∷ first) second ip name other address named =
    let gives_it = gives_by_name ip name second named ∙ ap (λ o. gives_by o second) address in
    elim (f == 61) as (λ b. (b && true) ≡ false → gives ip (lower name) ≡ cond b (says_by first (ipv4_in second)) (gives_by (ipv4_in (f ∷ first)) second)) [
      | true ↦ λ e. cc
      | false ↦ λ e. gives_it
    ] other

pub row_gives : (text first second ip name : List ℕ) → 0 < length text → get_or text 0 0 ≢ 35 → first ≡ first_word text → second ≡ second_word text → bytes_eq (take 1 first) (61 ∷ []) ≡ false → Some ip ≡ ipv4_in first → Some name ≡ host_name_in second → gives ip (lower name) ≡ row_of_trimmed text
row_gives [] first second ip name some head is_first is_second other address named = absurd (omega arith)
row_gives (b ∷ bs) first second ip name some head is_first is_second other address named =
    row_of_gives first second ip name other address named
    ∙ ap (λ w. row_of_words w second) is_first
    ∙ ap (λ w. row_of_words (first_word (b ∷ bs)) w) is_second
    ∙ ap (λ t. cond t ignored (row_of_words (first_word (b ∷ bs)) (second_word (b ∷ bs)))) (sym (ne_eqb b 35 head))
