-- A search for a byte, in the words by which a list is cut there.
use Rattle.std.proofs.Common.{◌≡◌, ℕ, ◌+◌, ◌-◌, ◌<◌, Bool, true, false, not, List, Option, None, Some, length, get_or, sym, ap, ◌∙◌, arith, unwrap_or, is_some}
use Rattle.std.specs.List.{position_or_len, suffix_len, list_any}
use Rattle.std.proofs.lemmas.Bool.{false_from_ne_true}
use Rattle.std.proofs.lemmas.List.Folds.{list_any_at, list_any_none}
use Rattle.std.proofs.lemmas.List.Sums.{position_or_len_is, suffix_len_is}
use Rattle.std.proofs.lemmas.List.{get_or_default}
use Rattle.std.proofs.Math.Nat.{add-sub_cancel}
use Rattle.memchr.specs.Find.{IsFirstByte, NoneBefore, NoneAfter, Nowhere, Passes}

-- the position that a search from the front finds is the first
pub position_or_len-found : (p : ℕ → Bool) (bs : List ℕ) (k : ℕ) → NoneBefore (Passes p bs) 0 (length bs) k × Passes p bs k → position_or_len p bs ≡ k
position_or_len-found p bs k found =
    position_or_len_is p bs k 0 (omega (arith, found.0.high)) (λ i below. false_from_ne_true _ (found.0.before i (omega arith) below)) (λ _. found.1)

-- where it finds none, the front is all
pub position_or_len-nowhere : (p : ℕ → Bool) (bs : List ℕ) → Nowhere (Passes p bs) 0 (length bs) → position_or_len p bs ≡ length bs
position_or_len-nowhere p bs none =
    position_or_len_is p bs (length bs) 0 (omega arith) (λ i below. false_from_ne_true _ (none i (omega arith) below)) (λ below. absurd (omega arith))

-- either way the front goes up to what the search answers, or else to the end
pub position_or_len-search : (p : ℕ → Bool) (bs : List ℕ) (r : Option ℕ) → IsFirstByte p bs r → unwrap_or r (length bs) ≡ position_or_len p bs
position_or_len-search p bs None none = sym (position_or_len-nowhere p bs none)
position_or_len-search p bs (Some k) found = sym (position_or_len-found p bs k found)

-- what follows the position that a search from the back finds starts after it
pub suffix_len-found : (p : ℕ → Bool) (bs : List ℕ) (k : ℕ) → NoneAfter (Passes p bs) 0 (length bs) k × Passes p bs k → length bs - suffix_len (λ b. not (p b)) bs ≡ k + 1
suffix_len-found p bs k found =
    let tail = suffix_len_is (λ b. not (p b)) bs (k + 1) 0 (omega (arith, found.0.high)) (λ i from below. ap not (false_from_ne_true _ (found.0.after i from below))) (λ _. ap not (ap (λ n. p (get_or bs n 0)) (add-sub_cancel k 1) ∙ found.1)) in
    omega (arith, tail, found.0.high)

-- where it finds none, all follows
pub suffix_len-nowhere : (p : ℕ → Bool) (bs : List ℕ) → Nowhere (Passes p bs) 0 (length bs) → length bs - suffix_len (λ b. not (p b)) bs ≡ 0
suffix_len-nowhere p bs none =
    let tail = suffix_len_is (λ b. not (p b)) bs 0 0 (omega arith) (λ i from below. ap not (false_from_ne_true _ (none i from below))) (λ some. absurd (omega arith)) in
    omega (arith, tail)

-- a byte that is found stands among them
pub list_any-found : (p : ℕ → Bool) (bs : List ℕ) (k : ℕ) → k < length bs → Passes p bs k → list_any p bs ≡ true
list_any-found p bs k inside here = list_any_at p bs k 0 inside here

-- a byte that is found nowhere stands not among them
pub list_any-nowhere : (p : ℕ → Bool) (bs : List ℕ) → Nowhere (Passes p bs) 0 (length bs) → list_any p bs ≡ false
list_any-nowhere p bs none = list_any_none p bs (λ k d below. false_from_ne_true _ (λ here. none k (omega arith) below (ap p (get_or_default bs k 0 d below) ∙ here)))

-- whether a search finds the byte
pub list_any-search : (p : ℕ → Bool) (bs : List ℕ) (r : Option ℕ) → IsFirstByte p bs r → is_some r ≡ list_any p bs
list_any-search p bs None none = sym (list_any-nowhere p bs none)
list_any-search p bs (Some k) found = sym (list_any-found p bs k found.0.high found.1)
