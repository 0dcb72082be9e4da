-- The counts of addresses, after a change at one of them.
use Rattle.std.proofs.Common.{◌≡◌, ℕ, ◌+◌, List, true, false, cond, Option, refl, ap, ◌∙◌, arith, bytes_eq, unwrap_or}
use Rattle.std.specs.Prelude.{if◌then◌else◌}
use Rattle.std.specs.BTreeMap.{IsUnchanged, is_at}
use Rattle.std.specs.Cmp.Lexicographic.{slice_cmp}
use Rattle.std.specs.Map.{count_at, lookup}
use Rattle.std.specs.Ordering.{nat_cmp}
use Rattle.std.proofs.lemmas.Map.Text.{is_eq-slice_cmp}
use Rattle.std.proofs.lemmas.Slice.Eq.{bytes_eq-Decides}
use Rattle.server_events.specs.Addresses.{count_of}
use Rattle.server_events.specs.declared.addresses.AddressCounts.{AddressCounts}

-- the counts f, and those g that have w at the address ip
module _ (f g : List ℕ → Option ℕ) (ip q : List ℕ) (w : Option ℕ) (put : g q ≡ cond (is_at (slice_cmp nat_cmp ip) q) w (f q)) where
  count_put : count_at g q ≡ cond (bytes_eq ip q) (unwrap_or w 0) (count_at f q)
  count_put =
      ap (λ o. unwrap_or o 0) put
      ∙ ap (λ b. unwrap_or (cond b w (f q)) 0) (is_eq-slice_cmp ip q)
      ∙ (elim (bytes_eq ip q) as (λ b. unwrap_or (cond b w (f q)) 0 ≡ cond b (unwrap_or w 0) (unwrap_or (f q) 0)) [ true ↦ refl | false ↦ refl ])

  count_here : bytes_eq ip q ≡ true → (count_at g q ≡ unwrap_or w 0) × (count_at f ip ≡ count_at f q)
  count_here e =
      (count_put ∙ ap (λ b. cond b (unwrap_or w 0) (count_at f q)) e, ap (λ a. count_at f a) ((bytes_eq-Decides ip q).0 e))

  count_elsewhere : bytes_eq ip q ≡ false → count_at g q ≡ count_at f q
  count_elsewhere e = count_put ∙ ap (λ b. cond b (unwrap_or w 0) (count_at f q)) e

  pub one_more : unwrap_or w 0 ≡ count_at f ip + 1 → count_at g q ≡ count_at f q + (if bytes_eq ip q then 1 else 0)
  one_more more =
      elim (bytes_eq ip q) as (λ b. bytes_eq ip q ≡ b → count_at g q ≡ count_at f q + (if b then 1 else 0)) [
        | true ↦ λ e. (let here = count_here e in omega arith)
        | false ↦ λ e. (let same = count_elsewhere e in omega arith)
      ] refl

  pub one_less : unwrap_or w 0 + 1 ≡ count_at f ip → count_at g q + (if bytes_eq ip q then 1 else 0) ≡ count_at f q
  one_less less =
      elim (bytes_eq ip q) as (λ b. bytes_eq ip q ≡ b → count_at g q + (if b then 1 else 0) ≡ count_at f q) [
        | true ↦ λ e. (let here = count_here e in omega arith)
        | false ↦ λ e. (let same = count_elsewhere e in omega arith)
      ] refl

-- the same entries have the same counts
pub count_same : (a b : AddressCounts) → IsUnchanged a.counts b.counts → (q : List ℕ) → count_of b q ≡ count_of a q
count_same a b same q = ap (λ (es : List (List ℕ × ℕ)). unwrap_or (lookup (is_at (slice_cmp nat_cmp q)) es) 0) same
