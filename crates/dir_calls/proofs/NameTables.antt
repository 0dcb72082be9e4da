-- Which names a stop leaves after one more change, or once some are settled.
use Rattle.std.proofs.Common.{◌≡◌, ◌⊎◌, inl, inr, ⊎_elim, ℕ, ◌+◌, ◌≤◌, ◌<◌, List, [], ◌∷◌, ◌++◌, length, take, drop, sym, ◌∙◌, ap, arith, length-append}
use Rattle.std.proofs.lemmas.List.{take_all, take-append-le}
use Rattle.std.proofs.lemmas.List.Sums.{fold-append}
use Rattle.std.proofs.Math.Seq.{take-add}
use Rattle.dir_calls.specs.NameTable.{Names, NameTable, NameChange, CanBeLeft, SettlesSome, after_change, after_changes, current, push, all_settled}

pub current-push : (table : NameTable) (change : NameChange) → current (push table change) ≡ after_change (current table) change
current-push table change = fold-append after_change table.settled table.pending (change ∷ [])

pub left_current : (table : NameTable) → CanBeLeft table (current table)
left_current table = record { count = length table.pending; are = sym (ap (after_changes table.settled) (take_all (length table.pending) table.pending (omega arith))) }

-- the names before the last change
pub left_last : (table : NameTable) (change : NameChange) → current table ≡ after_changes table.settled (take (length table.pending) (table.pending ++ change ∷ []))
left_last table change = sym (ap (after_changes table.settled) (take-append-le (length table.pending) table.pending (change ∷ []) (omega arith) ∙ take_all (length table.pending) table.pending (omega arith)))

within : (n m : ℕ) → (n ≤ m) ⊎ (m < n)
within n m = grind arith

pub left_push : (table : NameTable) (change : NameChange) (names : Names) → CanBeLeft (push table change) names → CanBeLeft table names ⊎ (names ≡ after_change (current table) change)
left_push table change names left = ⊎_elim fewer all (within left.count (length table.pending))
  where
    fewer : left.count ≤ length table.pending → CanBeLeft table names ⊎ (names ≡ after_change (current table) change)
    fewer le = inl (record { count = left.count; are = left.are ∙ ap (after_changes table.settled) (take-append-le left.count table.pending (change ∷ []) le) })

    all : length table.pending < left.count → CanBeLeft table names ⊎ (names ≡ after_change (current table) change)
    all lt = inr (left.are ∙ ap (after_changes table.settled) (take_all left.count (table.pending ++ change ∷ []) (omega (arith, length-append table.pending (change ∷ [])))) ∙ current-push table change)

pub left_settled : (table : NameTable) (names : Names) → CanBeLeft (all_settled table) names → names ≡ current table
left_settled table names left = left.are ∙ ap (after_changes (current table)) (take_nothing left.count)
  where
    take_nothing : (n : ℕ) → take n (let none : List NameChange = [] in none) ≡ []
    take_nothing n = take_all n [] (omega arith)

-- what a stop leaves once some of the changes are settled, it could leave before
pub left_some : (old new : NameTable) (names : Names) → SettlesSome old new → CanBeLeft new names → CanBeLeft old names
left_some old new names some left = record {
  count = some.count + left.count;
  are = left.are ∙ (λ i. after_changes (some.settled i) (take left.count (some.pending i)))
      ∙ sym (ap (after_changes old.settled) (take-add some.count left.count old.pending) ∙ fold-append after_change old.settled (take some.count old.pending) (take left.count (drop some.count old.pending)));
}
