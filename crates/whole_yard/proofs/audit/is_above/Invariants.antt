use Rattle.std.specs.Prelude.{◌≢◌, ◌≤◌, ◌<◌, ℕ, length, slice_index_or}
use Rattle.whole_yard.specs.declared.receipt.Receipt.{Receipt}
use Rattle.whole_yard.proofs.audit.is_above.Given as goal

abbrev pub invariant-loop-left : goal.invariant-loop-left
invariant-loop-left l = record {
  within : l.left ≤ length l.earlier;
  others : (k : ℕ) (d : Receipt) → l.left ≤ k → k < length l.earlier → (slice_index_or l.earlier k d).caller ≢ l.receipt.caller;
}

abbrev pub decreases-loop-left : goal.decreases-loop-left
decreases-loop-left l = l.left
