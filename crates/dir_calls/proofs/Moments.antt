-- How a run of calls goes on.
use Rattle.std.proofs.Common.{inl, inr, ⊎_elim, ℕ, arith}
use Rattle.dir_calls.specs.Directory.{Directory}
use Rattle.dir_calls.specs.Moments.{Elapses, LeavesOnly}

module _ {D : Type 0} (moment : D → ℕ) (left_since : D → ℕ → Directory → Type 0) where
  -- before the first call
  pub started : (old : D) (P : Directory → Type 0) → ((image : Directory) → left_since old (moment old) image → P image) → LeavesOnly moment left_since old old P
  started old P here = record { later = omega arith; each = here; before = λ t image le left. inl left }

  -- one call more, after which a stop leaves what has P
  pub goes_on : (old mid new : D) (P Left : Directory → Type 0) → LeavesOnly moment left_since old mid P → Elapses (moment mid) (moment new) (left_since mid) (left_since new) Left
      → ((image : Directory) → Left image → P image) → LeavesOnly moment left_since old new P
  goes_on old mid new P Left so_far time here = record {
    later = omega (arith, so_far.later, time.later);
    each = λ image left. ⊎_elim (so_far.each image) (here image) (time.nothing_else (moment old) image so_far.later left);
    before = λ t image le left. ⊎_elim (so_far.before t image le) (λ now. inr (here image now)) (time.nothing_else t image (omega (arith, le, so_far.later)) left);
  }

  -- one call, before which and after which a stop leaves what has P
  pub one_call : (old new : D) (P Left Now : Directory → Type 0) → ((image : Directory) → left_since old (moment old) image → Now image) → ((image : Directory) → Now image → P image)
      → Elapses (moment old) (moment new) (left_since old) (left_since new) Left → ((image : Directory) → Left image → P image) → LeavesOnly moment left_since old new P
  one_call old new P Left Now only now time here = goes_on old old new P Left (started old P (λ image left. now image (only image left))) time here
