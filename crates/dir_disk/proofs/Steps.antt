-- How the calls of a disk follow one another.
use Rattle.std.proofs.Common.{inl, inr, ⊎_elim, ℕ, arith}
use Rattle.dir_calls.specs.Directory.{Directory}
use Rattle.dir_calls.specs.Images.{IsImage}
use Rattle.dir_calls.specs.Moments.{Elapses}
use Rattle.dir_disk.specs.DiskSteps.{StepElapses}

-- two runs are one
pub elapses_join : (first mid last : ℕ) (past then since : ℕ → Directory → Type 0) (A B C : Directory → Type 0) → Elapses first mid past then A → Elapses mid last then since B
    → ((image : Directory) → A image → C image) → ((image : Directory) → B image → C image) → Elapses first last past since C
elapses_join first mid last past then since A B C one two a b = record {
  later = omega (arith, one.later, two.later);
  nothing_else = λ moment image le left. ⊎_elim (λ before. ⊎_elim (λ old. inl old) (λ is. inr (a image is)) (one.nothing_else moment image le before)) (λ is. inr (b image is)) (two.nothing_else moment image (omega (arith, le, one.later)) left);
  keeps = λ moment image le left. two.keeps moment image (omega (arith, le, one.later)) (one.keeps moment image le left);
}

-- a run leaves more than it does
pub elapses_widen : (first last : ℕ) (past since : ℕ → Directory → Type 0) (A C : Directory → Type 0) → Elapses first last past since A → ((image : Directory) → A image → C image) → Elapses first last past since C
elapses_widen first last past since A C one a = record {
  later = one.later;
  nothing_else = λ moment image le left. ⊎_elim (λ old. inl old) (λ is. inr (a image is)) (one.nothing_else moment image le left);
  keeps = one.keeps;
}

module _ {D : Type 0} (state : D → Directory) (moment : D → ℕ) (left_since : D → ℕ → Directory → Type 0) where
  -- after calls that left what a stop before them leaves
  pub step_after : (a b c : D) → StepElapses state moment left_since a b → ((image : Directory) → IsImage (state b) image → IsImage (state a) image)
      → StepElapses state moment left_since b c → StepElapses state moment left_since a c
  step_after a b c one same two =
      elapses_join (moment a) (moment b) (moment c) (left_since a) (left_since b) (left_since c) _ _ _ one two
      (λ image. λ is. inl (⊎_elim (λ was. was) (same image) is)) (λ image. λ is. ⊎_elim (λ was. inl (same image was)) (λ now. inr now) is)

  -- before calls that leave the images as they are
  pub step_before : (a b c : D) → StepElapses state moment left_since a b → StepElapses state moment left_since b c → ((image : Directory) → IsImage (state b) image → IsImage (state c) image)
      → StepElapses state moment left_since a c
  step_before a b c one two same =
      elapses_join (moment a) (moment b) (moment c) (left_since a) (left_since b) (left_since c) _ _ _ one two
      (λ image. λ is. ⊎_elim (λ was. inl was) (λ now. inr (same image now)) is) (λ image. λ is. inr (⊎_elim (same image) (λ now. now) is))
