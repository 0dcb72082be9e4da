-- What a stop since an opening began may have left.
use Rattle.std.proofs.Common.{◌≡◌, ℕ, ⊎_elim, sym, subst, arith}
use Rattle.dir_calls.specs.Directory.{Directory}
use Rattle.dir_calls.specs.Images.{IsImage}
use Rattle.dir_calls.specs.Methods.{OpenElapses}

-- an opening changes nothing, so that it is an image of the directory as it is
pub left_by_opening : {D : Type 0} (state : D → Directory) (moment : D → ℕ) (left_since : D → ℕ → Directory → Type 0) (old new : D)
    → ((image : Directory) → left_since old (moment old) image → IsImage (state old) image) → OpenElapses state moment left_since old new
    → state new ≡ state old
    → (image : Directory) → left_since new (moment old) image → IsImage (state new) image
left_by_opening state moment left_since old new only time same image left =
    subst (λ (d : Directory). IsImage d image) (sym same)
    (⊎_elim (λ earlier. only image earlier) (λ now. now) (time.nothing_else (moment old) image (omega arith) left))
