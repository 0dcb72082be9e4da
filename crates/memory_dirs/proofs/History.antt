-- What one more call may have left.
use Rattle.std.proofs.Common.{◌≡◌, ◌⊎◌, inl, inr, ⊎_elim, ℕ, zero, suc, ◌≤◌, List, [], ◌∷◌, ◌++◌, length, refl, sym, ◌∙◌, subst, ap, arith, length-append}
use Rattle.std.proofs.lemmas.List.{map-append}
use Rattle.std.specs.Prelude.{map, slice_get, Option, Some, None}
use Rattle.memory_dirs.specs.declared.folder.Folder.{Folder}
use Rattle.dir_calls.specs.Directory.{Directory}
use Rattle.dir_calls.specs.Images.{IsImage}
use Rattle.dir_calls.specs.Calls.{Call, makes, without, after}
use Rattle.dir_calls.specs.Outcomes.{Passes, LeftBy}
use Rattle.dir_calls.specs.Moments.{Elapses, Includes}
use Rattle.memory_dirs.specs.Folder.{directory_of}
use Rattle.memory_dirs.specs.Past.{PastCall, past_call, LeftIn, LeftSince}

-- the last of the calls, and those before it
at_last : (calls : List PastCall) (last : PastCall) → slice_get (calls ++ last ∷ []) (length calls) ≡ Some last
at_last [] last = refl
at_last (c ∷ calls) last = at_last calls last

at_earlier : (calls : List PastCall) (last call : PastCall) (position : ℕ) → slice_get calls position ≡ Some call → slice_get (calls ++ last ∷ []) position ≡ Some call
at_earlier [] last call position there = absurd (cc)
at_earlier (c ∷ calls) last call zero there = there
at_earlier (c ∷ calls) last call (suc position) there = at_earlier calls last call position there

at_either : (calls : List PastCall) (last call : PastCall) (position : ℕ) → slice_get (calls ++ last ∷ []) position ≡ Some call → (slice_get calls position ≡ Some call) ⊎ (call ≡ last)
at_either [] last call zero there = inr (cc)
at_either [] last call (suc position) there = absurd (cc)
at_either (c ∷ calls) last call zero there = inl there
at_either (c ∷ calls) last call (suc position) there = at_either calls last call position there

-- What is kept of a call that led from one directory to another stands for each stop within it, and for no other.
pub record Records (kept : PastCall) (call : Call) (old new : Directory) : Type 0 where
  pub start : (image : Directory) → IsImage old image → LeftIn kept image
  pub only : (image : Directory) → LeftIn kept image → IsImage old image ⊎ LeftBy call old new image
  pub all : (image : Directory) → LeftBy call old new image → LeftIn kept image ⊎ IsImage new image

-- of a call that passes through no state but the first and the last
pub records_plain : (call : Call) (old new : Directory) → new ≡ after call old → ((state : Directory) → Passes call old state → (state ≡ old) ⊎ (state ≡ after call old)) → Records (record { before = old; made = None }) call old new
records_plain call old new does plain = record { start = λ image is. inl is; only = only; all = all }
  where
    only : (image : Directory) → LeftIn (record { before = old; made = None }) image → IsImage old image ⊎ LeftBy call old new image
    only image (inl is) = inl is
    only image (inr (name, named, is)) = absurd (cc)

    all : (image : Directory) → LeftBy call old new image → LeftIn (record { before = old; made = None }) image ⊎ IsImage new image
    all image (inl (state, passes, is)) = ⊎_elim (λ first. inl (inl (subst (λ s. IsImage s image) first is))) (λ last. inr (subst (λ s. IsImage s image) (last ∙ sym does) is)) (plain state passes)
    all image (inr now) = inr now

pub records_makes : (name : List ℕ) (old new : Directory) → new ≡ after (makes name) old → Records (record { before = old; made = Some name }) (makes name) old new
records_makes name old new does = record { start = λ image is. inl is; only = only; all = all }
  where
    only : (image : Directory) → LeftIn (record { before = old; made = Some name }) image → IsImage old image ⊎ LeftBy (makes name) old new image
    only image (inl is) = inl is
    only image (inr (made, named, is)) = let same : made ≡ name = cc in inr (inl (without old name, inr (inl refl), subst (λ n. IsImage (without old n) image) same is))

    all : (image : Directory) → LeftBy (makes name) old new image → LeftIn (record { before = old; made = Some name }) image ⊎ IsImage new image
    all image (inl (state, inl first, is)) = inl (inl (subst (λ s. IsImage s image) first is))
    all image (inl (state, inr (inl gone), is)) = inl (inr (name, refl, subst (λ s. IsImage s image) gone is))
    all image (inl (state, inr (inr last), is)) = inr (subst (λ s. IsImage s image) (last ∙ sym does) is)
    all image (inr now) = inr now

-- one call more
module _ (calls : List PastCall) (kept : PastCall) (call : Call) (old new : Directory) (records : Records kept call old new) where
  pub elapses_push : Elapses (length calls) (length (calls ++ kept ∷ [])) (LeftSince calls old) (LeftSince (calls ++ kept ∷ []) new) (LeftBy call old new)
  elapses_push = record { later = omega (arith, length-append calls (kept ∷ [])); nothing_else = nothing_else; keeps = keeps }
    where
      nothing_else : (moment : ℕ) (image : Directory) → moment ≤ length calls → LeftSince (calls ++ kept ∷ []) new moment image → LeftSince calls old moment image ⊎ LeftBy call old new image
      nothing_else moment image le (inl now) = inr (inr now)
      nothing_else moment image le (inr (position, late, past, there, left)) =
          ⊎_elim (λ was. inl (inr (position, late, past, was, left))) (λ last. ⊎_elim (λ first. inl (inl first)) (λ within. inr within) (records.only image (subst (λ p. LeftIn p image) last left))) (at_either calls kept past position there)

      keeps : (moment : ℕ) (image : Directory) → moment ≤ length calls → LeftSince calls old moment image → LeftSince (calls ++ kept ∷ []) new moment image
      keeps moment image le (inl now) = inr (length calls, le, kept, at_last calls kept, records.start image now)
      keeps moment image le (inr (position, late, past, there, left)) = inr (position, late, past, at_earlier calls kept past position there, left)

  pub includes_push : Includes (length calls) (LeftSince (calls ++ kept ∷ []) new) (LeftBy call old new)
  includes_push moment image le left = ⊎_elim (λ within. inr (length calls, le, kept, at_last calls kept, within)) (λ now. inl now) (records.all image left)

-- one change more, of names or files, within which a stop leaves what a stop before it or after it leaves
module _ (calls : List PastCall) (old new : Directory) where
  abbrev pub kept_step : PastCall
  kept_step = record { before = old; made = None }

  pub elapses_step : Elapses (length calls) (length (calls ++ kept_step ∷ [])) (LeftSince calls old) (LeftSince (calls ++ kept_step ∷ []) new) (λ image. IsImage old image ⊎ IsImage new image)
  elapses_step = record { later = omega (arith, length-append calls (kept_step ∷ [])); nothing_else = nothing_else; keeps = keeps }
    where
      within : (image : Directory) → LeftIn kept_step image → IsImage old image
      within image (inl is) = is
      within image (inr (name, named, is)) = absurd (cc)

      nothing_else : (moment : ℕ) (image : Directory) → moment ≤ length calls → LeftSince (calls ++ kept_step ∷ []) new moment image → LeftSince calls old moment image ⊎ (IsImage old image ⊎ IsImage new image)
      nothing_else moment image le (inl now) = inr (inr now)
      nothing_else moment image le (inr (position, late, past, there, left)) =
          ⊎_elim (λ was. inl (inr (position, late, past, was, left))) (λ last. inr (inl (within image (subst (λ p. LeftIn p image) last left)))) (at_either calls kept_step past position there)

      keeps : (moment : ℕ) (image : Directory) → moment ≤ length calls → LeftSince calls old moment image → LeftSince (calls ++ kept_step ∷ []) new moment image
      keeps moment image le (inl now) = inr (length calls, le, kept_step, at_last calls kept_step, inl now)
      keeps moment image le (inr (position, late, past, there, left)) = inr (position, late, past, at_earlier calls kept_step past position there, left)

-- the same of the entries
module _ (entries later : List (Folder × Option (List ℕ))) (folder : Folder) (new : Directory) (pushed : later ≡ entries ++ (folder, None) ∷ []) where
  pub step_more : Elapses (length (map past_call entries)) (length (map past_call later)) (LeftSince (map past_call entries) (directory_of folder)) (LeftSince (map past_call later) new) (λ image. IsImage (directory_of folder) image ⊎ IsImage new image)
  step_more =
      subst (λ (l : List PastCall). Elapses (length (map past_call entries)) (length l) (LeftSince (map past_call entries) (directory_of folder)) (LeftSince l new) (λ image. IsImage (directory_of folder) image ⊎ IsImage new image))
      (sym (ap (map past_call) pushed ∙ map-append past_call entries ((folder, None) ∷ []))) (elapses_step (map past_call entries) (directory_of folder) new)

-- the same of the entries
module _ (entries later : List (Folder × Option (List ℕ))) (entry : Folder × Option (List ℕ)) (call : Call) (old new : Directory) (pushed : later ≡ entries ++ entry ∷ []) (records : Records (past_call entry) call old new) where
  calls_are : map past_call later ≡ map past_call entries ++ past_call entry ∷ []
  calls_are = ap (map past_call) pushed ∙ map-append past_call entries (entry ∷ [])

  pub elapses_more : Elapses (length (map past_call entries)) (length (map past_call later)) (LeftSince (map past_call entries) old) (LeftSince (map past_call later) new) (LeftBy call old new)
  elapses_more = subst (λ (l : List PastCall). Elapses (length (map past_call entries)) (length l) (LeftSince (map past_call entries) old) (LeftSince l new) (LeftBy call old new)) (sym calls_are) (elapses_push (map past_call entries) (past_call entry) call old new records)

  pub includes_more : Includes (length (map past_call entries)) (LeftSince (map past_call later) new) (LeftBy call old new)
  includes_more = subst (λ (l : List PastCall). Includes (length (map past_call entries)) (LeftSince l new) (LeftBy call old new)) (sym calls_are) (includes_push (map past_call entries) (past_call entry) call old new records)

-- a name was taken away
pub elapses_taken : (entries later : List (Folder × Option (List ℕ))) (folder : Folder) (name : List ℕ) (new : Directory) → later ≡ entries ++ (folder, None) ∷ []
    → Elapses (length (map past_call entries)) (length (map past_call later)) (LeftSince (map past_call entries) (directory_of folder)) (LeftSince (map past_call later) new) (LeftBy (makes name) (directory_of folder) new)
elapses_taken entries later folder name new pushed =
    let step = step_more entries later folder new pushed in
    record {
      later = step.later;
      nothing_else = λ moment image le left. ⊎_elim (λ was. inl was) (λ one. inr (⊎_elim (λ before. inl (directory_of folder, inl refl, before)) (λ now. inr now) one)) (step.nothing_else moment image le left);
      keeps = step.keeps;
    }
