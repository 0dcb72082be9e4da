-- What is told of a disk's answer.
use Rattle.std.proofs.Common.{◌≡◌, ◌⊎◌, [], ◌∷◌, inl, inr, ⊎_elim, ℕ, ◌≤◌, refl, sym, subst, arith}
use Rattle.std.specs.Prelude.{Result, Ok, Err, IfOk, IfErr, OnOk, OnErr, IsErr, Contains}
use Rattle.dir_calls.specs.Directory.{Directory}
use Rattle.dir_calls.specs.Images.{IsImage}
use Rattle.dir_calls.specs.Calls.{Call, after}
use Rattle.dir_calls.specs.Outcomes.{Does, Fails, Passes, LeftBy}
use Rattle.dir_calls.specs.Moments.{Elapses, Includes}
use Rattle.dir_disk.specs.DiskSteps.{StepElapses}
use Rattle.dir_calls.specs.declared.fault.DirFault.{DirFault}
use Rattle.dir_calls.specs.declared.fault.DirFault.TheVariants.{NoScratch, NoName, Device, OutOfMemory}
use Rattle.dir_calls.proofs.Passing.{passes_start}
use Rattle.dir_disk.proofs.Steps.{elapses_widen}

pub on_ok_then : {T E : Type 0} (r : Result T E) (P Q : Type 0) → (P → Q) → OnOk r P → OnOk r Q
on_ok_then (Ok x) P Q to has = to has
on_ok_then (Err e) P Q to has = has

pub on_err_then : {T E : Type 0} (r : Result T E) (P Q : Type 0) → (P → Q) → OnErr r P → OnErr r Q
on_err_then (Ok x) P Q to has = has
on_err_then (Err e) P Q to has = to has

pub if_err_then : {T E : Type 0} (r : Result T E) (P Q : E → Type 0) → ((e : E) → P e → Q e) → IfErr r P → IfErr r Q
if_err_then (Ok x) P Q to has = has
if_err_then (Err e) P Q to has = to e has

pub on_err_give : {T E : Type 0} (r : Result T E) (Q : Type 0) → Q → OnErr r Q
on_err_give (Ok x) Q has = _
on_err_give (Err e) Q has = has

-- what holds where the answer is Ok holds where it is told so
pub told_ok : {T E F : Type 0} (answer : Result T E) (told : Result T F) (P : Type 0) → IfOk told (λ v. answer ≡ Ok v) → OnOk answer P → OnOk told P
told_ok answer (Ok v) P passed has = subst (λ (r : Result _ _). OnOk r P) passed has
told_ok answer (Err f) P passed has = _

pub told_err : {T E F : Type 0} (answer : Result T E) (told : Result T F) (P : Type 0) → OnErr told (IsErr answer) → OnErr answer P → OnErr told P
told_err answer (Ok v) P failed has = _
told_err (Ok v) (Err f) P failed has = absurd (cc)
told_err (Err e) (Err f) P failed has = has

-- a call that did all of its work, or failed
pub does_told : {T : Type 0} (done : T → Call) (whole : Call) (d e : Directory) (told : Result T DirFault) → IfOk told (λ v. e ≡ after (done v) d) → IfErr told (λ f. f ≡ Device) → OnErr told (Fails whole d e)
    → Does done whole d e told
does_told done whole d e (Ok v) ok device failed = ok
does_told done whole d e (Err Device) ok device failed = failed
does_told done whole d e (Err NoScratch) ok device failed = absurd (cc)
does_told done whole d e (Err NoName) ok device failed = absurd (cc)
does_told done whole d e (Err OutOfMemory) ok device failed = absurd (cc)

-- what an answer holds that is known
pub on_err_take : {T E : Type 0} (r : Result T E) (P : Type 0) → IsErr r → OnErr r P → P
on_err_take (Ok x) P is has = absurd (cc)
on_err_take (Err e) P is has = has

pub on_ok_take : {T E : Type 0} (r : Result T E) (x : T) (P : Type 0) → r ≡ Ok x → OnOk r P → P
on_ok_take r x P is has = subst (λ (a : Result _ _). OnOk a P) is has

pub if_ok_take : {T E : Type 0} (r : Result T E) (x : T) (P : T → Type 0) → r ≡ Ok x → IfOk r P → P x
if_ok_take r x P is has = subst (λ (a : Result _ _). IfOk a P) is has

-- a device fault is among the faults that a call may answer
pub among_writes : {T : Type 0} (r : Result T DirFault) → IfErr r (λ f. f ≡ Device) → IfErr r (Contains (NoScratch ∷ Device ∷ OutOfMemory ∷ []))
among_writes (Ok x) is = _
among_writes (Err f) is = subst (λ (x : DirFault). Contains (NoScratch ∷ Device ∷ OutOfMemory ∷ []) x) (sym is) (1, omega arith, refl)

pub among_opens : {T : Type 0} (r : Result T DirFault) → IfErr r (λ f. f ≡ Device) → IfErr r (Contains (Device ∷ OutOfMemory ∷ []))
among_opens (Ok x) is = _
among_opens (Err f) is = subst (λ (x : DirFault). Contains (Device ∷ OutOfMemory ∷ []) x) (sym is) (0, omega arith, refl)

pub among_memory : {T : Type 0} (r : Result T DirFault) → IfErr r (λ f. f ≡ OutOfMemory) → IfErr r (Contains (NoScratch ∷ Device ∷ OutOfMemory ∷ []))
among_memory (Ok x) is = _
among_memory (Err f) is = subst (λ (x : DirFault). Contains (NoScratch ∷ Device ∷ OutOfMemory ∷ []) x) (sym is) (2, omega arith, refl)

pub among_renames : {T : Type 0} (r : Result T DirFault) → IfErr r (λ f. (f ≡ NoName) ⊎ (f ≡ Device)) → IfErr r (Contains (NoName ∷ Device ∷ OutOfMemory ∷ []))
among_renames (Ok x) is = _
among_renames (Err f) is = ⊎_elim (λ name. subst (λ (x : DirFault). Contains (NoName ∷ Device ∷ OutOfMemory ∷ []) x) (sym name) (0, omega arith, refl))
    (λ device. subst (λ (x : DirFault). Contains (NoName ∷ Device ∷ OutOfMemory ∷ []) x) (sym device) (1, omega arith, refl)) is

-- a move is not told to want memory
pub no_memory_told : {T : Type 0} (r : Result T DirFault) (P : Type 0) → IfErr r (λ f. (f ≡ NoName) ⊎ (f ≡ Device)) → r ≡ Err OutOfMemory → P
no_memory_told (Ok x) P is memory = absurd (cc)
no_memory_told (Err f) P is memory = ⊎_elim (λ name. absurd (cc)) (λ device. absurd (cc)) is

-- what holds where the answer is that there is no such name
pub absent_told : {T E : Type 0} (answer : Result T E) (told : Result T DirFault) (K : E → Type 0) (P : Type 0) → OnErr told (IsErr answer) → (told ≡ Err NoName → IfErr answer K) → told ≡ Err NoName
    → IfErr answer (λ e. K e → P) → P
absent_told (Ok x) (Ok v) K P failed absent is has = absurd (cc)
absent_told (Ok x) (Err f) K P failed absent is has = absurd (cc)
absent_told (Err e) told K P failed absent is has = has (absent is)

-- a move that did all of its work, found no name and did nothing, or failed
pub does_move : {T E : Type 0} (call : Call) (d e : Directory) (answer : Result T E) (told : Result T DirFault) (K : E → Type 0) → IfErr told (λ f. (f ≡ NoName) ⊎ (f ≡ Device)) → OnErr told (IsErr answer)
    → (told ≡ Err NoName → IfErr answer K) → OnOk told (e ≡ after call d) → OnErr told (Fails call d e) → IfErr answer (λ x. K x → e ≡ d) → Does (λ _. call) call d e told
does_move call d e answer (Ok v) K faults failed absent done fails same = done
does_move call d e answer (Err Device) K faults failed absent done fails same = fails
does_move call d e answer (Err NoName) K faults failed absent done fails same = absent_told answer (Err NoName) K (e ≡ d) failed absent refl same
does_move call d e answer (Err NoScratch) K faults failed absent done fails same = ⊎_elim (λ name. absurd (cc)) (λ device. absurd (cc)) faults
does_move call d e answer (Err OutOfMemory) K faults failed absent done fails same = ⊎_elim (λ name. absurd (cc)) (λ device. absurd (cc)) faults

-- a device fault that is passed on
pub does_residual : {T : Type 0} (done : T → Call) (whole : Call) (d e : Directory) (r : Result T DirFault) → IsErr r → IfErr r (λ f. f ≡ Device) → Fails whole d e → Does done whole d e r
does_residual done whole d e (Ok x) is device fails = absurd (cc)
does_residual done whole d e (Err Device) is device fails = fails
does_residual done whole d e (Err NoScratch) is device fails = absurd (cc)
does_residual done whole d e (Err NoName) is device fails = absurd (cc)
does_residual done whole d e (Err OutOfMemory) is device fails = absurd (cc)

-- time of a call that is one step of a disk, or several that leave no other images
pub left_by : (call : Call) (d e kd ke : Directory) → ((image : Directory) → IsImage d image → IsImage kd image) → ((image : Directory) → IsImage e image → IsImage ke image)
    → (image : Directory) → IsImage d image ⊎ IsImage e image → LeftBy call kd ke image
left_by call d e kd ke from to image is = ⊎_elim (λ first. inl (kd, passes_start call kd, from image first)) (λ last. inr (to image last)) is

module _ {D : Type 0} (state : D → Directory) (moment : D → ℕ) (left_since : D → ℕ → Directory → Type 0) where
  pub call_elapses : (old new : D) (call : Call) (kd ke : Directory) → StepElapses state moment left_since old new → ((image : Directory) → IsImage (state old) image → IsImage kd image)
      → ((image : Directory) → IsImage (state new) image → IsImage ke image) → Elapses (moment old) (moment new) (left_since old) (left_since new) (LeftBy call kd ke)
  call_elapses old new call kd ke time from to =
      elapses_widen (moment old) (moment new) (left_since old) (left_since new) (λ image. IsImage (state old) image ⊎ IsImage (state new) image) (LeftBy call kd ke) time (left_by call (state old) (state new) kd ke from to)

  pub call_includes_by : ((disk : D) (earlier : ℕ) (image : Directory) → earlier ≤ moment disk → IsImage (state disk) image → left_since disk earlier image)
      → (old new : D) (call : Call) (kd ke : Directory) → StepElapses state moment left_since old new → ((at image : Directory) → Passes call kd at → IsImage at image → IsImage (state old) image ⊎ IsImage (state new) image)
      → ((image : Directory) → IsImage ke image → IsImage (state new) image) → Includes (moment old) (left_since new) (LeftBy call kd ke)
  call_includes_by counts old new call kd ke time within to earlier image le left =
      ⊎_elim (λ during. ⊎_elim first now (within during.0 image during.1 during.2)) (λ last. now (to image last)) left
    where
      first : IsImage (state old) image → left_since new earlier image
      first is = time.keeps earlier image le (counts old earlier image le is)

      now : IsImage (state new) image → left_since new earlier image
      now is = counts new earlier image (omega (arith, le, time.later)) is

  pub call_includes : ((disk : D) (earlier : ℕ) (image : Directory) → earlier ≤ moment disk → IsImage (state disk) image → left_since disk earlier image)
      → (old new : D) (call : Call) (kd ke : Directory) → StepElapses state moment left_since old new → ((image : Directory) → IsImage kd image → IsImage (state old) image)
      → ((image : Directory) → IsImage ke image → IsImage (state new) image) → ((at : Directory) → Passes call kd at → (at ≡ kd) ⊎ (at ≡ ke)) → Includes (moment old) (left_since new) (LeftBy call kd ke)
  call_includes counts old new call kd ke time from to plain earlier image le left = ⊎_elim (λ within. during within.0 within.1 within.2) (λ last. now last) left
    where
      first : IsImage kd image → left_since new earlier image
      first is = time.keeps earlier image le (counts old earlier image le (from image is))

      now : IsImage ke image → left_since new earlier image
      now is = counts new earlier image (omega (arith, le, time.later)) (to image is)

      during : (at : Directory) → Passes call kd at → IsImage at image → left_since new earlier image
      during at passes is = ⊎_elim (λ same. first (subst (λ (x : Directory). IsImage x image) same is)) (λ same. now (subst (λ (x : Directory). IsImage x image) same is)) (plain at passes)
