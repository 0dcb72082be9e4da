-- What a filling of the scratch file leaves, by what its call of the directory answered.
use Rattle.std.proofs.Common.{◌≡◌, ◌⊎◌, inl, inr, ⊎_elim, ◌+◌, ◌<◌, ◌≤◌, Bool, true, false, IsTrue, ℕ, zero, suc, List, [], ◌∷◌, ◌++◌, length, take, drop, refl, sym, ◌∙◌, ap, subst, arith}
use Rattle.std.proofs.lemmas.Option.{same_Some}
use Rattle.std.specs.Prelude.{slice_get, Option, None, Some, Result, Ok, Err, OnOk, is_ok, option_and_then}
use Rattle.dir_calls.specs.declared.fault.DirFault.{DirFault}
use Rattle.dir_calls.specs.declared.fault.DirFault.TheVariants.{NoScratch, NoName, Device, OutOfMemory as NoMemory}
use Rattle.dir_calls.specs.Directory.{Directory, FileState, number_of, scratch_of}
use Rattle.dir_calls.specs.Images.{IsImage}
use Rattle.dir_calls.specs.Calls.{Call, appends, patches, after, longer, patched, with_file, with_scratch}
use Rattle.dir_calls.specs.Outcomes.{Does, LeftBy}
use Rattle.dir_calls.specs.Lasting.{LastsAmong, HasAmong}
use Rattle.dir_calls.specs.Moments.{Elapses, LeavesOnly, CountsFault}
use Rattle.dir_calls.specs.declared.dir.Dir.{Ghosts}
use Rattle.dir_calls.proofs.Counting.{counts_later, counts_device}
use Rattle.dir_calls.proofs.Lasting.{CallKeeps, image_has, left_has, does_lasts}
use Rattle.dir_calls.proofs.Moments.{one_call, started}
use Rattle.cdb_files.specs.Image.{finished_length, header_bytes, pointers_of}
use Rattle.cdb_files.specs.Compiled.{stored}
use Rattle.dir_calls.specs.declared.phase.Phase.{Phase}
use Rattle.dir_calls.specs.declared.phase.Phase.TheVariants.{Fresh, Filling, Synced, Named, Done}
use Rattle.rules_install.specs.declared.fault.InstallFault.{InstallFault}
use Rattle.rules_install.specs.declared.fault.InstallFault.TheVariants.{OutOfMemory}
use Rattle.rules_install.specs.Filled.{blank_file, filled_file, fillings_left, whole_file}
use Rattle.rules_install.specs.Installing.{Installing, Fits, FitsPhase, HasScratch, next_of, next_phase}
use Rattle.rules_install.proofs.StepFaults.{IsSure, of_device}
use Rattle.rules_install.specs.Steps.{IsCallOf, Changes, IsSame, Goes, HasFilled, StepKeeps, StepsTo, BlamesDevice, answer_of, noted}
use Rattle.rules_install.proofs.FillBytes.{blank_filled, filled_more, length-blank, length-pointers, pointers_over}

-- ---- the phase

pub is_filling : (reached : Option Phase) (patched : Bool) → next_of reached patched ≡ Filling
    → ((reached ≡ Some Fresh) ⊎ (reached ≡ Some Filling)) × (patched ≡ false)
is_filling None patched is = absurd (cc)
is_filling (Some Fresh) true is = absurd (cc)
is_filling (Some Fresh) false is = (inl refl, refl)
is_filling (Some Filling) true is = absurd (cc)
is_filling (Some Filling) false is = (inr refl, refl)
is_filling (Some Synced) patched is = absurd (cc)
is_filling (Some Named) patched is = absurd (cc)
is_filling (Some Done) patched is = absurd (cc)

-- the pointers are not yet in their place
pub unpatched : (s : Installing) → next_phase s ≡ Filling → s.patched ≡ false
unpatched s next = (is_filling s.reached s.patched next).1

pub not_patched : (s : Installing) → next_phase s ≡ Filling → s.patched ≡ true → ⊥
not_patched s next patched = let none = unpatched s next in absurd (cc)

-- it was begun
begun_before : (reached : Option Phase) (patched : Bool) → next_of reached patched ≡ Filling → reached ≡ None → ⊥
begun_before None patched is none = absurd (cc)
begun_before (Some phase) patched is none = absurd (cc)

pub was_begun : (s : Installing) → next_phase s ≡ Filling → s.reached ≡ None → ⊥
was_begun s next none = begun_before s.reached s.patched next none

-- ---- the scratch file

record ScratchAt (d : Directory) (tmp bytes : List ℕ) : Type 0 where
  pub n : ℕ
  pub number : number_of d tmp ≡ Some n
  pub scratch : d.scratch ≡ Some n
  pub file : slice_get d.files n ≡ Some (record { bytes = bytes; synced = false })

-- an unsynced scratch file with these bytes stands under a name
abbrev pub IsScratch : Directory → List ℕ → List ℕ → Type 0
IsScratch d tmp bytes = (number_of d tmp ≡ d.scratch) × (scratch_of d ≡ Some (record { bytes = bytes; synced = false }))

scratch_at : (d : Directory) (tmp bytes : List ℕ) → IsScratch d tmp bytes → ScratchAt d tmp bytes
scratch_at d tmp bytes has = by d.scratch refl has.1
  where
    by : (scratch : Option ℕ) → d.scratch ≡ scratch
        → option_and_then (λ n. slice_get d.files n) scratch ≡ Some (record { bytes = bytes; synced = false }) → ScratchAt d tmp bytes
    by None is file = absurd (cc)
    by (Some n) is file = record { n = n; number = has.0 ∙ is; scratch = is; file = file }

is_scratch : (d : Directory) (tmp bytes : List ℕ) → ScratchAt d tmp bytes → IsScratch d tmp bytes
is_scratch d tmp bytes at = (at.number ∙ sym at.scratch, ap (option_and_then (λ n. slice_get d.files n)) at.scratch ∙ at.file)

at_file : (change : FileState → FileState) (n : ℕ) (files : List FileState) (file : FileState) → slice_get files n ≡ Some file
    → slice_get (with_file change n files) n ≡ Some (change file)
at_file change n [] file is = absurd (cc)
at_file change zero (x ∷ files) file is = let same : x ≡ file = cc in ap (λ (f : FileState). Some (change f)) same
at_file change (suc n) (x ∷ files) file is = at_file change n files file is

changed : (change : FileState → FileState) (d e : Directory) (tmp bytes new : List ℕ) → IsScratch d tmp bytes
    → change (record { bytes = bytes; synced = false }) ≡ record { bytes = new; synced = false } → e ≡ with_scratch change d.scratch d
    → IsScratch e tmp new
changed change d e tmp bytes new has changes is =
    let at = scratch_at d tmp bytes has in
    let e_is = is ∙ ap (λ (scratch : Option ℕ). with_scratch change scratch d) at.scratch in
    is_scratch e tmp new (record {
      n = at.n;
      number = ap (λ (f : Directory). number_of f tmp) e_is ∙ at.number;
      scratch = ap (λ (f : Directory). f.scratch) e_is ∙ at.scratch;
      file = ap (λ (f : Directory). slice_get f.files at.n) e_is ∙ at_file change at.n d.files _ at.file ∙ ap Some changes;
    })

-- after an append
pub appended_has : (d e : Directory) (tmp bytes piece new : List ℕ) → IsScratch d tmp bytes → bytes ++ piece ≡ new
    → e ≡ after (appends piece) d → IsScratch e tmp new
appended_has d e tmp bytes piece new has same is =
    changed (longer piece) d e tmp bytes new has (ap (λ (l : List ℕ). record { bytes = l; synced = false }) same) is

-- after a patch
pub patched_has : (d e : Directory) (tmp bytes : List ℕ) (position : ℕ) (over new : List ℕ) → IsScratch d tmp bytes
    → take position bytes ++ over ++ drop (position + length over) bytes ≡ new
    → e ≡ after (patches position over) d → IsScratch e tmp new
patched_has d e tmp bytes position over new has same is =
    changed (patched position over) d e tmp bytes new has (ap (λ (l : List ℕ). record { bytes = l; synced = false }) same) is

-- in the step to another filling
pub filling_has : (s : Installing) (d : Directory) → next_phase s ≡ Filling → FitsPhase s d s.reached → HasScratch s d
filling_has s d next fits = ⊎_elim (λ e. subst (λ reached. FitsPhase s d reached) e fits) (λ e. subst (λ reached. FitsPhase s d reached) e fits) (is_filling s.reached s.patched next).0

-- the pointers fit into the scratch file
pub pointers_fit : (s : Installing) (d : Directory) → next_phase s ≡ Filling → FitsPhase s d s.reached → s.filled ≡ length (blank_file s.rules)
    → (header : List ℕ) → header ≡ header_bytes (pointers_of (stored s.rules)) → (file : FileState) → scratch_of d ≡ Some file
    → 0 + length header ≤ length file.bytes
pointers_fit s d next fits all header header_is file is =
    let same = same_Some _ _ (sym (filling_has s d next fits).1 ∙ is) in
    let size : length file.bytes ≡ finished_length (stored s.rules) =
    ap (λ (f : FileState). length f.bytes) (sym same) ∙ ap (λ (l : List ℕ). length l) (blank_filled s.rules s.filled s.patched (unpatched s next) all) ∙ length-blank s.rules in
    let width : length header ≡ 2048 = ap (λ (l : List ℕ). length l) header_is ∙ length-pointers s.rules in
    omega arith

-- with them the scratch file is whole
pub pointers_has : (s : Installing) (d e : Directory) → next_phase s ≡ Filling → FitsPhase s d s.reached → s.filled ≡ length (blank_file s.rules)
    → (header : List ℕ) → header ≡ header_bytes (pointers_of (stored s.rules)) → e ≡ after (patches 0 header) d
    → HasScratch (record s { patched = true }) e
pointers_has s d e next fits all header header_is is =
    patched_has d e s.names.tmp (filled_file s.rules s.filled s.patched) 0 header (whole_file s.rules) (filling_has s d next fits)
    (ap (λ (l : List ℕ). take 0 l ++ header ++ drop (0 + length header) l) (blank_filled s.rules s.filled s.patched (unpatched s next) all) ∙ pointers_over s.rules header header_is) is

-- with so many bytes more
abbrev pub longer_by : Installing → ℕ → Installing
longer_by s count = record s { filled = s.filled + count }

-- with bytes more it has so many of the file
pub bytes_have : (s : Installing) (d e : Directory) (count : ℕ) (left more : List ℕ) → next_phase s ≡ Filling → FitsPhase s d s.reached
    → left ++ more ≡ drop s.filled (blank_file s.rules) → count ≤ length left → e ≡ after (appends (take count left)) d
    → HasScratch (longer_by s count) e
bytes_have s d e count left more next fits left_is le is =
    appended_has d e s.names.tmp (filled_file s.rules s.filled s.patched) (take count left) (filled_file s.rules (s.filled + count) s.patched) (filling_has s d next fits)
    (subst (λ (p : Bool). filled_file s.rules s.filled p ++ take count left ≡ filled_file s.rules (s.filled + count) p) (sym (unpatched s next))
    (filled_more s.filled count left more (blank_file s.rules) left_is le)) is

-- ---- a step of filling

-- the installation after a filling, by what its call answered
abbrev pub advanced : {T : Type 0} → (T → Installing) → Installing → Result T DirFault → Installing
advanced next s (Ok x) = record (next x) { reached = Some Filling }
advanced next s (Err NoMemory) = s
advanced next s (Err fault) = record s { over = true }

-- the same installation, not over
pub record Advances (s t : Installing) : Type 0 where
  pub rules : t.rules ≡ s.rules
  pub names : t.names ≡ s.names
  pub is_open : t.over ≡ false

module _ {D F : Type 0} {T : Type 0} (tells : Ghosts D F)
    (s : Installing) (old new : D) (done : T → Call) (whole : Call) (next : T → Installing) where
  step_same : (outcome : Result T DirFault) → ((x : T) → Advances s (next x)) → IsSame s (advanced next s outcome)
  step_same (Ok x) further = record { rules = (further x).rules; names = (further x).names }
  step_same (Err NoMemory) further = record { rules = refl; names = refl }
  step_same (Err NoScratch) further = record { rules = refl; names = refl }
  step_same (Err NoName) further = record { rules = refl; names = refl }
  step_same (Err Device) further = record { rules = refl; names = refl }

  step_goes : (outcome : Result T DirFault) → ((x : T) → Advances s (next x)) → Goes Filling s (advanced next s outcome) (answer_of Filling outcome)
  step_goes (Ok x) further = (refl, refl, (further x).is_open)
  step_goes (Err NoMemory) further = refl
  step_goes (Err NoScratch) further = (refl, refl, refl, λ is. absurd (cc))
  step_goes (Err NoName) further = (refl, refl, refl, λ is. absurd (cc))
  step_goes (Err Device) further = (refl, refl, refl, λ is. absurd (cc))

  step_kept : (outcome : Result T DirFault) → (answer_of Filling outcome ≡ Ok Filling → ⊥) → HasFilled s (advanced next s outcome)
  step_kept (Ok x) not_filled = absurd (not_filled refl)
  step_kept (Err NoMemory) not_filled = record { filled = refl; patched = refl }
  step_kept (Err NoScratch) not_filled = record { filled = refl; patched = refl }
  step_kept (Err NoName) not_filled = record { filled = refl; patched = refl }
  step_kept (Err Device) not_filled = record { filled = refl; patched = refl }

  step_fits : (outcome : Result T DirFault) → Fits s (tells.state old)
      → ((x : T) → outcome ≡ Ok x → tells.state new ≡ after (done x) (tells.state old) → HasScratch (next x) (tells.state new))
      → Does done whole (tells.state old) (tells.state new) outcome → Fits (advanced next s outcome) (tells.state new)
  step_fits (Ok x) fits has does = λ is_open. has x refl does
  step_fits (Err NoMemory) fits has does = λ is_open. subst (λ (d : Directory). FitsPhase s d s.reached) (sym does) (fits is_open)
  step_fits (Err NoScratch) fits has does = λ is_open. absurd (cc)
  step_fits (Err NoName) fits has does = λ is_open. absurd (cc)
  step_fits (Err Device) fits has does = λ is_open. absurd (cc)

  step_changes : (outcome : Result T DirFault) → IsCallOf s Filling whole → ((x : T) → IsCallOf s Filling (done x))
      → Does done whole (tells.state old) (tells.state new) outcome
      → Changes s Filling (tells.state old) (tells.state new) (answer_of Filling outcome)
  step_changes (Ok x) call part does = (done x, part x, does)
  step_changes (Err NoMemory) call part does = does
  step_changes (Err NoScratch) call part does = does
  step_changes (Err NoName) call part does = does
  step_changes (Err Device) call part does = (whole, call, does)

  step_keeps : (outcome : Result T DirFault)
      → ((image : Directory) → tells.left_since old (tells.moment old) image → IsImage (tells.state old) image)
      → Elapses (tells.moment old) (tells.moment new) (tells.left_since old) (tells.left_since new) (LeftBy whole (tells.state old) (tells.state new))
      → Does done whole (tells.state old) (tells.state new) outcome
      → ((olds : List (Option (List ℕ))) → LastsAmong (tells.state old) s.names.cdb olds → CallKeeps whole (tells.state old) s.names.cdb olds)
      → ((x : T) (olds : List (Option (List ℕ))) → LastsAmong (tells.state old) s.names.cdb olds → CallKeeps (done x) (tells.state old) s.names.cdb olds)
      → StepKeeps tells Filling s old new
  step_keeps outcome only time does keeps part = record { lasts = lasts; any_moment = any_moment }
    where
      lasts : (olds : List (Option (List ℕ))) → LastsAmong (tells.state old) s.names.cdb olds → LastsAmong (tells.state new) s.names.cdb olds
      lasts olds before =
          does_lasts done whole (tells.state old) (tells.state new) outcome s.names.cdb olds does (keeps olds before) (λ x. part x olds before)

      any_moment : (olds : List (Option (List ℕ))) → LastsAmong (tells.state old) s.names.cdb olds
          → LeavesOnly tells.moment tells.left_since old new (HasAmong s.names.cdb olds)
      any_moment olds before =
          one_call tells.moment tells.left_since old new (HasAmong s.names.cdb olds) (LeftBy whole (tells.state old) (tells.state new)) (IsImage (tells.state old)) only
          (λ image is. image_has (tells.state old) image s.names.cdb olds before is)
          time (λ image left. left_has whole (tells.state old) (tells.state new) image s.names.cdb olds (keeps olds before) (lasts olds before) left)

  step_blames : (outcome : Result T DirFault) → CountsFault (tells.failed old) (tells.failed new) outcome
      → BlamesDevice (tells.failed old) (tells.failed new) (answer_of Filling outcome)
  step_blames (Ok x) counted = tt
  step_blames (Err NoMemory) counted = tt
  step_blames (Err NoScratch) counted = tt
  step_blames (Err NoName) counted = tt
  step_blames (Err Device) counted = counts_device (tells.failed old) (tells.failed new) counted

  -- all that is promised of it
  pub filling_steps : (outcome : Result T DirFault) (s' : Installing) (result : Result Phase InstallFault)
      → s' ≡ advanced next s outcome → result ≡ answer_of Filling outcome
      → ((x : T) → Advances s (next x))
      → IsCallOf s Filling whole → ((x : T) → IsCallOf s Filling (done x))
      → (IsTrue tells.honest → Fits s (tells.state old))
      → (IsTrue tells.honest → (x : T) → outcome ≡ Ok x → tells.state new ≡ after (done x) (tells.state old) → HasScratch (next x) (tells.state new))
      → ((image : Directory) → IsTrue tells.honest → tells.left_since old (tells.moment old) image → IsImage (tells.state old) image)
      → (IsTrue tells.honest → Elapses (tells.moment old) (tells.moment new) (tells.left_since old) (tells.left_since new) (LeftBy whole (tells.state old) (tells.state new)))
      → (IsTrue tells.honest → Does done whole (tells.state old) (tells.state new) outcome)
      → ((olds : List (Option (List ℕ))) → LastsAmong (tells.state old) s.names.cdb olds → CallKeeps whole (tells.state old) s.names.cdb olds)
      → ((x : T) (olds : List (Option (List ℕ))) → LastsAmong (tells.state old) s.names.cdb olds → CallKeeps (done x) (tells.state old) s.names.cdb olds)
      → CountsFault (tells.failed old) (tells.failed new) outcome
      → (IsTrue tells.honest → (fault : DirFault) → outcome ≡ Err fault → IsSure fault)
      → StepsTo tells Filling s s' old new result
  filling_steps outcome s' result s'_is result_is further call calls fits has only time does keeps part counted sure =
      subst (λ r. StepsTo tells Filling s s' old new r) (sym result_is)
      (subst (λ t. StepsTo tells Filling s t old new (answer_of Filling outcome)) (sym s'_is) (record {
        same = step_same outcome further;
        goes = step_goes outcome further;
        kept = step_kept outcome;
        fits = λ h. step_fits outcome (fits h) (has h) (does h);
        changes = λ h. step_changes outcome call calls (does h);
        keeps = λ h. step_keeps outcome (λ image left. only image h left) (time h) (does h) keeps part;
        stops = λ h. record { call = whole; is_call = call; time = time h };
        settling = λ is. absurd (cc);
        device = λ h. of_device Filling outcome (sure h);
        failures = counts_later (tells.failed old) (tells.failed new) outcome counted;
        blames = step_blames outcome counted;
      }))

-- ---- what is noted of a call

after_patch : {T : Type 0} (s t : Installing) (outcome : Result T DirFault) → ((is_ok outcome ≡ true) × (t ≡ record s { patched = true }))
    ⊎ ((is_ok outcome ≡ false) × (t ≡ s))
    → noted Filling t outcome ≡ advanced (λ (x : T). record s { patched = true }) s outcome
after_patch s t (Ok x) (inl done) = ap (λ (i : Installing). record i { reached = Some Filling }) done.1
after_patch s t (Ok x) (inr failed) = absurd (cc)
after_patch s t (Err NoMemory) (inl done) = absurd (cc)
after_patch s t (Err NoMemory) (inr failed) = failed.1
after_patch s t (Err NoScratch) (inl done) = absurd (cc)
after_patch s t (Err NoScratch) (inr failed) = ap (λ (i : Installing). record i { over = true }) failed.1
after_patch s t (Err NoName) (inl done) = absurd (cc)
after_patch s t (Err NoName) (inr failed) = ap (λ (i : Installing). record i { over = true }) failed.1
after_patch s t (Err Device) (inl done) = absurd (cc)
after_patch s t (Err Device) (inr failed) = ap (λ (i : Installing). record i { over = true }) failed.1

-- of a patch, where it is also kept that it succeeded
pub patch_noted : {T : Type 0} (s t s' : Installing) (outcome : Result T DirFault) → s' ≡ noted Filling t outcome
    → ((is_ok outcome ≡ true) × (t ≡ record s { patched = true })) ⊎ ((is_ok outcome ≡ false) × (t ≡ s))
    → s' ≡ advanced (λ (x : T). record s { patched = true }) s outcome
patch_noted s t s' outcome is cases = is ∙ after_patch s t outcome cases

-- of a call that failed, as an answer of another type
other_failure : {T : Type 0} (U : Type 0) (s : Installing) (next : T → Installing) (fault : DirFault)
    → noted {T = U} Filling s (Err fault) ≡ advanced next s (Err fault)
other_failure U s next NoMemory = refl
other_failure U s next NoScratch = refl
other_failure U s next NoName = refl
other_failure U s next Device = refl

other_answer : (T U : Type 0) (fault : DirFault) → answer_of {T = U} Filling (Err fault) ≡ answer_of {T = T} Filling (Err fault)
other_answer T U NoMemory = refl
other_answer T U NoScratch = refl
other_answer T U NoName = refl
other_answer T U Device = refl

pub failure_noted : {T : Type 0} (U : Type 0) (s s' : Installing) (next : T → Installing) (outcome : Result T DirFault) (fault : DirFault)
    → outcome ≡ Err fault → s' ≡ noted {T = U} Filling s (Err fault) → s' ≡ advanced next s outcome
failure_noted U s s' next outcome fault outcome_is is = is ∙ other_failure U s next fault ∙ ap (advanced next s) (sym outcome_is)

pub failure_answer : {T : Type 0} (U : Type 0) (outcome : Result T DirFault) (result : Result Phase InstallFault) (fault : DirFault)
    → outcome ≡ Err fault → result ≡ answer_of {T = U} Filling (Err fault) → result ≡ answer_of Filling outcome
failure_answer {T} U outcome result fault outcome_is is = is ∙ other_answer T U fault ∙ ap (answer_of Filling) (sym outcome_is)

-- where it succeeded, less is left to fill
pub filling_more : {T : Type 0} (s : Installing) (next : T → Installing) (outcome : Result T DirFault) (s' : Installing) (result : Result Phase InstallFault)
    → s' ≡ advanced next s outcome → result ≡ answer_of Filling outcome
    → ((x : T) → outcome ≡ Ok x → fillings_left (next x).rules (next x).filled (next x).patched < fillings_left s.rules s.filled s.patched)
    → OnOk result (fillings_left s'.rules s'.filled s'.patched < fillings_left s.rules s.filled s.patched)
filling_more s next (Ok x) s' result s'_is result_is less =
    subst (λ r. OnOk r (fillings_left s'.rules s'.filled s'.patched < fillings_left s.rules s.filled s.patched)) (sym result_is)
    (subst (λ (t : Installing). fillings_left t.rules t.filled t.patched < fillings_left s.rules s.filled s.patched) (sym s'_is) (less x refl))
filling_more s next (Err NoMemory) s' result s'_is result_is less =
    subst (λ r. OnOk r (fillings_left s'.rules s'.filled s'.patched < fillings_left s.rules s.filled s.patched)) (sym result_is) tt
filling_more s next (Err NoScratch) s' result s'_is result_is less =
    subst (λ r. OnOk r (fillings_left s'.rules s'.filled s'.patched < fillings_left s.rules s.filled s.patched)) (sym result_is) tt
filling_more s next (Err NoName) s' result s'_is result_is less =
    subst (λ r. OnOk r (fillings_left s'.rules s'.filled s'.patched < fillings_left s.rules s.filled s.patched)) (sym result_is) tt
filling_more s next (Err Device) s' result s'_is result_is less =
    subst (λ r. OnOk r (fillings_left s'.rules s'.filled s'.patched < fillings_left s.rules s.filled s.patched)) (sym result_is) tt

-- ---- no call is made, for want of memory

pub still_steps : {D F : Type 0} (tells : Ghosts D F)
    (s s' : Installing) (dir : D) (result : Result Phase InstallFault)
    → s' ≡ s → result ≡ Err OutOfMemory
    → (IsTrue tells.honest → Fits s (tells.state dir))
    → ((image : Directory) → IsTrue tells.honest → tells.left_since dir (tells.moment dir) image → IsImage (tells.state dir) image)
    → StepsTo tells Filling s s' dir dir result
still_steps tells s s' dir result s'_is result_is fits only =
    subst (λ r. StepsTo tells Filling s s' dir dir r) (sym result_is)
    (subst (λ t. StepsTo tells Filling s t dir dir (Err OutOfMemory)) (sym s'_is) (record {
      same = record { rules = refl; names = refl };
      goes = refl;
      kept = λ _. record { filled = refl; patched = refl };
      fits = fits;
      changes = λ h. refl;
      keeps = λ h. record {
        lasts = λ olds before. before;
        any_moment = λ olds before. started tells.moment tells.left_since dir (HasAmong s.names.cdb olds) (λ image left. image_has (tells.state dir) image s.names.cdb olds before (only image h left));
      };
      stops = λ h. record {
        call = appends [];
        is_call = inl ([], refl);
        time = record { later = omega arith; nothing_else = λ earlier image le left. inl left; keeps = λ earlier image le left. left };
      };
      settling = λ is. absurd (cc);
      device = λ h. tt;
      failures = omega arith;
      blames = tt;
    }))
