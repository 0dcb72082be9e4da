-- What a step promises, by the phase that it was made for.
use Rattle.std.proofs.Common.{◌≡◌, ◌≢◌, ◌⊎◌, inr, ⊎_elim, ◌<◌, ◌≤◌, arith, Bool, true, false, ℕ, List, [], ◌∷◌, refl, sym, ◌∙◌, ap, subst}
use Rattle.std.specs.Prelude.{IsTrue, Option, Some, Result, Ok, Err, OnOk}
use Rattle.dir_calls.specs.Directory.{Directory}
use Rattle.dir_calls.specs.Images.{IsImage}
use Rattle.dir_calls.specs.Lasting.{IsAmong, LastsAmong, HasAmong}
use Rattle.dir_calls.specs.declared.dir.Dir.{Ghosts}
use Rattle.dir_calls.proofs.Lasting.{image_has, lasts_more}
use Rattle.dir_calls.proofs.Moments.{started}
use Rattle.dir_calls.specs.declared.phase.Phase.{Phase}
use Rattle.dir_calls.specs.declared.phase.Phase.TheVariants.{Fresh, Filling, Synced, Named, Done}
use Rattle.rules_install.specs.declared.fault.InstallFault.{InstallFault}
use Rattle.rules_install.specs.declared.fault.InstallFault.TheVariants.{Over, OutOfMemory}
use Rattle.rules_install.specs.NamePair.{NamePair}
use Rattle.rules_install.specs.Filled.{whole_file, fillings_left}
use Rattle.rules_install.specs.Installing.{Installing, Fits, FitsPhase, next_of, next_phase, after_filling}
use Rattle.rules_install.specs.Steps.{Changes, IsSame, Goes, HasFilled, IsOfDevice, StepKeeps, StepStops, StepsTo, BlamesDevice, may_stand}
use Rattle.rules_install.proofs.StepFits.{done_lasts}

-- all that a step promises, but for what its file is compiled of
pub record StepEnds {D F : Type 0} (tells : Ghosts D F)
    (s s' : Installing) (old new : D) (result : Result Phase InstallFault) : Type 0 where
  pub same : IsSame s s'
  pub over : s.over ≡ true → (result ≡ Err Over) × (s' ≡ s) × (new ≡ old)
  pub after_done : s.over ≡ false → s.reached ≡ Some Done → (result ≡ Ok Done) × (s' ≡ s) × (new ≡ old)
  pub goes : s.over ≡ false → Goes (next_phase s) s s' result
  pub more : result ≡ Ok Filling → fillings_left s'.rules s'.filled s'.patched < fillings_left s.rules s.filled s.patched
  pub kept : (result ≡ Ok Filling → ⊥) → HasFilled s s'
  pub changes : IsTrue tells.honest → s.over ≡ false → s.reached ≢ Some Done → Changes s (next_phase s) (tells.state old) (tells.state new) result
  pub time : IsTrue tells.honest → s.over ≡ false → s.reached ≢ Some Done → StepStops tells (next_phase s) s old new
  pub fits : IsTrue tells.honest → Fits s' (tells.state new)
  pub old_or_new : IsTrue tells.honest → StepKeeps tells (next_phase s) s old new
  pub done : IsTrue tells.honest → result ≡ Ok Done → LastsAmong (tells.state new) s.names.cdb (Some (whole_file s.rules) ∷ [])
  pub settling : s.reached ≡ Some Named → result ≢ Err OutOfMemory
  pub device : IsTrue tells.honest → IsOfDevice result
  pub failures : tells.failed old ≤ tells.failed new
  pub blames : BlamesDevice (tells.failed old) (tells.failed new) result

-- ---- the phase to be reached next

pub next_is : (s : Installing) (reached : Option Phase) → s.reached ≡ reached → next_phase s ≡ next_of reached s.patched
next_is s reached is = ap (λ r. next_of r s.patched) is

pub next_filled : (s : Installing) (reached : Phase) (patched : Bool) → s.reached ≡ Some reached → (reached ≡ Fresh) ⊎ (reached ≡ Filling)
    → s.patched ≡ patched → next_phase s ≡ after_filling patched
next_filled s reached patched is which filled =
    ⊎_elim (λ fresh. next_is s (Some Fresh) (is ∙ ap Some fresh)) (λ filling. next_is s (Some Filling) (is ∙ ap Some filling)) which ∙ ap after_filling filled

-- a phase other than Done, and one other than Filling
abbrev pub NotDone : Phase → Type 0
NotDone Done = ⊥
NotDone phase = Unit {0}

abbrev pub NotFilling : Phase → Type 0
NotFilling Filling = ⊥
NotFilling phase = Unit {0}

pub not_done : (reached : Option Phase) (patched : Bool) (next : Phase) → next_of reached patched ≡ next → NotDone next → reached ≢ Some Done
not_done reached patched next is other done = subst NotDone (sym is ∙ ap (λ r. next_of r patched) done) other

pub named_not_done : (reached : Option Phase) → reached ≡ Some Named → reached ≢ Some Done
named_not_done reached is done = absurd (cc)

-- ---- the installation is done

pub done_stands : (s : Installing) (d : Directory) → Fits s d → s.over ≡ false → s.reached ≡ Some Done
    → LastsAmong d s.names.cdb (Some (whole_file s.rules) ∷ [])
done_stands s d fits is_open done = done_lasts d s.names.cdb (whole_file s.rules) (subst (λ reached. FitsPhase s d reached) done (fits is_open))

step_done : (next : Phase) (s s' : Installing) (d : Directory) (result : Result Phase InstallFault) → IsSame s s' → Goes next s s' result
    → Fits s' d → result ≡ Ok Done → LastsAmong d s.names.cdb (Some (whole_file s.rules) ∷ [])
step_done next s s' d result same goes fits is =
    let went = subst (λ (r : Result Phase InstallFault). Goes next s s' r) is goes in
    let stands = done_stands s' d fits went.2 (went.1 ∙ ap Some (sym went.0)) in
    subst (λ (names : NamePair). LastsAmong d names.cdb (Some (whole_file s.rules) ∷ [])) same.names
    (subst (λ rules. LastsAmong d s'.names.cdb (Some (whole_file rules) ∷ [])) same.rules stands)

-- ---- a step that makes no call

among_more : (next : Phase) (file : List ℕ) (olds : List (Option (List ℕ))) (w : Option (List ℕ)) → IsAmong olds w
    → IsAmong (may_stand next file olds) w
among_more Fresh file olds w among = among
among_more Filling file olds w among = among
among_more Synced file olds w among = among
among_more Named file olds w among = inr among
among_more Done file olds w among = among

module _ {D F : Type 0} (tells : Ghosts D F) (s : Installing) where
  still_keeps : (next : Phase) (dir : D)
      → ((image : Directory) → tells.left_since dir (tells.moment dir) image → IsImage (tells.state dir) image)
      → StepKeeps tells next s dir dir
  still_keeps next dir only = record {
    lasts = more;
    any_moment = λ olds before. started tells.moment tells.left_since dir (HasAmong s.names.cdb (may_stand next (whole_file s.rules) olds))
        (λ image left. image_has (tells.state dir) image s.names.cdb (may_stand next (whole_file s.rules) olds) (more olds before) (only image left));
  }
    where
      more : (olds : List (Option (List ℕ))) → LastsAmong (tells.state dir) s.names.cdb olds
          → LastsAmong (tells.state dir) s.names.cdb (may_stand next (whole_file s.rules) olds)
      more olds before =
          lasts_more (tells.state dir) s.names.cdb olds (may_stand next (whole_file s.rules) olds) (among_more next (whole_file s.rules) olds) before

  pub over_ends : (dir : D) → s.over ≡ true
      → (IsTrue tells.honest → (image : Directory) → tells.left_since dir (tells.moment dir) image → IsImage (tells.state dir) image)
      → (IsTrue tells.honest → Fits s (tells.state dir))
      → StepEnds tells s s dir dir (Err Over)
  over_ends dir over only fits = record {
    same = record { rules = refl; names = refl };
    over = λ _. (refl, refl, refl);
    after_done = λ is_open. absurd (cc);
    goes = λ is_open. absurd (cc);
    more = λ is. absurd (cc);
    kept = λ _. record { filled = refl; patched = refl };
    changes = λ h is_open. absurd (cc);
    time = λ h is_open. absurd (cc);
    fits = fits;
    old_or_new = λ h. still_keeps (next_phase s) dir (only h);
    done = λ h is. absurd (cc);
    settling = λ _ is. absurd (cc);
    device = λ h. tt;
    failures = omega arith;
    blames = tt;
  }

  pub done_ends : (dir : D) → s.over ≡ false → s.reached ≡ Some Done
      → (IsTrue tells.honest → (image : Directory) → tells.left_since dir (tells.moment dir) image → IsImage (tells.state dir) image)
      → (IsTrue tells.honest → Fits s (tells.state dir))
      → StepEnds tells s s dir dir (Ok Done)
  done_ends dir is_open done only fits = record {
    same = record { rules = refl; names = refl };
    over = λ over. absurd (cc);
    after_done = λ _ _. (refl, refl, refl);
    goes = λ _. let next = next_is s (Some Done) done in (sym next, done ∙ ap Some (sym next), is_open);
    more = λ is. absurd (cc);
    kept = λ _. record { filled = refl; patched = refl };
    changes = λ h _ other. absurd (other done);
    time = λ h _ other. absurd (other done);
    fits = fits;
    old_or_new = λ h. still_keeps (next_phase s) dir (only h);
    done = λ h is. done_stands s (tells.state dir) (fits h) is_open done;
    settling = λ _ is. absurd (cc);
    device = λ h. tt;
    failures = omega arith;
    blames = tt;
  }

  -- ---- a step that makes one

  pub step_ends : (next : Phase) (s' : Installing) (old new : D) (result : Result Phase InstallFault) → s.over ≡ false → next_phase s ≡ next
      → s.reached ≢ Some Done
      → StepsTo tells next s s' old new result
      → (result ≡ Ok Filling → fillings_left s'.rules s'.filled s'.patched < fillings_left s.rules s.filled s.patched)
      → StepEnds tells s s' old new result
  step_ends next s' old new result is_open is other steps more = record {
    same = steps.same;
    over = λ over. absurd (cc);
    after_done = λ _ done. absurd (other done);
    goes = λ _. subst (λ phase. Goes phase s s' result) (sym is) steps.goes;
    more = more;
    kept = steps.kept;
    changes = λ h _ _. subst (λ phase. Changes s phase (tells.state old) (tells.state new) result) (sym is) (steps.changes h);
    time = λ h _ _. subst (λ phase. StepStops tells phase s old new) (sym is) (steps.stops h);
    fits = steps.fits;
    old_or_new = λ h. subst (λ phase. StepKeeps tells phase s old new) (sym is) (steps.keeps h);
    done = λ h done. step_done next s s' (tells.state new) result steps.same steps.goes (steps.fits h) done;
    settling = λ named. steps.settling (sym is ∙ next_is s (Some Named) named);
    device = steps.device;
    failures = steps.failures;
    blames = steps.blames;
  }

-- a step to another phase does not answer that it fills
pub no_filling : (next : Phase) (s s' : Installing) (result : Result Phase InstallFault) → Goes next s s' result → NotFilling next
    → result ≢ Ok Filling
no_filling next s s' result goes other is = subst NotFilling (sym (subst (λ (r : Result Phase InstallFault). Goes next s s' r) is goes).0) other

-- what holds of each answer that is no fault
pub of_ok : {A E : Type 0} (result : Result A E) (x : A) (P : Type 0) → OnOk result P → result ≡ Ok x → P
of_ok {A} {E} result x P holds is = subst (λ (r : Result A E). OnOk r P) is holds
