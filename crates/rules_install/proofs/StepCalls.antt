-- A step is one call of the directory, of which note is taken.
use Rattle.std.proofs.Common.{◌≡◌, ◌≢◌, Bool, false, ℕ, List, refl, sym, subst}
use Rattle.std.specs.Prelude.{IsTrue, Option, Some, Result, Ok, Err}
use Rattle.dir_calls.specs.declared.fault.DirFault.{DirFault}
use Rattle.dir_calls.specs.declared.fault.DirFault.TheVariants.{NoScratch, NoName, Device, OutOfMemory as NoMemory}
use Rattle.dir_calls.specs.Directory.{Directory}
use Rattle.dir_calls.specs.Images.{IsImage}
use Rattle.dir_calls.specs.Calls.{Call, after}
use Rattle.dir_calls.specs.Outcomes.{Does, LeftBy}
use Rattle.dir_calls.specs.Lasting.{LastsAmong}
use Rattle.dir_calls.specs.Moments.{Elapses, CountsFault}
use Rattle.dir_calls.specs.Replacing.{Stays}
use Rattle.dir_calls.specs.declared.dir.Dir.{Ghosts}
use Rattle.dir_calls.proofs.Counting.{counts_later, counts_device}
use Rattle.dir_calls.proofs.Lasting.{CallKeeps}
use Rattle.dir_calls.proofs.Replacing.{stays_call}
use Rattle.rules_install.proofs.StepFaults.{IsSure, of_device, no_memory}
use Rattle.dir_calls.specs.declared.phase.Phase.{Phase}
use Rattle.dir_calls.specs.declared.phase.Phase.TheVariants.{Done}
use Rattle.rules_install.specs.declared.fault.InstallFault.{InstallFault}
use Rattle.rules_install.specs.Filled.{whole_file}
use Rattle.rules_install.specs.Installing.{Installing, Fits, FitsPhase}
use Rattle.rules_install.specs.Steps.{IsCallOf, Changes, IsSame, Goes, HasFilled, StepKeeps, StepsTo, BlamesDevice, may_stand, answer_of, noted}

-- what the directory promises of a call that does all of its work or none
pub record OneCall {D F : Type 0} (tells : Ghosts D F)
    (call : Call) (old new : D) (outcome : Result (Unit {0}) DirFault) : Type 0 where
  pub only : IsTrue tells.honest → (image : Directory) → tells.left_since old (tells.moment old) image → IsImage (tells.state old) image
  pub does : IsTrue tells.honest → Does (λ _. call) call (tells.state old) (tells.state new) outcome
  pub time : IsTrue tells.honest → Elapses (tells.moment old) (tells.moment new) (tells.left_since old) (tells.left_since new) (LeftBy call (tells.state old) (tells.state new))
  pub counted : CountsFault (tells.failed old) (tells.failed new) outcome
  pub sure : IsTrue tells.honest → (fault : DirFault) → outcome ≡ Err fault → IsSure fault

-- ---- by what the call answered

noted_same : (next : Phase) (s : Installing) (outcome : Result (Unit {0}) DirFault) → IsSame s (noted next s outcome)
noted_same next s (Ok x) = record { rules = refl; names = refl }
noted_same next s (Err NoMemory) = record { rules = refl; names = refl }
noted_same next s (Err NoScratch) = record { rules = refl; names = refl }
noted_same next s (Err NoName) = record { rules = refl; names = refl }
noted_same next s (Err Device) = record { rules = refl; names = refl }

noted_goes : (next : Phase) (s : Installing) (outcome : Result (Unit {0}) DirFault) → s.over ≡ false
    → Goes next s (noted next s outcome) (answer_of next outcome)
noted_goes next s (Ok x) is_open = (refl, refl, is_open)
noted_goes next s (Err NoMemory) is_open = refl
noted_goes next s (Err NoScratch) is_open = (refl, refl, refl, λ is. absurd (cc))
noted_goes next s (Err NoName) is_open = (refl, refl, refl, λ is. absurd (cc))
noted_goes next s (Err Device) is_open = (refl, refl, refl, λ is. absurd (cc))

call_changes : (next : Phase) (s : Installing) (call : Call) (d e : Directory) (outcome : Result (Unit {0}) DirFault) → IsCallOf s next call
    → Does (λ _. call) call d e outcome → Changes s next d e (answer_of next outcome)
call_changes next s call d e (Ok x) is_call does = (call, is_call, does)
call_changes next s call d e (Err NoMemory) is_call does = does
call_changes next s call d e (Err NoScratch) is_call does = does
call_changes next s call d e (Err NoName) is_call does = does
call_changes next s call d e (Err Device) is_call does = (call, is_call, does)

call_blames : (next : Phase) (before now : ℕ) (outcome : Result (Unit {0}) DirFault) → CountsFault before now outcome
    → BlamesDevice before now (answer_of next outcome)
call_blames next before now (Ok x) counted = tt
call_blames next before now (Err NoMemory) counted = tt
call_blames next before now (Err NoScratch) counted = tt
call_blames next before now (Err NoName) counted = tt
call_blames next before now (Err Device) counted = counts_device before now counted

-- where the call fails, nothing has changed or the installation is over
noted_kept : (next : Phase) (s : Installing) (outcome : Result (Unit {0}) DirFault) → HasFilled s (noted next s outcome)
noted_kept next s (Ok x) = record { filled = refl; patched = refl }
noted_kept next s (Err NoMemory) = record { filled = refl; patched = refl }
noted_kept next s (Err NoScratch) = record { filled = refl; patched = refl }
noted_kept next s (Err NoName) = record { filled = refl; patched = refl }
noted_kept next s (Err Device) = record { filled = refl; patched = refl }

noted_fits : (next : Phase) (s : Installing) (call : Call) (d e : Directory) (outcome : Result (Unit {0}) DirFault) → s.over ≡ false
    → Fits s d → Does (λ _. call) call d e outcome
    → FitsPhase (record s { reached = Some next }) (after call d) (Some next) → Fits (noted next s outcome) e
noted_fits next s call d e (Ok x) is_open fits does there =
    λ over. subst (λ (f : Directory). FitsPhase (record s { reached = Some next }) f (Some next)) (sym does) there
noted_fits next s call d e (Err NoMemory) is_open fits does there = λ over. subst (λ (f : Directory). FitsPhase s f s.reached) (sym does) (fits over)
noted_fits next s call d e (Err NoScratch) is_open fits does there = λ over. absurd (cc)
noted_fits next s call d e (Err NoName) is_open fits does there = λ over. absurd (cc)
noted_fits next s call d e (Err Device) is_open fits does there = λ over. absurd (cc)

-- ---- all that a step promises

module _ {D F : Type 0} (tells : Ghosts D F)
    (next : Phase) (s : Installing) (call : Call) (old new : D) (outcome : Result (Unit {0}) DirFault)
    (one : OneCall tells call old new outcome) where
  call_keeps : IsTrue tells.honest → ((olds : List (Option (List ℕ))) → LastsAmong (tells.state old) s.names.cdb olds → CallKeeps call (tells.state old) s.names.cdb (may_stand next (whole_file s.rules) olds))
      → StepKeeps tells next s old new
  call_keeps h keeps = record { lasts = λ olds before. (stays olds before).lasts; any_moment = λ olds before. (stays olds before).any_moment }
    where
      stays : (olds : List (Option (List ℕ))) → LastsAmong (tells.state old) s.names.cdb olds
          → Stays tells s.names.cdb (may_stand next (whole_file s.rules) olds) old new
      stays olds before = stays_call tells s.names.cdb (may_stand next (whole_file s.rules) olds) old new (λ _. call) call outcome (one.only h) (one.time h) (one.does h) (keeps olds before) (λ _. keeps olds before)

  pub call_steps : (s' : Installing) (result : Result Phase InstallFault) → s.over ≡ false → IsCallOf s next call
      → (next ≡ Done → outcome ≢ Err NoMemory)
      → (IsTrue tells.honest → Fits s (tells.state old))
      → (IsTrue tells.honest → FitsPhase (record s { reached = Some next }) (after call (tells.state old)) (Some next))
      → (IsTrue tells.honest → (olds : List (Option (List ℕ))) → LastsAmong (tells.state old) s.names.cdb olds → CallKeeps call (tells.state old) s.names.cdb (may_stand next (whole_file s.rules) olds))
      → result ≡ answer_of next outcome → s' ≡ noted next s outcome
      → StepsTo tells next s s' old new result
  call_steps s' result is_open is_call memory fits there keeps answer note =
      subst (λ (r : Result Phase InstallFault). StepsTo tells next s s' old new r) (sym answer)
      (subst (λ (i : Installing). StepsTo tells next s i old new (answer_of next outcome)) (sym note) (record {
        same = noted_same next s outcome;
        goes = noted_goes next s outcome is_open;
        kept = λ _. noted_kept next s outcome;
        fits = λ h. noted_fits next s call (tells.state old) (tells.state new) outcome is_open (fits h) (one.does h) (there h);
        changes = λ h. call_changes next s call (tells.state old) (tells.state new) outcome is_call (one.does h);
        keeps = λ h. call_keeps h (keeps h);
        stops = λ h. record { call = call; is_call = is_call; time = one.time h };
        settling = no_memory next outcome memory;
        device = λ h. of_device next outcome (one.sure h);
        failures = counts_later (tells.failed old) (tells.failed new) outcome one.counted;
        blames = call_blames next (tells.failed old) (tells.failed new) outcome one.counted;
      }))
