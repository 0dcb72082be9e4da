-- How an installation in a directory in memory goes on from step to step.
use Rattle.std.proofs.Common.{◌≡◌, ◌≢◌, inl, inr, Bool, true, false, ℕ, ◌+◌, ◌-◌, ◌<◌, ◌≤◌, List, refl, sym, ◌∙◌, ap, subst, arith}
use Rattle.std.specs.Prelude.{Option, None, Some, Result, Ok, Err}
use Rattle.cdb_files.specs.IsCdb.{IsCdb}
use Rattle.cdb_files.specs.Written.{Written}
use Rattle.cdb_files.specs.Compiled.{stored}
use Rattle.dir_calls.specs.Directory.{Directory}
use Rattle.dir_calls.specs.declared.fault.DirFault.TheVariants.{NoScratch, NoName, Device, OutOfMemory as NoMemory}
use Rattle.rules_install.specs.Filled.{fillings_left, whole_file}
use Rattle.rules_install.specs.Installing.{Installing, Fits, next_of, next_phase}
use Rattle.rules_install.specs.Installs.{installing}
use Rattle.rules_install.specs.Steps.{BlamesDevice, Changes, Goes, HasFilled, IsOfDevice, IsSame}
use Rattle.dir_calls.specs.declared.phase.Phase.{Phase}
use Rattle.dir_calls.specs.declared.phase.Phase.TheVariants.{Fresh, Filling, Synced, Named, Done}
use Rattle.rules_install.specs.declared.fault.InstallFault.{InstallFault}
use Rattle.rules_install.specs.declared.fault.InstallFault.TheVariants.{Line, TooLarge, Disk, Over, OutOfMemory}
use Rattle.rules_install.proofs.StepFits.{fresh_next, synced_has}
use Rattle.script_tool.specs.declared.simulation.Progress.{Progress}
use Rattle.script_tool.specs.Kept.{HasTexts, IsFileOf, IsInstalling, steps_left}
use Rattle.script_tool.specs.Sim.{BegunInstall, begun_to}
use Rattle.script_tool.specs.Texts.{Texts, no_texts, at_phase, at_phases, later_of, position_of, position_reached}
use Rattle.script_tool.proofs.TextLemmas.{step_texts}

-- what a step answers that fills
abbrev to_filling : Result Phase InstallFault
to_filling = Ok Filling

-- a step in memory fails only for want of memory
pub fails_for_memory : (next : Phase) (s s' : Installing) (fault : InstallFault) → Goes next s s' (Err fault) → IsOfDevice (Err fault) → BlamesDevice 0 0 (Err fault) → fault ≡ OutOfMemory
fails_for_memory next s s' (Line fault) goes device blames = absurd goes
fails_for_memory next s s' TooLarge goes device blames = absurd goes
fails_for_memory next s s' Over goes device blames = absurd goes
fails_for_memory next s s' OutOfMemory goes device blames = refl
fails_for_memory next s s' (Disk Device phase) goes device (inl less) = absurd (omega arith)
fails_for_memory next s s' (Disk Device phase) goes device (inr most) = absurd (omega arith)
fails_for_memory next s s' (Disk NoScratch phase) goes device blames = absurd (cc)
fails_for_memory next s s' (Disk NoName phase) goes device blames = absurd (cc)
fails_for_memory next s s' (Disk NoMemory phase) goes device blames = absurd (cc)

-- ---- a step leaves fewer

-- one more phase is reached, or the file is filled further
falls : (reached : Option Phase) (patched : Bool) (before now : ℕ) → reached ≢ Some Done → (next_of reached patched ≡ Filling → now < before) → (next_of reached patched ≢ Filling → now ≡ before)
    → now + (5 - position_of (next_of reached patched)) < before + (5 - position_reached reached)
falls None patched before now undone more kept = let same : now ≡ before = kept (λ is. absurd (cc)) in omega arith
falls (Some Fresh) true before now undone more kept = let same : now ≡ before = kept (λ is. absurd (cc)) in omega arith
falls (Some Fresh) false before now undone more kept = let less : now < before = more refl in omega arith
falls (Some Filling) true before now undone more kept = let same : now ≡ before = kept (λ is. absurd (cc)) in omega arith
falls (Some Filling) false before now undone more kept = let less : now < before = more refl in omega arith
falls (Some Synced) patched before now undone more kept = let same : now ≡ before = kept (λ is. absurd (cc)) in omega arith
falls (Some Named) patched before now undone more kept = let same : now ≡ before = kept (λ is. absurd (cc)) in omega arith
falls (Some Done) patched before now undone more kept = absurd (undone refl)

module _ (s s' : Installing) (phase : Phase) (same : IsSame s s') (goes : Goes (next_phase s) s s' (Ok phase))
    (kept : (Ok phase ≡ to_filling → ⊥) → HasFilled s s') where
  unmoved : HasFilled s s' → fillings_left s'.rules s'.filled s'.patched ≡ fillings_left s.rules s.filled s.patched
  unmoved has = ap (λ rules. fillings_left rules s'.filled s'.patched) same.rules ∙ ap (λ filled. fillings_left s.rules filled s'.patched) has.filled ∙ ap (λ patched. fillings_left s.rules s.filled patched) has.patched

  pub fewer_left : s.reached ≢ Some Done → (Ok phase ≡ to_filling → fillings_left s'.rules s'.filled s'.patched < fillings_left s.rules s.filled s.patched) → steps_left s' < steps_left s
  fewer_left undone more =
      subst (λ o. fillings_left s'.rules s'.filled s'.patched + (5 - position_reached o) < steps_left s) (sym goes.1)
      (falls s.reached s.patched (fillings_left s.rules s.filled s.patched) (fillings_left s'.rules s'.filled s'.patched) undone
      (λ is. more (ap Ok (goes.0 ∙ is))) (λ other. unmoved (kept (λ is. other (cc)))))

  -- only the step to `Fresh` leaves the file before it is filled, and that puts no pointers in place
  still_blank : (p : Phase) → phase ≡ p → position_of p < 2 → (s.reached ≡ None → s.patched ≡ false) → s'.patched ≡ false
  still_blank Fresh is early blank = (kept (λ filling. absurd (cc))).patched ∙ blank (fresh_next s.reached s.patched (sym goes.0 ∙ is))
  still_blank Filling is early blank = absurd (omega arith)
  still_blank Synced is early blank = absurd (omega arith)
  still_blank Named is early blank = absurd (omega arith)
  still_blank Done is early blank = absurd (omega arith)

-- ---- a step of the installation that was begun

module _ (d new : Directory) (p : Progress) (b : BegunInstall) (at : IsInstalling d p b) where
  unfilled : (installing p.install).reached ≡ None → (installing p.install).patched ≡ false
  unfilled none =
      at.blank (subst (λ o. position_reached o < 2) (sym none ∙ at.phase) (let early : position_reached None < 2 = omega arith in early))

  pub installing_on : (p' : Progress) (phase : Phase) → IsSame (installing p.install) (installing p'.install)
      → Goes (next_phase (installing p.install)) (installing p.install) (installing p'.install) (Ok phase)
      → ((Ok phase ≡ to_filling → ⊥) → HasFilled (installing p.install) (installing p'.install))
      → p'.reached ≡ Some phase → Fits (installing p'.install) new → IsInstalling new p' (record { text = b.text; reached = Some phase })
  installing_on p' phase same goes kept reached fits = record {
    reached = reached;
    phase = goes.1 ∙ ap Some (sym goes.0);
    rules = same.rules ∙ at.rules;
    names = same.names ∙ at.names;
    goes_on = goes.2;
    blank = λ early. still_blank (installing p.install) (installing p'.install) phase same goes kept phase refl early unfilled;
    fits = fits;
    accepted = at.accepted;
  }

  pub texts_on : (t : Texts) (phase : Phase) → phase ≡ next_phase (installing p.install) → Changes (installing p.install) (next_phase (installing p.install)) d new (Ok phase)
      → Written (whole_file (installing p.install).rules) (stored (installing p.install).rules) → HasTexts d t → HasTexts new (at_phase b.text t phase)
  texts_on t phase next changes written has =
      subst (λ n. HasTexts new (at_phase b.text t n)) (sym next)
      (step_texts s (next_phase s) d new t b.text changes.0 at.names compiled (λ named. synced_has s d named (at.fits at.goes_on)) changes.1 changes.2 has)
    where
      s : Installing
      s = installing p.install

      compiled : IsFileOf b.text (whole_file (installing p.install).rules)
      compiled = record { compiled = subst (λ rules. IsCdb (whole_file (installing p.install).rules) (stored rules)) at.rules written.cdb; accepted = at.accepted }

-- ---- some of the steps to a phase

-- an installation made some of its steps to a phase: what is left of the way leads where all of it did
pub record Advances (target : Phase) (old new : Directory) (p p' : Progress) : Type 0 where
  pub begun : (b : BegunInstall) → IsInstalling old p b → IsInstalling new p' (record { text = b.text; reached = p'.reached })
  pub later : later_of p'.reached target ≡ later_of p.reached target
  pub texts : (b : BegunInstall) (t : Texts) → IsInstalling old p b → HasTexts old t
      → (now : Texts) × HasTexts new now × (at_phases b.text p'.reached target now ≡ at_phases b.text p.reached target t)

-- the way to a phase leads over the next one, since that fills the scratch file where it was just made
on_the_way : (text : List ℕ) (reached : Option Phase) (patched : Bool) (target : Phase) (t : Texts) → (position_reached reached < 2 → patched ≡ false) → position_reached reached < position_of target
    → (later_of (Some (next_of reached patched)) target ≡ later_of reached target)
    × (at_phases text (Some (next_of reached patched)) target (at_phase text t (next_of reached patched)) ≡ at_phases text reached target t)
on_the_way text None patched Fresh t blank ahead = (refl, refl)
on_the_way text None patched target t blank ahead = (refl, refl)
on_the_way text (Some Fresh) true target t blank ahead = let not_yet : true ≡ false = blank (omega arith) in absurd (cc)
on_the_way text (Some Fresh) false Fresh t blank ahead = absurd (omega arith)
on_the_way text (Some Fresh) false target t blank ahead = (refl, refl)
on_the_way text (Some Filling) false target t blank ahead = (refl, refl)
on_the_way text (Some Filling) true Synced t blank ahead = (refl, refl)
on_the_way text (Some Filling) true Named t blank ahead = (refl, refl)
on_the_way text (Some Filling) true Done t blank ahead = (refl, refl)
on_the_way text (Some Synced) patched Named t blank ahead = (refl, refl)
on_the_way text (Some Synced) patched Done t blank ahead = (refl, refl)
on_the_way text (Some Named) patched Done t blank ahead = (refl, refl)
on_the_way text (Some Done) patched Fresh t blank ahead = absurd (omega arith)
on_the_way text reached patched target t blank ahead = absurd (omega arith)

-- a phase that was reached is the end of the way to those up to it
at_the_end : (text : List ℕ) (reached target : Phase) (t : Texts) → position_of target ≤ position_of reached
    → (reached ≡ later_of (Some reached) target) × (at_phases text (Some reached) target t ≡ t)
at_the_end text Fresh Fresh t le = (refl, refl)
at_the_end text Fresh target t le = absurd (omega arith)
at_the_end text reached Fresh t le = (refl, refl)
at_the_end text Filling Filling t le = (refl, refl)
at_the_end text Filling target t le = absurd (omega arith)
at_the_end text reached Filling t le = (refl, refl)
at_the_end text Synced Synced t le = (refl, refl)
at_the_end text Synced target t le = absurd (omega arith)
at_the_end text reached Synced t le = (refl, refl)
at_the_end text Named Named t le = (refl, refl)
at_the_end text Named target t le = absurd (omega arith)
at_the_end text reached target t le = (refl, refl)

-- a phase is one of the five
pub placed : (phase : Phase) → (0 < position_of phase) × (position_of phase ≤ position_of Done)
placed Fresh = (omega arith, omega arith)
placed Filling = (omega arith, omega arith)
placed Synced = (omega arith, omega arith)
placed Named = (omega arith, omega arith)
placed Done = (omega arith, omega arith)

pub not_done : (d : Directory) (p : Progress) (b : BegunInstall) (target : Phase) → IsInstalling d p b → position_reached p.reached < position_of target → b.reached ≢ Some Done
not_done d p b target at ahead done = absurd (omega (arith, ahead, ap position_reached (at.reached ∙ done), (placed target).1))

module _ (target : Phase) (old mid : Directory) (p p_mid : Progress) (so_far : Advances target old mid p p_mid) where
  -- a step more
  pub advances_more : (new : Directory) (p' : Progress) (phase : Phase) (b : BegunInstall) → IsInstalling mid p_mid b → position_reached p_mid.reached < position_of target
      → ((b : BegunInstall) → IsInstalling mid p_mid b → (phase ≡ next_phase (installing p_mid.install)) × IsInstalling new p' (record { text = b.text; reached = Some phase }))
      → ((b : BegunInstall) (t : Texts) → IsInstalling mid p_mid b → HasTexts mid t → HasTexts new (at_phase b.text t phase)) → Advances target old new p p'
  advances_more new p' phase b at ahead goes shows = record {
    begun = λ c begun. let went = (goes _ (so_far.begun c begun)).1 in subst (λ o. IsInstalling new p' (record { text = c.text; reached = o })) (sym is) went;
    later = ap (λ o. later_of o target) is ∙ (way b.text no_texts).0 ∙ so_far.later;
    texts = λ c t begun has. let now = so_far.texts c t begun has in (
      at_phase c.text now.0 phase,
      shows _ now.0 (so_far.begun c begun) now.1,
      ap (λ o. at_phases c.text o target (at_phase c.text now.0 phase)) is ∙ (way c.text now.0).1 ∙ now.2,
    );
  }
    where
      is : p'.reached ≡ Some phase
      is = (goes b at).1.reached

      phase_is : phase ≡ next_of p_mid.reached (installing p_mid.install).patched
      phase_is = (goes b at).0 ∙ ap (λ o. next_of o (installing p_mid.install).patched) (at.phase ∙ sym at.reached)

      way : (text : List ℕ) (t : Texts) → (later_of (Some phase) target ≡ later_of p_mid.reached target)
          × (at_phases text (Some phase) target (at_phase text t phase) ≡ at_phases text p_mid.reached target t)
      way text t =
          subst (λ n. (later_of (Some n) target ≡ later_of p_mid.reached target) × (at_phases text (Some n) target (at_phase text t n) ≡ at_phases text p_mid.reached target t)) (sym phase_is)
          (on_the_way text p_mid.reached (installing p_mid.install).patched target t (λ early. at.blank (subst (λ o. position_reached o < 2) at.reached early)) ahead)

  -- the phase, or a later one, was reached
  pub arrives : (reached : Phase) → p_mid.reached ≡ Some reached → position_of target ≤ position_of reached → (b : BegunInstall) (t : Texts) → IsInstalling old p b → HasTexts old t
      → (reached ≡ later_of b.reached target) × IsInstalling mid p_mid (begun_to target b) × HasTexts mid (at_phases b.text b.reached target t)
  arrives reached is le b t at has = (
    later,
    subst (λ o. IsInstalling mid p_mid (record { text = b.text; reached = o })) (is ∙ ap Some later) (so_far.begun b at),
    subst (HasTexts mid) texts (so_far.texts b t at has).1,
  )
    where
      later : reached ≡ later_of b.reached target
      later = (at_the_end b.text reached target t le).0 ∙ ap (λ o. later_of o target) (sym is) ∙ so_far.later ∙ ap (λ o. later_of o target) at.reached

      texts : (so_far.texts b t at has).0 ≡ at_phases b.text b.reached target t
      texts =
          let now = so_far.texts b t at has in
          sym (at_the_end b.text reached target now.0 le).1 ∙ ap (λ o. at_phases b.text o target now.0) (sym is) ∙ now.2 ∙ ap (λ o. at_phases b.text o target t) at.reached
