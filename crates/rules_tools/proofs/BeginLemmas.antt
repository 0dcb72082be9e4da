-- The first step of an installation, and the names that are made lasting behind it.
use Rattle.std.proofs.Common.{◌≡◌, ◌≢◌, inl, inr, ⊎_elim, ℕ, ◌≤◌, List, false, sym, ◌∙◌, subst, ap, arith}
use Rattle.std.specs.Prelude.{⊤, None, Some, Result, Ok, Err, IfErr}
use Rattle.dir_calls.specs.Calls.{Call, makes, settles, after}
use Rattle.dir_calls.specs.Clearing.{SparesOthers, StaysUnder}
use Rattle.dir_calls.specs.Directory.{Directory}
use Rattle.dir_calls.specs.Images.{IsImage}
use Rattle.dir_calls.specs.Moments.{CountsFault, Elapses}
use Rattle.dir_calls.specs.Outcomes.{Does, Fails, LeftBy}
use Rattle.dir_calls.specs.Replacing.{KeepsWhatLasts}
use Rattle.dir_calls.specs.declared.fault.DirFault.{DirFault}
use Rattle.dir_calls.specs.declared.fault.DirFault.TheVariants as dir
use Rattle.dir_calls.specs.declared.dir.Dir.{Ghosts}
use Rattle.dir_calls.proofs.Clearing.{fails_spares, makes_spares, same_stays, settles_stays, unsettled_stays}
use Rattle.dir_calls.proofs.Lasting.{makes_keeps}
use Rattle.dir_calls.proofs.Replacing.{stays_call}
use Rattle.rules_install.specs.Installing.{Fits, FitsPhase, Installing, IsConsistent, next_of, next_phase}
use Rattle.rules_install.specs.Series.{MakesStep}
use Rattle.rules_install.specs.Steps.{BlamesFault, Changes, Goes, IsOfDevice, IsSame, StepStops}
use Rattle.dir_calls.specs.declared.phase.Phase.{Phase}
use Rattle.dir_calls.specs.declared.phase.Phase.TheVariants.{Fresh, Filling, Synced, Named, Done}
use Rattle.rules_install.specs.declared.fault.InstallFault.{InstallFault}
use Rattle.rules_install.specs.declared.fault.InstallFault.TheVariants.{Line, TooLarge, Disk, Over, OutOfMemory}
use Rattle.rules_install.proofs.WholeLemmas.{blames_run}
use Rattle.rules_tools.specs.Disks.{IsAtFresh}
use Rattle.rules_tools.specs.Series.{Begins, IsBegun}

-- the answer of the call that the first step makes
abbrev call_answer : Result Phase InstallFault → Result ⊤ DirFault
call_answer (Ok phase) = Ok tt
call_answer (Err (Disk fault phase)) = Err fault
call_answer (Err fault) = Err dir.OutOfMemory

call_does : (s : Installing) (d e : Directory) (result : Result Phase InstallFault) → IsOfDevice result → Changes s Fresh d e result
    → Does (λ _. makes s.names.tmp) (makes s.names.tmp) d e (call_answer result)
call_does s d e (Ok phase) device changes = subst (λ (call : Call). e ≡ after call d) changes.1 changes.2
call_does s d e (Err (Disk dir.Device phase)) device changes = subst (λ (call : Call). Fails call d e) changes.1 changes.2
call_does s d e (Err (Disk dir.NoScratch phase)) device changes = absurd (cc)
call_does s d e (Err (Disk dir.NoName phase)) device changes = absurd (cc)
call_does s d e (Err (Disk dir.OutOfMemory phase)) device changes = absurd (cc)
call_does s d e (Err (Line fault)) device changes = changes
call_does s d e (Err TooLarge) device changes = changes
call_does s d e (Err Over) device changes = changes
call_does s d e (Err OutOfMemory) device changes = changes

-- it keeps what lasts under another name than that of the scratch file
first_stays_at : {D F : Type 0} (tells : Ghosts D F) (s : Installing) (next : Phase) (old new : D) (result : Result Phase InstallFault) → next ≡ Fresh
    → ((image : Directory) → tells.left_since old (tells.moment old) image → IsImage (tells.state old) image)
    → IsOfDevice result → Changes s next (tells.state old) (tells.state new) result → StepStops tells next s old new
    → (name : List ℕ) → s.names.tmp ≢ name → KeepsWhatLasts tells name old new
first_stays_at tells s Fresh old new result is only device changes stops name differ contents lasts =
    let keeps = makes_keeps (tells.state old) name contents lasts s.names.tmp (λ same. differ (sym same)) in
    stays_call tells name contents old new (λ _. makes s.names.tmp) (makes s.names.tmp) (call_answer result) only
    (subst (λ (call : Call). Elapses (tells.moment old) (tells.moment new) (tells.left_since old) (tells.left_since new) (LeftBy call (tells.state old) (tells.state new))) stops.is_call stops.time)
    (call_does s (tells.state old) (tells.state new) result device changes) keeps (λ _. keeps)
first_stays_at tells s Filling old new result is only device changes stops name differ contents lasts = absurd (cc)
first_stays_at tells s Synced old new result is only device changes stops name differ contents lasts = absurd (cc)
first_stays_at tells s Named old new result is only device changes stops name differ contents lasts = absurd (cc)
first_stays_at tells s Done old new result is only device changes stops name differ contents lasts = absurd (cc)

-- the next phase of an installation of which no step was made
pub first_next : (s : Installing) → s.reached ≡ None → next_phase s ≡ Fresh
first_next s unbegun = ap (λ r. next_of r s.patched) unbegun

pub first_stays : {D F : Type 0} (tells : Ghosts D F) (s : Installing) (old new : D) (result : Result Phase InstallFault) → s.reached ≡ None
    → ((image : Directory) → tells.left_since old (tells.moment old) image → IsImage (tells.state old) image)
    → IsOfDevice result → Changes s (next_phase s) (tells.state old) (tells.state new) result → StepStops tells (next_phase s) s old new
    → (name : List ℕ) → s.names.tmp ≢ name → KeepsWhatLasts tells name old new
first_stays tells s old new result unbegun only device changes stops =
    first_stays_at tells s (next_phase s) old new result (first_next s unbegun) only device changes stops

-- each other name stands for the file that it stood for
made_spares : (name : List ℕ) (d e : Directory) (outcome : Result ⊤ DirFault) → Does (λ _. makes name) (makes name) d e outcome → SparesOthers name d e
made_spares name d e (Ok x) does = makes_spares name d e does
made_spares name d e (Err dir.Device) does = fails_spares name d e does
made_spares name d e (Err dir.NoScratch) does = λ other differ. same_stays other d e does
made_spares name d e (Err dir.NoName) does = λ other differ. same_stays other d e does
made_spares name d e (Err dir.OutOfMemory) does = λ other differ. same_stays other d e does

pub first_spares : (s : Installing) (d e : Directory) (result : Result Phase InstallFault) → s.reached ≡ None → IsOfDevice result
    → Changes s (next_phase s) d e result → SparesOthers s.names.tmp d e
first_spares s d e result unbegun device changes =
    made_spares s.names.tmp d e (call_answer result)
    (call_does s d e result device (subst (λ (p : Phase). Changes s p d e result) (first_next s unbegun) changes))

pub settled_stays : (name : List ℕ) (d e : Directory) (outcome : Result (Unit {0}) DirFault) → Does (λ _. settles) settles d e outcome → StaysUnder name d e
settled_stays name d e (Ok x) does = settles_stays name d e does
settled_stays name d e (Err dir.Device) does = unsettled_stays name d e does
settled_stays name d e (Err dir.NoScratch) does = same_stays name d e does
settled_stays name d e (Err dir.NoName) does = same_stays name d e does
settled_stays name d e (Err dir.OutOfMemory) does = same_stays name d e does

-- what it comes to where it fails
pub first_fails : (s t : Installing) (d e : Directory) (fault : InstallFault) → Changes s (next_phase s) d e (Err fault) → Begins s t d e (Err fault)
first_fails s t d e (Disk fault phase) changes = tt
first_fails s t d e (Line fault) changes = tt
first_fails s t d e TooLarge changes = tt
first_fails s t d e Over changes = tt
first_fails s t d e OutOfMemory changes = changes

pub first_at : (s t : Installing) (fault : InstallFault) → s.reached ≡ None → Goes (next_phase s) s t (Err fault) → IsAtFresh fault
first_at s t (Disk fault phase) unbegun goes = goes.0 ∙ first_next s unbegun
first_at s t (Line fault) unbegun goes = goes
first_at s t TooLarge unbegun goes = goes
first_at s t Over unbegun goes = goes
first_at s t OutOfMemory unbegun goes = tt

-- and where it does not
pub first_begun : (s t : Installing) (phase : Phase) → s.reached ≡ None → Goes (next_phase s) s t (Ok phase) → IsBegun t
first_begun s t phase unbegun goes = (goes.1 ∙ ap (λ p. Some p) (first_next s unbegun), goes.2)

pub first_begins : (s t : Installing) (d made e : Directory) (phase : Phase) → s.reached ≡ None → s.over ≡ false → IsConsistent s → Fits s d → IsSame s t
    → Goes (next_phase s) s t (Ok phase) → Changes s (next_phase s) d made (Ok phase) → e ≡ after settles made → Begins s t d e (Ok tt)
first_begins s t d made e phase unbegun is_open consistent fits same goes changes settled = (
  made,
  subst (λ (p : Phase). MakesStep s t d made (Ok p)) (goes.0 ∙ first_next s unbegun) (record {
    may = record { consistent = consistent; is_open = is_open; undone = λ done. (let no = sym unbegun ∙ done in absurd (cc)) };
    fits = fits;
    same = same;
    goes = goes;
    changes = changes;
    device = tt;
  }),
  settled,
)

pub fits_unbegun : (s : Installing) (d : Directory) → s.reached ≡ None → Fits s d
fits_unbegun s d unbegun = λ over. subst (λ r. FitsPhase s d r) (sym unbegun) tt

pub fits_settled : (t : Installing) (made e : Directory) → IsBegun t → Fits t made → e ≡ after settles made → Fits t e
fits_settled t made e begun fits settled =
    subst (λ (d : Directory). Fits t d) (sym settled)
    (λ over. subst (λ r. FitsPhase t (after settles made) r) (sym begun.0) (subst (λ r. FitsPhase t made r) begun.0 (fits over)))

-- failures
pub counts_on : (before now : ℕ) (fault : DirFault) → CountsFault before now (let r : Result ⊤ DirFault = Err fault in r) → before ≤ now
counts_on before now dir.Device counted = ⊎_elim (λ more. omega (arith, more)) (λ most. omega (arith, most.0)) counted
counts_on before now dir.NoScratch counted = omega (arith, counted)
counts_on before now dir.NoName counted = omega (arith, counted)
counts_on before now dir.OutOfMemory counted = omega (arith, counted)

pub blames_settling : (before mid now : ℕ) (fault : DirFault) → before ≤ mid → CountsFault mid now (let r : Result ⊤ DirFault = Err fault in r) → BlamesFault before now (Disk fault Fresh)
blames_settling before mid now dir.Device le counted = ⊎_elim (λ more. inl (omega (arith, more, le))) (λ most. inr (omega (arith, most.0, most.1))) counted
blames_settling before mid now dir.NoScratch le counted = tt
blames_settling before mid now dir.NoName le counted = tt
blames_settling before mid now dir.OutOfMemory le counted = tt

pub blames_later : (before mid now : ℕ) (result : Result (Unit {0}) InstallFault) → before ≤ mid → IfErr result (BlamesFault mid now) → IfErr result (BlamesFault before now)
blames_later before mid now (Ok done) le blames = tt
blames_later before mid now (Err fault) le blames = blames_run before mid now fault le blames
