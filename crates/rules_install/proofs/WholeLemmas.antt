-- How a whole installation goes on from step to step, and how it ends.
use Rattle.std.proofs.Common.{◌≡◌, ◌≢◌, inl, inr, ⊎_elim, Bool, true, false, ℕ, ◌+◌, ◌<◌, ◌≤◌, List, [], ◌∷◌, take, drop, refl, sym, ◌∙◌, ap, subst, arith}
use Rattle.std.proofs.lemmas.List.{take-append-drop}
use Rattle.std.proofs.lemmas.List.Sums.{fold-append}
use Rattle.std.specs.Prelude.{Option, None, Some, option_and_then, option_map, slice_get, Result, Ok, Err, IfErr, OnOk}
use Rattle.std.specs.FinMap.{get}
use Rattle.dir_calls.specs.Calls.{Call, settles}
use Rattle.dir_calls.specs.Directory.{Directory, FileState, content, file_at, number_of}
use Rattle.dir_calls.specs.NameTable.{NameTable, Names, SettlesSome, after_change, after_changes, current}
use Rattle.dir_calls.specs.Outcomes.{Fails}
use Rattle.dir_calls.specs.Images.{IsImage}
use Rattle.dir_calls.specs.Lasting.{IsAmong, LastsAmong, HasAmong, StandsFor}
use Rattle.dir_calls.specs.Moments.{LeavesOnly}
use Rattle.dir_calls.specs.Replacing.{Stays}
use Rattle.dir_calls.specs.declared.fault.DirFault.{DirFault}
use Rattle.dir_calls.specs.declared.fault.DirFault.TheVariants.{NoScratch, NoName, Device, OutOfMemory as NoMemory}
use Rattle.dir_calls.specs.declared.dir.Dir.{Ghosts}
use Rattle.dir_calls.proofs.Lasting.{image_has, lasts_more}
use Rattle.dir_calls.proofs.Moments.{started}
use Rattle.dir_calls.proofs.NameTables.{left_current}
use Rattle.dir_calls.proofs.Replacing.{stays_then, stays_more}
use Rattle.rule_lines.specs.Texts.{AreOfText}
use Rattle.rule_lines.specs.declared.limits.Limits.{Limits}
use Rattle.rules_install.specs.NamePair.{NamePair}
use Rattle.rules_install.specs.Filled.{IsWritten, whole_file, fillings_left}
use Rattle.rules_install.specs.Installing.{Installing, FitsPhase, IsConsistent, IsUnfilled, next_of, next_phase, synced_file}
use Rattle.rules_install.specs.Steps.{BlamesFault, Changes, Goes, HasFilled, IsOfDevice, IsSame, StepKeeps, answer_of, may_stand}
use Rattle.rules_install.specs.Whole.{EndsRun, FailsAt, StandsAtDone, TellsWhere, may_have}
use Rattle.dir_calls.specs.declared.phase.Phase.{Phase}
use Rattle.dir_calls.specs.declared.phase.Phase.TheVariants.{Fresh, Filling, Synced, Named, Done}
use Rattle.rules_install.specs.declared.fault.InstallFault.{InstallFault}
use Rattle.rules_install.specs.declared.fault.InstallFault.TheVariants.{Line, TooLarge, Disk, Over, OutOfMemory}
use Rattle.rules_install.proofs.StepFits.{numbered}

-- ---- the steps come to an end

-- how many phases are left after this one
abbrev pub phases_left : Option Phase → ℕ
phases_left None = 4
phases_left (Some Fresh) = 3
phases_left (Some Filling) = 3
phases_left (Some Synced) = 2
phases_left (Some Named) = 1
phases_left (Some Done) = 0

falls : (reached : Option Phase) (patched : Bool) (before now : ℕ) → next_of reached patched ≢ Done
    → (next_of reached patched ≡ Filling → now < before) → (next_of reached patched ≢ Filling → now ≡ before)
    → now + phases_left (Some (next_of reached patched)) < before + phases_left reached
falls None patched before now undone more kept = let same : now ≡ before = kept (λ is. absurd (cc)) in omega arith
falls (Some Fresh) true before now undone more kept = let same : now ≡ before = kept (λ is. absurd (cc)) in omega arith
falls (Some Fresh) false before now undone more kept = let less : now < before = more refl in omega arith
falls (Some Filling) true before now undone more kept = let same : now ≡ before = kept (λ is. absurd (cc)) in omega arith
falls (Some Filling) false before now undone more kept = let less : now < before = more refl in omega arith
falls (Some Synced) patched before now undone more kept = let same : now ≡ before = kept (λ is. absurd (cc)) in omega arith
falls (Some Named) patched before now undone more kept = absurd (undone refl)
falls (Some Done) patched before now undone more kept = absurd (undone refl)

-- a step answered as it would for the other
abbrev IsAnswer : Result Phase InstallFault → Result Phase InstallFault → Type 0
IsAnswer result other = result ≡ other

-- what is true of each installation stays true of the same one further on
pub stays_consistent : (s t : Installing) → IsConsistent s → IsSame s t → (t.reached ≡ Some Fresh → IsUnfilled t) → IsConsistent t
stays_consistent s t is same unfilled = record {
  of_text = subst AreOfText (sym same.rules) is.of_text;
  names = subst (λ (names : NamePair). names.cdb ≢ names.tmp) (sym same.names) is.names;
  written = subst IsWritten (sym same.rules) is.written;
  unfilled = unfilled;
}

-- what is left falls with each step that answers a phase other than `Done`
pub smaller : (s s' : Installing) (phase : Phase) → IsSame s s' → Goes (next_phase s) s s' (Ok phase) → phase ≢ Done
    → (IsAnswer (Ok phase) (Ok Filling) → fillings_left s'.rules s'.filled s'.patched < fillings_left s.rules s.filled s.patched)
    → ((IsAnswer (Ok phase) (Ok Filling) → ⊥) → HasFilled s s')
    → fillings_left s'.rules s'.filled s'.patched + phases_left s'.reached < fillings_left s.rules s.filled s.patched + phases_left s.reached
smaller s s' phase same goes undone more kept =
    let left : fillings_left s'.rules s'.filled s'.patched + phases_left (Some (next_phase s)) < fillings_left s.rules s.filled s.patched + phases_left s.reached =
    falls s.reached s.patched (fillings_left s.rules s.filled s.patched) (fillings_left s'.rules s'.filled s'.patched)
    (λ is. undone (goes.0 ∙ is)) (λ is. more (ap Ok (goes.0 ∙ is)))
    (λ other. let has = kept (λ is. other (cc)) in unmoved has)
    in subst (λ (o : Option Phase). fillings_left s'.rules s'.filled s'.patched + phases_left o < fillings_left s.rules s.filled s.patched + phases_left s.reached) (sym goes.1) left
  where
    unmoved : HasFilled s s' → fillings_left s'.rules s'.filled s'.patched ≡ fillings_left s.rules s.filled s.patched
    unmoved has =
        ap (λ rules. fillings_left rules s'.filled s'.patched) same.rules
        ∙ ap (λ filled. fillings_left s.rules filled s'.patched) has.filled ∙ ap (λ patched. fillings_left s.rules s.filled patched) has.patched

-- ---- what stands under the name of the rules file

-- what may stand there once this phase was reached, where one of these stood: from `Named` on the new file too
abbrev pub so_far : Option Phase → List ℕ → List (Option (List ℕ)) → List (Option (List ℕ))
so_far (Some Named) file olds = Some file ∷ olds
so_far (Some Done) file olds = Some file ∷ olds
so_far reached file olds = olds

-- steps so far, from the start of a run
pub record Progress {D F : Type 0} (tells : Ghosts D F) (start : Installing) (reached : Option Phase) (old now : D) : Type 0 where
  pub lasts : (olds : List (Option (List ℕ))) → LastsAmong (tells.state old) start.names.cdb olds
      → LastsAmong (tells.state now) start.names.cdb (so_far reached (whole_file start.rules) olds)
  pub any_moment : (olds : List (Option (List ℕ))) → LastsAmong (tells.state old) start.names.cdb olds
      → LeavesOnly tells.moment tells.left_since old now (HasAmong start.names.cdb (Some (whole_file start.rules) ∷ olds))

old_among : (reached : Option Phase) (file : List ℕ) (olds : List (Option (List ℕ))) (w : Option (List ℕ)) → IsAmong olds w
    → IsAmong (so_far reached file olds) w
old_among None file olds w among = among
old_among (Some Fresh) file olds w among = among
old_among (Some Filling) file olds w among = among
old_among (Some Synced) file olds w among = among
old_among (Some Named) file olds w among = inr among
old_among (Some Done) file olds w among = inr among

far_among : (reached : Option Phase) (file : List ℕ) (olds : List (Option (List ℕ))) (w : Option (List ℕ))
    → IsAmong (so_far reached file olds) w → IsAmong (Some file ∷ olds) w
far_among None file olds w among = inr among
far_among (Some Fresh) file olds w among = inr among
far_among (Some Filling) file olds w among = inr among
far_among (Some Synced) file olds w among = inr among
far_among (Some Named) file olds w among = among
far_among (Some Done) file olds w among = among

-- the step to the next phase
next_far : (reached : Option Phase) (patched : Bool) (file : List ℕ) (olds : List (Option (List ℕ)))
    → may_stand (next_of reached patched) file (so_far reached file olds) ≡ so_far (Some (next_of reached patched)) file olds
next_far None patched file olds = refl
next_far (Some Fresh) true file olds = refl
next_far (Some Fresh) false file olds = refl
next_far (Some Filling) true file olds = refl
next_far (Some Filling) false file olds = refl
next_far (Some Synced) patched file olds = refl
next_far (Some Named) patched file olds = refl
next_far (Some Done) patched file olds = refl

-- a fault on the way to a phase
fault_far : (fault : DirFault) (phase : Phase) (file : List ℕ) (olds : List (Option (List ℕ)))
    → so_far (Some phase) file olds ≡ may_have (Err (Disk fault phase)) file olds
fault_far fault Fresh file olds = refl
fault_far fault Filling file olds = refl
fault_far fault Synced file olds = refl
fault_far fault Named file olds = refl
fault_far fault Done file olds = refl

-- before the names were changed
before_far : (reached : Option Phase) (file : List ℕ) (olds : List (Option (List ℕ))) → reached ≢ Some Named → reached ≢ Some Done
    → so_far reached file olds ≡ olds
before_far None file olds unnamed undone = refl
before_far (Some Fresh) file olds unnamed undone = refl
before_far (Some Filling) file olds unnamed undone = refl
before_far (Some Synced) file olds unnamed undone = refl
before_far (Some Named) file olds unnamed undone = absurd (unnamed refl)
before_far (Some Done) file olds unnamed undone = absurd (undone refl)

module _ {D F : Type 0} (tells : Ghosts D F) where
  -- with no step, what stood under a name stands there whenever the machine stops
  pub none_left : (old : D) (name file : List ℕ) (olds : List (Option (List ℕ)))
      → ((image : Directory) → tells.left_since old (tells.moment old) image → IsImage (tells.state old) image)
      → LastsAmong (tells.state old) name olds → LeavesOnly tells.moment tells.left_since old old (HasAmong name (Some file ∷ olds))
  none_left old name file olds only lasts =
      started tells.moment tells.left_since old (HasAmong name (Some file ∷ olds)) (λ image left. inr (image_has (tells.state old) image name olds lasts (only image left)))

  pub progress_none : (s : Installing) (old : D)
      → ((image : Directory) → tells.left_since old (tells.moment old) image → IsImage (tells.state old) image)
      → Progress tells s s.reached old old
  progress_none s old only = record {
    lasts = λ olds lasts. lasts_more (tells.state old) s.names.cdb olds (so_far s.reached (whole_file s.rules) olds) (old_among s.reached (whole_file s.rules) olds) lasts;
    any_moment = λ olds lasts. none_left old s.names.cdb (whole_file s.rules) olds only lasts;
  }

  -- a step more, by its answer
  pub progress_more : (start s : Installing) (old mid new : D) → IsSame start s → Progress tells start s.reached old mid
      → StepKeeps tells (next_phase s) s mid new
      → Progress tells start (Some (next_phase s)) old new
  progress_more start s old mid new same so_far_is keeps =
      record { lasts = λ olds lasts. (stayed olds lasts).lasts; any_moment = λ olds lasts. (moments olds lasts).any_moment }
    where
      file : List ℕ
      file = whole_file start.rules

      -- what the step keeps, said of the start
      stayed : (olds : List (Option (List ℕ))) → LastsAmong (tells.state old) start.names.cdb olds
          → Stays tells start.names.cdb (so_far (Some (next_phase s)) file olds) mid new
      stayed olds lasts =
          let past = so_far s.reached file olds in
          let name : s.names.cdb ≡ start.names.cdb = ap (λ n. n.cdb) same.names in
          let here : LastsAmong (tells.state mid) s.names.cdb past = subst (λ n. LastsAmong (tells.state mid) n past) (sym name) (so_far_is.lasts olds lasts) in
          let kept : Stays tells s.names.cdb (may_stand (next_phase s) (whole_file s.rules) past) mid new =
          record { lasts = keeps.lasts past here; any_moment = keeps.any_moment past here } in
          let contents : may_stand (next_phase s) (whole_file s.rules) past ≡ so_far (Some (next_phase s)) file olds =
          ap (λ rules. may_stand (next_phase s) (whole_file rules) past) same.rules ∙ next_far s.reached s.patched file olds in
          subst (λ c. Stays tells start.names.cdb c mid new) contents
          (subst (λ n. Stays tells n (may_stand (next_phase s) (whole_file s.rules) past) mid new) name kept)

      moments : (olds : List (Option (List ℕ))) → LastsAmong (tells.state old) start.names.cdb olds
          → Stays tells start.names.cdb (Some file ∷ olds) old new
      moments olds lasts = stays_then tells start.names.cdb (Some file ∷ olds) old mid new
          (record {
            lasts = lasts_more (tells.state mid) start.names.cdb (so_far s.reached file olds) (Some file ∷ olds) (far_among s.reached file olds) (so_far_is.lasts olds lasts);
            any_moment = so_far_is.any_moment olds lasts;
          })
          (stays_more tells start.names.cdb (so_far (Some (next_phase s)) file olds) (Some file ∷ olds) mid new (far_among (Some (next_phase s)) file olds) (stayed olds lasts))

  -- after a step that failed, what is said of the whole run
  pub failed_lasts : (start s s' : Installing) (old mid new : D) (fault : InstallFault) (olds : List (Option (List ℕ)))
      → IsSame start s → Goes (next_phase s) s s' (Err fault)
      → (s.reached ≡ Some Named → IsAnswer (Err fault) (Err OutOfMemory) → ⊥) → s.reached ≢ Some Done
      → Changes s (next_phase s) (tells.state mid) (tells.state new) (Err fault)
      → Progress tells start s.reached old mid → StepKeeps tells (next_phase s) s mid new
      → LastsAmong (tells.state old) start.names.cdb olds
      → LastsAmong (tells.state new) start.names.cdb (may_have (Err fault) (whole_file start.rules) olds)
  failed_lasts start s s' old mid new (Disk fault phase) olds same goes settling undone changes so_far_is keeps lasts =
      let more = progress_more start s old mid new same so_far_is keeps in
      let at : so_far (Some (next_phase s)) (whole_file start.rules) olds ≡ may_have (Err (Disk fault phase)) (whole_file start.rules) olds =
      ap (λ p. so_far (Some p) (whole_file start.rules) olds) (sym goes.0) ∙ fault_far fault phase (whole_file start.rules) olds in
      subst (λ contents. LastsAmong (tells.state new) start.names.cdb contents) at (more.lasts olds lasts)
  failed_lasts start s s' old mid new OutOfMemory olds same goes settling undone changes so_far_is keeps lasts =
      let here : LastsAmong (tells.state mid) start.names.cdb olds =
      subst (λ contents. LastsAmong (tells.state mid) start.names.cdb contents) (before_far s.reached (whole_file start.rules) olds (λ is. settling is refl) undone) (so_far_is.lasts olds lasts) in
      subst (λ d. LastsAmong d start.names.cdb olds) (sym changes) here
  failed_lasts start s s' old mid new (Line fault) olds same goes settling undone changes so_far_is keeps lasts = absurd goes
  failed_lasts start s s' old mid new TooLarge olds same goes settling undone changes so_far_is keeps lasts = absurd goes
  failed_lasts start s s' old mid new Over olds same goes settling undone changes so_far_is keeps lasts = absurd goes

-- a step fails only as a run may
pub ends_run : (s s' : Installing) (fault : InstallFault) → s.over ≡ false → HasFilled s s' → Goes (next_phase s) s s' (Err fault)
    → EndsRun s' (Err fault)
ends_run s s' (Disk fault phase) is_open has goes = (ap (λ r. next_of r s'.patched) goes.1 ∙ ap (next_of s.reached) has.patched ∙ sym goes.0, goes.2)
ends_run s s' OutOfMemory is_open has goes = ap (λ (i : Installing). i.over) goes ∙ is_open
ends_run s s' (Line fault) is_open has goes = absurd goes
ends_run s s' TooLarge is_open has goes = absurd goes
ends_run s s' Over is_open has goes = absurd goes

-- and the last one ends it
pub ends_done : (s s' : Installing) (phase : Phase) → phase ≡ Done → Goes (next_phase s) s s' (Ok phase) → EndsRun s' (Ok tt)
ends_done s s' phase done goes = (goes.1 ∙ ap Some (sym goes.0 ∙ done), goes.2)

-- a fault of the directory tells where its call failed
pub tells_where : (start s s' : Installing) (old mid new : Directory) (fault : InstallFault) → IsSame start s → s.reached ≢ Some Done
    → FitsPhase s mid s.reached → (s.reached ≡ None → mid ≡ old)
    → Goes (next_phase s) s s' (Err fault) → IsOfDevice (Err fault) → Changes s (next_phase s) mid new (Err fault) → TellsWhere start old new fault
tells_where start s s' old mid new (Disk Device phase) same undone fits first goes device changes = record {
  under_way = s;
  same = same;
  undone = undone;
  next = sym goes.0;
  before = mid;
  fits = fits;
  first = first;
  changes = subst (λ p. Changes s p mid new (Err (Disk Device phase))) (sym goes.0) changes;
}
tells_where start s s' old mid new (Disk NoScratch phase) same undone fits first goes device changes = absurd (cc)
tells_where start s s' old mid new (Disk NoName phase) same undone fits first goes device changes = absurd (cc)
tells_where start s s' old mid new (Disk NoMemory phase) same undone fits first goes device changes = absurd (cc)
tells_where start s s' old mid new OutOfMemory same undone fits first goes device changes = tt
tells_where start s s' old mid new (Line fault) same undone fits first goes device changes = tt
tells_where start s s' old mid new TooLarge same undone fits first goes device changes = tt
tells_where start s s' old mid new Over same undone fits first goes device changes = tt

-- a settling that failed keeps the names as a reader sees them
current_some : (old new : NameTable) → SettlesSome old new → current new ≡ current old
current_some old new some =
    (λ i. after_changes (some.settled i) (some.pending i))
    ∙ sym (fold-append after_change old.settled (take some.count old.pending) (drop some.count old.pending))
    ∙ ap (after_changes old.settled) (take-append-drop some.count old.pending)

settled_stands : (d e : Directory) (name : List ℕ) (bytes : List ℕ) → Fails settles d e
    → file_at d name ≡ Some (record { bytes = bytes; synced = true }) → file_at e name ≡ Some (record { bytes = bytes; synced = true })
settled_stands d e name bytes fails has =
    let at = numbered d.files (number_of d name) _ has in
    ap (λ (m : Names). option_and_then (λ n. slice_get e.files n) (get m name)) (current_some d.names e.names fails.names)
    ∙ ap (option_and_then (λ n. slice_get e.files n)) at.is
    ∙ fails.files.each at.n _ at.there refl

named_before : (reached : Option Phase) (patched : Bool) → reached ≢ Some Done → next_of reached patched ≡ Done → reached ≡ Some Named
named_before None patched undone is = absurd (cc)
named_before (Some Fresh) true undone is = absurd (cc)
named_before (Some Fresh) false undone is = absurd (cc)
named_before (Some Filling) true undone is = absurd (cc)
named_before (Some Filling) false undone is = absurd (cc)
named_before (Some Synced) patched undone is = absurd (cc)
named_before (Some Named) patched undone is = refl
named_before (Some Done) patched undone is = absurd (undone refl)

-- so where it tells `Done` the whole file stands there
at_done : (start : Installing) (old new : Directory) → FailsAt start Done old new → file_at new start.names.cdb ≡ Some (synced_file start.rules)
at_done start old new at =
    let s = at.under_way in
    let named = named_before s.reached s.patched at.undone at.next in
    let stood = subst (λ (r : Option Phase). FitsPhase s at.before r) named at.fits in
    let fails : Fails settles at.before new = subst (λ (call : Call). Fails call at.before new) at.changes.1 at.changes.2 in
    let stands : file_at new s.names.cdb ≡ Some (synced_file s.rules) = settled_stands at.before new s.names.cdb (whole_file s.rules) fails stood in
    subst (λ (names : NamePair). file_at new names.cdb ≡ Some (synced_file start.rules)) at.same.names
    (subst (λ rules. file_at new s.names.cdb ≡ Some (synced_file rules)) at.same.rules stands)

pub stands_at_done : (start : Installing) (old new : Directory) (fault : InstallFault) → TellsWhere start old new fault → StandsAtDone start new fault
stands_at_done start old new (Disk fault Fresh) at = tt
stands_at_done start old new (Disk fault Filling) at = tt
stands_at_done start old new (Disk fault Synced) at = tt
stands_at_done start old new (Disk fault Named) at = tt
stands_at_done start old new (Disk fault Done) at = at_done start old new at
stands_at_done start old new OutOfMemory at = tt
stands_at_done start old new (Line fault) at = tt
stands_at_done start old new TooLarge at = tt
stands_at_done start old new Over at = tt

-- what stands for good stands there now
pub stands_now : (d : Directory) (name bytes : List ℕ) → LastsAmong d name (Some bytes ∷ []) → content d name ≡ Some bytes
stands_now d name bytes lasts = by (number_of d name) (lasts.each (current d.names) (left_current d.names))
  where
    by : (number : Option ℕ) → StandsFor d.files (Some bytes ∷ []) number
        → option_map (λ (file : FileState). file.bytes) (option_and_then (λ n. slice_get d.files n) number) ≡ Some bytes
    by None among = ⊎_elim (λ is. absurd (cc)) (λ is. absurd is) among
    by (Some n) stands =
        ap (option_map (λ (file : FileState). file.bytes)) stands.2 ∙ ⊎_elim (λ is. is) (λ is. absurd is) stands.1

-- the device is blamed for a failure since the start too
pub blames_run : (before mid now : ℕ) (fault : InstallFault) → before ≤ mid → BlamesFault mid now fault → BlamesFault before now fault
blames_run before mid now (Disk Device phase) le (inl less) = inl (omega arith)
blames_run before mid now (Disk Device phase) le (inr most) = inr most
blames_run before mid now (Disk NoScratch phase) le blames = tt
blames_run before mid now (Disk NoName phase) le blames = tt
blames_run before mid now (Disk NoMemory phase) le blames = tt
blames_run before mid now (Line fault) le blames = tt
blames_run before mid now TooLarge le blames = tt
blames_run before mid now Over le blames = tt
blames_run before mid now OutOfMemory le blames = tt

pub same_self : (s : Installing) → IsSame s s
same_self s = record { rules = refl; names = refl }

pub same_then : (s t u : Installing) → IsSame s t → IsSame t u → IsSame s u
same_then s t u first second = record { rules = second.rules ∙ first.rules; names = second.names ∙ first.names }

-- what the last step says of the start
pub done_lasts : (start s : Installing) (d : Directory) → IsSame start s → LastsAmong d s.names.cdb (Some (whole_file s.rules) ∷ [])
    → LastsAmong d start.names.cdb (Some (whole_file start.rules) ∷ [])
done_lasts start s d same lasts =
    subst (λ rules. LastsAmong d start.names.cdb (Some (whole_file rules) ∷ [])) same.rules
    (subst (λ (n : NamePair). LastsAmong d n.cdb (Some (whole_file s.rules) ∷ [])) same.names lasts)
