-- What stands under the name of the rules file, from the first step on to the scratch file that is taken away.
use Rattle.std.proofs.Common.{◌≡◌, inl, inr, ⊎_elim, ℕ, ◌≤◌, List, [], ◌∷◌, refl, sym, subst, arith}
use Rattle.std.specs.Prelude.{true, false, Option, None, Some, Result, Ok, Err, IfErr, OnOk}
use Rattle.dir_calls.specs.Clearing.{SparesOthers}
use Rattle.dir_calls.specs.Directory.{Directory, content}
use Rattle.dir_calls.specs.Lasting.{IsAmong, HasAmong, LastsAmong}
use Rattle.dir_calls.specs.Moments.{LeavesOnly}
use Rattle.dir_calls.specs.Replacing.{KeepsWhatLasts}
use Rattle.dir_calls.specs.declared.fault.DirFault.{DirFault}
use Rattle.dir_calls.specs.declared.fault.DirFault.TheVariants as dir
use Rattle.dir_calls.specs.declared.dir.Dir.{Ghosts}
use Rattle.dir_calls.proofs.Clearing.{same_stays, stays_on}
use Rattle.dir_calls.proofs.Replacing.{stays_then}
use Rattle.rule_lookup.specs.Pairs.{Rule}
use Rattle.rules_install.specs.Filled.{whole_file}
use Rattle.rules_install.specs.Installing.{HasForGood, Installing}
use Rattle.rules_install.specs.NamePair.{NamePair}
use Rattle.rules_install.specs.Series.{ComesTo, IsSeries, further, none}
use Rattle.rules_install.specs.Steps.{BlamesFault, HasFailed, IsSame}
use Rattle.rules_install.proofs.StepFits.{fresh_next}
use Rattle.rules_install.specs.Whole.{EndsRun, IsDeviceFault, RunKeeps, RunLasts, may_have}
use Rattle.dir_calls.specs.declared.phase.Phase.TheVariants.{Fresh, Filling, Synced, Named, Done}
use Rattle.rules_install.specs.declared.fault.InstallFault.{InstallFault}
use Rattle.rules_install.specs.declared.fault.InstallFault.TheVariants.{Line, TooLarge, Disk, Over, OutOfMemory}
use Rattle.rules_tools.specs.Disks.{BlamesDisk, EndsOnDisk, HasFailedSince, IsAtFresh, fails_on_disk}
use Rattle.rules_tools.specs.Scratch.{AfterFault, HasFailedTwice, IsTakenAway}
use Rattle.rules_tools.specs.Series.{Begins, IsBegun, MakesSeries, MakesSteps}

-- what may stand there at the end may stand there at any moment
may_among : (result : Result (Unit {0}) InstallFault) (file : List ℕ) (olds : List (Option (List ℕ))) (w : Option (List ℕ)) → IsAmong (may_have result file olds) w → IsAmong (Some file ∷ olds) w
may_among (Ok done) file olds w among = among
may_among (Err (Disk fault Fresh)) file olds w among = inr among
may_among (Err (Disk fault Filling)) file olds w among = inr among
may_among (Err (Disk fault Synced)) file olds w among = inr among
may_among (Err (Disk fault Named)) file olds w among = among
may_among (Err (Disk fault Done)) file olds w among = among
may_among (Err (Line fault)) file olds w among = inr among
may_among (Err TooLarge) file olds w among = inr among
may_among (Err Over) file olds w among = inr among
may_among (Err OutOfMemory) file olds w among = inr among

-- before the first phase nothing new stands there
fresh_may : (fault : InstallFault) (file : List ℕ) (olds : List (Option (List ℕ))) → IsAtFresh fault → may_have (Err fault) file olds ≡ olds
fresh_may (Disk fault Fresh) file olds at = refl
fresh_may (Disk fault Filling) file olds at = absurd (cc)
fresh_may (Disk fault Synced) file olds at = absurd (cc)
fresh_may (Disk fault Named) file olds at = absurd (cc)
fresh_may (Disk fault Done) file olds at = absurd (cc)
fresh_may (Line fault) file olds at = refl
fresh_may TooLarge file olds at = refl
fresh_may Over file olds at = refl
fresh_may OutOfMemory file olds at = refl

-- a run of all steps ends on the disk, and so does one that is not begun
pub ends_on_disk : (s : Installing) (result : Result (Unit {0}) InstallFault) → EndsRun s result → EndsOnDisk result
ends_on_disk s (Ok done) ends = tt
ends_on_disk s (Err (Disk fault phase)) ends = tt
ends_on_disk s (Err OutOfMemory) ends = tt
ends_on_disk s (Err (Line fault)) ends = ends
ends_on_disk s (Err TooLarge) ends = ends
ends_on_disk s (Err Over) ends = ends

pub fresh_ends : (fault : InstallFault) → IsAtFresh fault → EndsOnDisk (Err fault)
fresh_ends (Disk fault phase) at = tt
fresh_ends OutOfMemory at = tt
fresh_ends (Line fault) at = at
fresh_ends TooLarge at = at
fresh_ends Over at = at

-- an installation that has reached a phase has reached one after steps that came to theirs, and none of them is the first one
still_begun : {s t : Installing} {d e : Directory} → ComesTo s d t e → (s.reached ≡ None → ⊥) → t.reached ≡ None → ⊥
still_begun none some is = some is
still_begun (further comes step) some is = let reached = step.goes.1 in absurd (cc)

not_fresh : (s t : Installing) (d e : Directory) (fault : DirFault) → (s.reached ≡ None → ⊥) → IsSeries s t d e (Err (Disk fault Fresh)) → ⊥
not_fresh s t d e fault some series =
    let u = series.0 in
    still_begun series.2 some (fresh_next u.reached u.patched (sym series.3.goes.0))

-- a run of steps in a directory in which the installation was begun is one in the directory before
module _ (s t u : Installing) (old mid new : Directory) (begins : Begins s t old mid (Ok tt)) (begun : IsBegun t) where
  begun_steps : (result : Result (Unit {0}) InstallFault) → OnOk result (new ≡ new) → IsSeries t u mid new result → MakesSteps s old new result
  begun_steps result last series = record {
    t = t;
    made = begins.0;
    first = begins.1;
    u = u;
    end = new;
    series = subst (λ (d : Directory). IsSeries t u d new result) begins.2 series;
    last = last;
    spares = λ other differ. same_stays other new new refl;
  }

  pub begun_series : (result : Result (Unit {0}) InstallFault) → IsSeries t u mid new result → MakesSeries s old new result
  begun_series (Ok done) series = begun_steps (Ok done) refl series
  begun_series (Err (Disk fault Fresh)) series = absurd (not_fresh t u mid new fault (λ is. (let some = begun.0 in absurd (cc))) series)
  begun_series (Err (Disk fault Filling)) series = begun_steps (Err (Disk fault Filling)) tt series
  begun_series (Err (Disk fault Synced)) series = begun_steps (Err (Disk fault Synced)) tt series
  begun_series (Err (Disk fault Named)) series = begun_steps (Err (Disk fault Named)) tt series
  begun_series (Err (Disk fault Done)) series = begun_steps (Err (Disk fault Done)) tt series
  begun_series (Err (Line fault)) series = begun_steps (Err (Line fault)) tt series
  begun_series (Err TooLarge) series = begun_steps (Err TooLarge) tt series
  begun_series (Err Over) series = begun_steps (Err Over) tt series
  begun_series (Err OutOfMemory) series = inr (begun_steps (Err OutOfMemory) tt series)

-- where it was not begun
pub unbegun_series : (s t : Installing) (old new : Directory) (fault : InstallFault) → IsAtFresh fault → Begins s t old new (Err fault) → SparesOthers s.names.tmp old new
    → MakesSeries s old new (Err fault)
unbegun_series s t old new (Disk fault Fresh) at begins spares = spares
unbegun_series s t old new (Disk fault Filling) at begins spares = absurd (cc)
unbegun_series s t old new (Disk fault Synced) at begins spares = absurd (cc)
unbegun_series s t old new (Disk fault Named) at begins spares = absurd (cc)
unbegun_series s t old new (Disk fault Done) at begins spares = absurd (cc)
unbegun_series s t old new (Line fault) at begins spares = absurd at
unbegun_series s t old new TooLarge at begins spares = absurd at
unbegun_series s t old new Over at begins spares = absurd at
unbegun_series s t old new OutOfMemory at begins spares = inl begins

-- and then the scratch file was taken away
module _ (s : Installing) (old mid new : Directory) (after : SparesOthers s.names.tmp mid new) where
  then_steps : (fault : InstallFault) → MakesSteps s old mid (Err fault) → MakesSteps s old new (Err fault)
  then_steps fault makes = record {
    t = makes.t;
    made = makes.made;
    first = makes.first;
    u = makes.u;
    end = makes.end;
    series = makes.series;
    last = tt;
    spares = λ other differ. stays_on other makes.end mid new (makes.spares other differ) (after other differ);
  }

  pub then_series : (result : Result (Unit {0}) InstallFault) → fails_on_disk result ≡ true → MakesSeries s old mid result → MakesSeries s old new result
  then_series (Ok done) failed makes = absurd (cc)
  then_series (Err (Disk fault Fresh)) failed makes = λ other differ. stays_on other old mid new (makes other differ) (after other differ)
  then_series (Err (Disk fault Filling)) failed makes = then_steps (Disk fault Filling) makes
  then_series (Err (Disk fault Synced)) failed makes = then_steps (Disk fault Synced) makes
  then_series (Err (Disk fault Named)) failed makes = then_steps (Disk fault Named) makes
  then_series (Err (Disk fault Done)) failed makes = then_steps (Disk fault Done) makes
  then_series (Err (Line fault)) failed makes = absurd (cc)
  then_series (Err TooLarge) failed makes = absurd (cc)
  then_series (Err Over) failed makes = absurd (cc)
  then_series (Err OutOfMemory) failed makes = absurd (cc)

pub no_fault : (fact : Type 0) (result : Result (Unit {0}) InstallFault) → fails_on_disk result ≡ false → AfterFault fact result
no_fault fact (Ok done) fine = tt
no_fault fact (Err (Disk fault phase)) fine = absurd (cc)
no_fault fact (Err (Line fault)) fine = tt
no_fault fact (Err TooLarge) fine = tt
no_fault fact (Err Over) fine = tt
no_fault fact (Err OutOfMemory) fine = tt

-- a failure after one that was counted is a second one
second : (before mid now : ℕ) → HasFailed before mid → HasFailed mid now → HasFailedTwice before now
second before mid now first failed = (mid, first, failed)

removed_by : (name : List ℕ) (d : Directory) (before mid now : ℕ) (left : Option DirFault) → HasFailed before mid
    → IsTakenAway name d (HasFailed mid now) left → IsTakenAway name d (HasFailedTwice before now) left
removed_by name d before mid now None first gone = gone
removed_by name d before mid now (Some dir.Device) first gone = second before mid now first gone
removed_by name d before mid now (Some dir.NoScratch) first gone = gone
removed_by name d before mid now (Some dir.NoName) first gone = gone
removed_by name d before mid now (Some dir.OutOfMemory) first gone = tt

pub removed_after : (name : List ℕ) (d : Directory) (before mid now : ℕ) (left : Option DirFault) (result : Result (Unit {0}) InstallFault)
    → IfErr result IsDeviceFault → IfErr result (BlamesFault before mid) → IsTakenAway name d (HasFailed mid now) left → AfterFault (IsTakenAway name d (HasFailedTwice before now) left) result
removed_after name d before mid now left (Ok done) device blames gone = tt
removed_after name d before mid now left (Err (Disk dir.Device phase)) device blames gone = removed_by name d before mid now left blames gone
removed_after name d before mid now left (Err (Disk dir.NoScratch phase)) device blames gone = absurd (cc)
removed_after name d before mid now left (Err (Disk dir.NoName phase)) device blames gone = absurd (cc)
removed_after name d before mid now left (Err (Disk dir.OutOfMemory phase)) device blames gone = absurd (cc)
removed_after name d before mid now left (Err (Line fault)) device blames gone = tt
removed_after name d before mid now left (Err TooLarge) device blames gone = tt
removed_after name d before mid now left (Err Over) device blames gone = tt
removed_after name d before mid now left (Err OutOfMemory) device blames gone = tt

-- a failure that was counted is counted later
later : (before mid now : ℕ) → mid ≤ now → HasFailed before mid → HasFailedSince before now
later before mid now le failed = (mid, failed, le)

pub blames_disk : (before mid now : ℕ) (result : Result (Unit {0}) InstallFault) → mid ≤ now → IfErr result (BlamesFault before mid) → IfErr result (BlamesDisk before now)
blames_disk before mid now (Ok done) le blames = tt
blames_disk before mid now (Err (Disk dir.Device phase)) le blames = later before mid now le blames
blames_disk before mid now (Err (Disk dir.NoScratch phase)) le blames = tt
blames_disk before mid now (Err (Disk dir.NoName phase)) le blames = tt
blames_disk before mid now (Err (Disk dir.OutOfMemory phase)) le blames = tt
blames_disk before mid now (Err (Line fault)) le blames = tt
blames_disk before mid now (Err TooLarge) le blames = tt
blames_disk before mid now (Err Over) le blames = tt
blames_disk before mid now (Err OutOfMemory) le blames = tt

-- a run that failed on the disk is not done
pub not_done : (P : Type 0) (result : Result (Unit {0}) InstallFault) → fails_on_disk result ≡ true → OnOk result P
not_done P (Ok done) failed = absurd (cc)
not_done P (Err fault) failed = tt

-- a run of another installation of the same rules and names
module _ {D F : Type 0} (tells : Ghosts D F) (s t : Installing) (same : IsSame s t) (old new : D) where
  pub same_keeps : RunKeeps tells t old new → RunKeeps tells s old new
  same_keeps keeps =
      subst (λ (rules : List Rule). (olds : List (Option (List ℕ))) → LastsAmong (tells.state old) s.names.cdb olds
      → LeavesOnly tells.moment tells.left_since old new (HasAmong s.names.cdb (Some (whole_file rules) ∷ olds))) same.rules
      (subst (λ (names : NamePair). (olds : List (Option (List ℕ))) → LastsAmong (tells.state old) names.cdb olds
      → LeavesOnly tells.moment tells.left_since old new (HasAmong names.cdb (Some (whole_file t.rules) ∷ olds))) same.names keeps)

  pub same_lasts : (result : Result (Unit {0}) InstallFault) → RunLasts t (tells.state old) (tells.state new) result → RunLasts s (tells.state old) (tells.state new) result
  same_lasts result lasts =
      subst (λ (rules : List Rule). (olds : List (Option (List ℕ))) → LastsAmong (tells.state old) s.names.cdb olds
      → LastsAmong (tells.state new) s.names.cdb (may_have result (whole_file rules) olds)) same.rules
      (subst (λ (names : NamePair). (olds : List (Option (List ℕ))) → LastsAmong (tells.state old) names.cdb olds
      → LastsAmong (tells.state new) names.cdb (may_have result (whole_file t.rules) olds)) same.names lasts)

  pub same_done : (result : Result (Unit {0}) InstallFault) → OnOk result (HasForGood t (tells.state new)) → OnOk result (HasForGood s (tells.state new))
  same_done (Ok done) has =
      subst (λ (rules : List Rule). LastsAmong (tells.state new) s.names.cdb (Some (whole_file rules) ∷ [])) same.rules
      (subst (λ (names : NamePair). LastsAmong (tells.state new) names.cdb (Some (whole_file t.rules) ∷ [])) same.names has)
  same_done (Err fault) has = tt

module _ {D F : Type 0} (tells : Ghosts D F) where
  leaves_then : (old mid new : D) (P : Directory → Type 0) → LeavesOnly tells.moment tells.left_since old mid P → LeavesOnly tells.moment tells.left_since mid new P → LeavesOnly tells.moment tells.left_since old new P
  leaves_then old mid new P first second = record {
    later = omega (arith, first.later, second.later);
    each = λ image left. ⊎_elim (first.each image) (λ has. has) (second.before (tells.moment old) image first.later left);
    before = λ earlier image le left. ⊎_elim (first.before earlier image le) (λ has. inr has) (second.before earlier image (omega (arith, le, first.later)) left);
  }

  leaves_more : (old new : D) (P Q : Directory → Type 0) → ((image : Directory) → P image → Q image) → LeavesOnly tells.moment tells.left_since old new P → LeavesOnly tells.moment tells.left_since old new Q
  leaves_more old new P Q to leaves = record {
    later = leaves.later;
    each = λ image left. to image (leaves.each image left);
    before = λ earlier image le left. ⊎_elim (λ past. inl past) (λ has. inr (to image has)) (leaves.before earlier image le left);
  }

  -- one run and then another
  pub keeps_then : (name : List ℕ) (old mid new : D) → KeepsWhatLasts tells name old mid → KeepsWhatLasts tells name mid new → KeepsWhatLasts tells name old new
  keeps_then name old mid new first second = λ contents lasts.
      let so_far = first contents lasts in
      stays_then tells name contents old mid new so_far (second contents so_far.lasts)

  module _ (s : Installing) (old mid new : D) where
    -- a run of all steps after one that keeps what lasts
    pub after_keeps : KeepsWhatLasts tells s.names.cdb old mid → RunKeeps tells s mid new → RunKeeps tells s old new
    after_keeps first second = λ olds lasts.
        let so_far = first olds lasts in
        leaves_then old mid new (HasAmong s.names.cdb (Some (whole_file s.rules) ∷ olds))
        (leaves_more old mid (HasAmong s.names.cdb olds) (HasAmong s.names.cdb (Some (whole_file s.rules) ∷ olds)) (λ image has. inr has) so_far.any_moment)
        (second olds so_far.lasts)

    pub after_lasts : (result : Result (Unit {0}) InstallFault) → KeepsWhatLasts tells s.names.cdb old mid → RunLasts s (tells.state mid) (tells.state new) result → RunLasts s (tells.state old) (tells.state new) result
    after_lasts result first second = λ olds lasts. second olds (first olds lasts).lasts

    -- and one that keeps what lasts after a run of all steps
    pub then_keeps : (result : Result (Unit {0}) InstallFault) → RunKeeps tells s old mid → RunLasts s (tells.state old) (tells.state mid) result → KeepsWhatLasts tells s.names.cdb mid new
        → RunKeeps tells s old new
    then_keeps result keeps stands second = λ olds lasts.
        let may = may_have result (whole_file s.rules) olds in
        leaves_then old mid new (HasAmong s.names.cdb (Some (whole_file s.rules) ∷ olds)) (keeps olds lasts)
        (leaves_more mid new (HasAmong s.names.cdb may) (HasAmong s.names.cdb (Some (whole_file s.rules) ∷ olds))
        (λ image. may_among result (whole_file s.rules) olds (content image s.names.cdb)) (second may (stands olds lasts)).any_moment)

    pub then_lasts : (result : Result (Unit {0}) InstallFault) → RunLasts s (tells.state old) (tells.state mid) result → KeepsWhatLasts tells s.names.cdb mid new → RunLasts s (tells.state old) (tells.state new) result
    then_lasts result stands second = λ olds lasts. (second (may_have result (whole_file s.rules) olds) (stands olds lasts)).lasts

  -- where it was not begun
  module _ (s : Installing) (old new : D) (keeps : KeepsWhatLasts tells s.names.cdb old new) where
    pub unready_keeps : RunKeeps tells s old new
    unready_keeps = λ olds lasts.
        leaves_more old new (HasAmong s.names.cdb olds) (HasAmong s.names.cdb (Some (whole_file s.rules) ∷ olds)) (λ image has. inr has) (keeps olds lasts).any_moment

    pub unready_lasts : (fault : InstallFault) → IsAtFresh fault → RunLasts s (tells.state old) (tells.state new) (Err fault)
    unready_lasts fault at = λ olds lasts.
        subst (λ contents. LastsAmong (tells.state new) s.names.cdb contents) (sym (fresh_may fault (whole_file s.rules) olds at)) (keeps olds lasts).lasts
