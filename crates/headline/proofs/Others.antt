-- Steps of others.
use Rattle.std.proofs.Common.{◌≡◌, ◌≢◌, ⊎_elim, ℕ, zero, suc, List, [], ◌∷◌, ◌++◌, length, refl, ◌∙◌, ap, subst}
use Rattle.std.specs.Prelude.{slice_get, Option, None, Some, option_and_then}
use Rattle.std.specs.Option.{option_map}
use Rattle.std.specs.FinMap.{get}
use Rattle.rule_lookup.specs.Pairs.{Rule}
use Rattle.dir_calls.specs.Calls.{settles, after, taken_from, without}
use Rattle.dir_calls.specs.NameTable.{CanBeLeft, NameChange, NameTable, Names, after_change, current, push, puts, takes}
use Rattle.dir_calls.specs.Directory.{Directory, FileState, content, names_of, number_of}
use Rattle.dir_calls.proofs.NamesOf.{get-insert_other, get-remove_other}
use Rattle.dir_calls.proofs.NameTables.{current-push, left_current, left_push, left_settled}
use Rattle.headline.specs.Steps.{LeavesAlone, LeavesRules, LeavesScratch, Outside}
use Rattle.headline.specs.Taken.{CanBeChanged, IsOthers, with_others}
use Rattle.headline.specs.Worlds.{Accepted, HoldsRules, RulesName, StandsAt, UnderWay, World, standing}
use Rattle.headline.proofs.StandingTexts.{Lasts}

-- ---- what stands under a name that is left alone

-- a file that may stand there holds the same rules
holds_on : (name : List ℕ) (d e : Directory) (rules : List Rule) (n : ℕ) (names : Names) → LeavesAlone name d e → CanBeLeft d.names names → get names name ≡ Some n → HoldsRules d.files rules n → HoldsRules e.files rules n
holds_on name d e rules n names alone can is holds = record { file = holds.file; there = alone.files names n can is _ holds.there; compiled = holds.compiled }

-- the text that may stand there
stands_on : (name : List ℕ) (d e : Directory) (text : Option (List Rule)) (was : Names) (number : Option ℕ) → LeavesAlone name d e → CanBeLeft d.names was → number ≡ get was name → StandsAt d.files text (get was name) → StandsAt e.files text number
stands_on name d e None was number alone can same stands = same ∙ stands
stands_on name d e (Some rules) was number alone can same stands = (stands.0, same ∙ stands.1, holds_on name d e rules stands.0 was alone can stands.1 stands.2)

pub lasts_on : (accepted : Accepted) (least : ℕ) (name : List ℕ) (d e : Directory) → LeavesAlone name d e → Lasts accepted least name d → Lasts accepted least name e
lasts_on accepted least name d e alone lasts names left =
    let was = alone.left names left in
    let text = lasts was.0 was.1 in
    record {
      position = text.position;
      text = text.text;
      accepted_as = text.accepted_as;
      recent = text.recent;
      stands = stands_on name d e text.text was.0 (get names name) alone was.1 was.2 text.stands;
    }

-- the file that stands there
pub file_on : (name : List ℕ) (d e : Directory) (rules : List Rule) → LeavesAlone name d e → (n : ℕ) × (number_of d name ≡ Some n) × HoldsRules d.files rules n → (n : ℕ) × (number_of e name ≡ Some n) × HoldsRules e.files rules n
file_on name d e rules alone has = (has.0, alone.now ∙ has.1, holds_on name d e rules has.0 (names_of d) alone (left_current d.names) has.1 has.2)

-- a reader finds the same file
file_stays : (name bytes : List ℕ) (d e : Directory) → LeavesAlone name d e → content d name ≡ Some bytes → content e name ≡ Some bytes
file_stays name bytes d e alone there = by (number_of d name) refl there
  where
    found : (n : ℕ) (o : Option FileState) → slice_get d.files n ≡ o → number_of d name ≡ Some n → option_map (λ (f : FileState). f.bytes) o ≡ Some bytes → option_map (λ (f : FileState). f.bytes) (slice_get e.files n) ≡ Some bytes
    found n None is here has = absurd (cc)
    found n (Some file) is here has = ap (option_map (λ (f : FileState). f.bytes)) (alone.files (names_of d) n (left_current d.names) here file is) ∙ has

    by : (o : Option ℕ) → number_of d name ≡ o → option_map (λ (f : FileState). f.bytes) (option_and_then (λ n. slice_get d.files n) o) ≡ Some bytes → content e name ≡ Some bytes
    by None is has = absurd (cc)
    by (Some n) is has =
        ap (λ (o : Option ℕ). option_map (λ (f : FileState). f.bytes) (option_and_then (λ n. slice_get e.files n) o)) (alone.now ∙ is)
        ∙ found n (slice_get d.files n) refl is has

standing_by : (rules : Option RulesName) (bytes : List ℕ) (d e : Directory) → LeavesRules rules d e → option_and_then (λ (r : RulesName). content d r.name) rules ≡ Some bytes → option_and_then (λ (r : RulesName). content e r.name) rules ≡ Some bytes
standing_by None bytes d e alone there = absurd (cc)
standing_by (Some r) bytes d e alone there = file_stays r.name bytes d e alone there

pub standing_on : (w v : World) (bytes : List ℕ) → Outside w v → standing w ≡ Some bytes → standing v ≡ Some bytes
standing_on w v bytes out there =
    ap (λ (o : Option RulesName). option_and_then (λ (r : RulesName). content v.directory r.name) o) (ap (λ (x : World). x.rules) out.moves)
    ∙ standing_by w.rules bytes w.directory v.directory out.rules_alone there

-- ---- what others may do

-- a name is left alone by a change of another, and by more files
module _ (name : List ℕ) (d e : Directory) (files : (n : ℕ) (file : FileState) → slice_get d.files n ≡ Some file → slice_get e.files n ≡ Some file) where
  changed_alone : (change : NameChange) → e.names ≡ push d.names change → ((m : Names) → get (after_change m change) name ≡ get m name) → LeavesAlone name d e
  changed_alone change is other = record {
    now = ap (λ (t : NameTable). get (current t) name) is ∙ ap (λ (m : Names). get m name) (current-push d.names change) ∙ other (current d.names);
    left = λ names left.
        ⊎_elim
        (λ before. (names, before, refl))
        (λ now. (current d.names, left_current d.names, ap (λ (m : Names). get m name) now ∙ other (current d.names)))
        (left_push d.names change names (subst (λ (t : NameTable). CanBeLeft t names) is left));
    files = λ names n can is file there. files n file there;
  }

slice_get-push : (files : List FileState) (new file : FileState) (n : ℕ) → slice_get files n ≡ Some file → slice_get (files ++ new ∷ []) n ≡ Some file
slice_get-push [] new file n is = absurd (cc)
slice_get-push (f ∷ files) new file zero is = is
slice_get-push (f ∷ files) new file (suc n) is = slice_get-push files new file n is

-- all that is left alone, is by a directory that leaves each other name alone
changes : (w : World) (d : Directory) (name : List ℕ) → IsOthers w name → ((other : List ℕ) → other ≢ name → LeavesAlone other w.directory d) → d.scratch ≡ w.directory.scratch → CanBeChanged w d
changes w d name others alone scratch =
    let v : World = record w { directory = d } in
    let out : Outside w v = record { rules_alone = by_rules w.rules others.not_rules; scratch_alone = by_scratch w.under_way others.not_scratch; moves = refl } in
    (v, out, refl)
  where
    by_rules : (rules : Option RulesName) → ((r : RulesName) → rules ≡ Some r → r.name ≢ name) → LeavesRules rules w.directory d
    by_rules None not = tt
    by_rules (Some r) not = alone r.name (not r refl)

    by_scratch : (under_way : Option UnderWay) → ((u : UnderWay) → under_way ≡ Some u → u.tmp ≢ name) → LeavesScratch under_way w.directory d
    by_scratch None not = tt
    by_scratch (Some u) not = (alone u.tmp (not u refl), scratch)

-- a file is made under another name
pub made_others : (w : World) (name : List ℕ) (file : FileState) → IsOthers w name → CanBeChanged w (with_others w.directory name file)
made_others w name file others =
    let d = w.directory in
    changes w (with_others d name file) name others
    (λ other differ. changed_alone other d (with_others d name file) (λ n f is. slice_get-push d.files file f n is) (puts name (length d.files)) refl (λ m. get-insert_other m other name (length d.files) differ)) refl

-- a name is taken away
pub taken_others : (w : World) (name : List ℕ) → IsOthers w name → CanBeChanged w (without w.directory name)
taken_others w name others = changes w (without w.directory name) name others (λ other differ. by other differ (number_of w.directory name)) refl
  where
    by : (other : List ℕ) → other ≢ name → (number : Option ℕ) → LeavesAlone other w.directory (record { names = taken_from w.directory.names name number; files = w.directory.files; scratch = w.directory.scratch })
    by other differ None = record { now = refl; left = λ names left. (names, left, refl); files = λ names n can is file there. there }
    by other differ (Some number) = changed_alone other w.directory _ (λ n f is. is) (takes name) refl (λ m. get-remove_other m other name differ)

-- all names are made lasting
settled_alone : (name : List ℕ) (d : Directory) → LeavesAlone name d (after settles d)
settled_alone name d = record {
  now = refl;
  left = λ names left. (current d.names, left_current d.names, ap (λ (m : Names). get m name) (left_settled d.names names left));
  files = λ names n can is file there. there;
}

pub settled_others : (w : World) → CanBeChanged w (after settles w.directory)
settled_others w =
    let d = w.directory in
    let v : World = record w { directory = after settles d } in
    let out : Outside w v = record { rules_alone = by_rules w.rules; scratch_alone = by_scratch w.under_way; moves = refl } in
    (v, out, refl)
  where
    by_rules : (rules : Option RulesName) → LeavesRules rules w.directory (after settles w.directory)
    by_rules None = tt
    by_rules (Some r) = settled_alone r.name w.directory

    by_scratch : (under_way : Option UnderWay) → LeavesScratch under_way w.directory (after settles w.directory)
    by_scratch None = tt
    by_scratch (Some u) = (settled_alone u.tmp w.directory, refl)
