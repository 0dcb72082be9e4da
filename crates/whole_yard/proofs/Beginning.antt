-- The first step of an installation, in a yard.
use Rattle.std.proofs.Common.{◌≡◌, ◌<◌, ◌^◌, ℕ, List, true, false, Option, None, Some, refl, sym, ap, ◌∙◌}
use Rattle.std.specs.Prelude.{Err}
use Rattle.dir_calls.specs.Directory.{Directory}
use Rattle.dir_calls.specs.declared.fault.DirFault.TheVariants.{NoScratch, NoName, Device, OutOfMemory as NoMemory}
use Rattle.whole_yard.specs.UnderWay as way
use Rattle.whole_yard.specs.UnderWay.{IsUnderWay}
use Rattle.rule_lookup.specs.Pairs.{Rule}
use Rattle.rules_install.specs.Installing.{Installing, next_of, next_phase}
use Rattle.rules_install.specs.Steps.{Goes, IsOfDevice}
use Rattle.dir_calls.specs.declared.phase.Phase.{Phase}
use Rattle.dir_calls.specs.declared.phase.Phase.TheVariants.{Fresh}
use Rattle.rules_install.specs.declared.fault.InstallFault.{InstallFault}
use Rattle.rules_install.specs.declared.fault.InstallFault.TheVariants.{Line, TooLarge, Disk, Over, OutOfMemory}
use Rattle.server_events.specs.ServerState.{ServerState}
use Rattle.headline.specs.Worlds.{RulesName}
use Rattle.server_events.specs.declared.event.Event.TheVariants.{StepFailed}
use Rattle.whole_yard.specs.Installed.{KeepsHistory}
use Rattle.server_yard.specs.Rolls.{IsQuiet, NotesSome, Roll}
use Rattle.whole_yard.specs.Stepping.{HandsBack, fault_event, is_of_disk, kept_after_fault, kept_then}
use Rattle.whole_yard.specs.WholeYards.{name_of}
use Rattle.whole_yard.proofs.Going.{kept_failed}
use Rattle.whole_yard.proofs.Keeping.{none_not_some, one_more_of, same_some}

pub first_is : (s : Installing) → s.reached ≡ None → next_phase s ≡ Fresh
first_is s none = ap (λ (o : Option Phase). next_of o s.patched) none

pub named_rules : (o : Option RulesName) (name : List ℕ) → name_of o ≡ Some name → (r : RulesName) × (o ≡ Some r) × (name ≡ r.name)
named_rules None name is = absurd (none_not_some name is)
named_rules (Some r) name is = (r, refl, sym (same_some r.name name is))

pub named_by : (o : Option RulesName) (name : List ℕ) → name_of o ≡ Some name → (r : RulesName) → o ≡ Some r → name ≡ r.name
named_by o name is r same = same_some name r.name (sym is ∙ ap (λ (x : Option RulesName). name_of x) same)

-- after a fault of the directory none is under way
pub disk_phase : (fault : InstallFault) (old new : Roll) → is_of_disk fault ≡ true → NotesSome (fault_event fault) old new → new.server.phase ≡ None
disk_phase (Line fault) old new disk noted = absurd (cc)
disk_phase TooLarge old new disk noted = absurd (cc)
disk_phase (Disk fault phase) old new disk noted = ap (λ (u : ServerState). u.phase) noted.happens
disk_phase Over old new disk noted = absurd (cc)
disk_phase OutOfMemory old new disk noted = absurd (cc)

-- any other is no event
pub quiet_of : (fault : InstallFault) (old new : Roll) → is_of_disk fault ≡ false → NotesSome (fault_event fault) old new → IsQuiet old new
quiet_of (Line fault) old new other noted = noted
quiet_of TooLarge old new other noted = noted
quiet_of (Disk fault phase) old new other noted = absurd (cc)
quiet_of Over old new other noted = noted
quiet_of OutOfMemory old new other noted = noted

-- none at all
pub none_event : (fault : InstallFault) → is_of_disk fault ≡ false → fault_event fault ≡ None
none_event (Line fault) other = refl
none_event TooLarge other = refl
none_event (Disk fault phase) other = absurd (cc)
none_event Over other = refl
none_event OutOfMemory other = refl

-- but a fault of the directory is one
pub disk_event : (fault : InstallFault) → is_of_disk fault ≡ true → fault_event fault ≡ None → ⊥
disk_event (Line fault) disk none = absurd (cc)
disk_event TooLarge disk none = absurd (cc)
disk_event (Disk fault phase) disk none = none_not_some (StepFailed phase) (sym none)
disk_event Over disk none = absurd (cc)
disk_event OutOfMemory disk none = absurd (cc)

-- which installation is kept then
pub disk_kept : (fault : InstallFault) (kept : Option ℕ) → is_of_disk fault ≡ true → kept_after_fault fault kept ≡ None
disk_kept (Line fault) kept disk = absurd (cc)
disk_kept TooLarge kept disk = absurd (cc)
disk_kept (Disk fault phase) kept disk = refl
disk_kept Over kept disk = absurd (cc)
disk_kept OutOfMemory kept disk = absurd (cc)

-- and after any other fault
pub fault_kept : (fault : InstallFault) (kept : Option ℕ) → is_of_disk fault ≡ false → kept_after_fault fault kept ≡ kept
fault_kept (Line fault) kept other = refl
fault_kept TooLarge kept other = refl
fault_kept (Disk fault phase) kept other = absurd (cc)
fault_kept Over kept other = refl
fault_kept OutOfMemory kept other = refl

-- of the one that was stepped
pub disk_then : (t : Installing) (fault : InstallFault) → is_of_disk fault ≡ true → kept_then t (Err fault) ≡ None
disk_then t (Line fault) disk = absurd (cc)
disk_then t TooLarge disk = absurd (cc)
disk_then t (Disk fault phase) disk = refl
disk_then t Over disk = absurd (cc)
disk_then t OutOfMemory disk = absurd (cc)

-- it is not over
pub not_disk_over : (fault : InstallFault) → is_of_disk fault ≡ true → fault ≡ Over → ⊥
not_disk_over (Line fault) disk is = absurd (cc)
not_disk_over TooLarge disk is = absurd (cc)
not_disk_over (Disk fault phase) disk is = absurd (let other = ap is_of_disk is in cc)
not_disk_over Over disk is = absurd (cc)
not_disk_over OutOfMemory disk is = absurd (cc)

-- what is handed back
pub back_of : (s t : Installing) (next : Phase) (fault : InstallFault) → Goes next s t (Err fault) → HandsBack s t fault
back_of s t next (Line fault) goes = absurd goes
back_of s t next TooLarge goes = absurd goes
back_of s t next (Disk fault phase) goes = goes.2
back_of s t next Over goes = absurd goes
back_of s t next OutOfMemory goes = goes

-- what the installations left then
pub kept_fault : (d e : Directory) (rules : Option RulesName) (installing : Option Installing) (s t : Installing) (fault : InstallFault) (old new : Roll)
    {lists lists' : Option (List (List Rule))} (k : KeepsHistory old.books lists (record { directory = d; rules = rules; server = old.server; installing = installing })) → IsUnderWay k.installed.world s d → old.server.limit < 2 ^ 64 → is_of_disk fault ≡ true → NotesSome (fault_event fault) old new → IsOfDevice (Err fault) → lists' ≡ lists → way.StepLeads s t d e (Err fault)
    → KeepsHistory new.books lists' (record { directory = e; rules = rules; server = new.server; installing = None })
kept_fault d e rules installing s t (Line fault) old new k under small disk noted device same leads = absurd (cc)
kept_fault d e rules installing s t TooLarge old new k under small disk noted device same leads = absurd (cc)
kept_fault d e rules installing s t Over old new k under small disk noted device same leads = absurd (cc)
kept_fault d e rules installing s t OutOfMemory old new k under small disk noted device same leads = absurd (cc)
kept_fault d e rules installing s t (Disk NoScratch phase) old new k under small disk noted device same leads = absurd (cc)
kept_fault d e rules installing s t (Disk NoName phase) old new k under small disk noted device same leads = absurd (cc)
kept_fault d e rules installing s t (Disk NoMemory phase) old new k under small disk noted device same leads = absurd (cc)
kept_fault d e rules installing s t (Disk Device phase) old new k under small disk noted device same leads =
    kept_failed (record { directory = d; rules = rules; server = old.server; installing = installing }) new.server e s t (next_phase s) k under (λ q g. g.1 ∙ ap (λ (x : Phase). Some x) (sym g.0)) phase old.speaker (one_more_of (StepFailed phase) old new small tt noted) same leads
