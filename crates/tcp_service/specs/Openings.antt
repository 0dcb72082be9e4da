-- What a connection finds when it opens the rules.
use Rattle.std.specs.Prelude.{◌≡◌, ℕ, Bool, IsTrue, List, Option, None, Some, Result, Ok, option_map}
use Rattle.cdb_files.specs.Reading.{reading}
use Rattle.child_jobs.specs.declared.outcome.DropCause.{DropCause}
use Rattle.child_jobs.specs.declared.outcome.DropCause.TheVariants as cause
use Rattle.dir_calls.specs.Directory.{Directory, content}
use Rattle.dir_calls.specs.declared.dir.Dir.{Ghosts}
use Rattle.dir_calls.specs.declared.fault.DirFault.{DirFault}
use Rattle.dir_calls.specs.declared.fault.DirFault.TheVariants as directory
use Rattle.rule_lookup.specs.Decisions.{DecisionFails, decision_from}
use Rattle.rule_lookup.specs.Lookups.{WhereKnown}
use Rattle.rule_lookup.specs.Peers.{Client}
use Rattle.rule_lookup.specs.declared.decision.DecideFault.{DecideFault}
use Rattle.rule_lookup.specs.declared.decision.DecideFault.TheVariants.{Find, Code, OutOfMemory}
use Rattle.rule_lookup.specs.declared.decision.Decision.{Decision}
use Rattle.rule_lookup.specs.declared.decision.WhenMissing.{WhenMissing}
use Rattle.rule_lookup.specs.declared.source.FindFault.TheVariants as find
use Rattle.server_yard.specs.Passes.{pass_bytes, trust_in}
use Rattle.server_yard.specs.declared.pass.Pass.{Pass}
use Rattle.tcp_service.specs.declared.host.Rules.{Ghosts as RulesGhosts}

-- the bytes of the rules file, or that there is none, and what is decided without one
pub record Opening : Type 0 where
  pub bytes : Option (List ℕ)
  pub missing : WhenMissing

-- what a pass has, and what is decided without a file
abbrev pub opening_of : {L F : Type 0} → (F → List ℕ) → WhenMissing → Pass L F → Opening
opening_of bytes missing pass = record { bytes = pass_bytes bytes pass; missing = missing }

-- what stood under a name in such a folder, as far as that is known; without a name there is nothing
abbrev pub StoodIn : {D : Type 0} (its : D → Type 0) (honest : Bool) → (D → Directory) → (name there : Option (List ℕ))
    → Type 0
StoodIn its honest state None there = there ≡ None
StoodIn {D} its honest state (Some name) there =
    (folder : D) × its folder × (IsTrue honest → there ≡ content (state folder) name)

-- what stood where the rules stand, when they were opened for the connection with this serial
abbrev pub StoodFor : {R D F : Type 0} → RulesGhosts R D → Ghosts D F → R → (serial : ℕ) → Option (List ℕ) → Type 0
StoodFor theirs folders rules serial there =
    StoodIn (theirs.its rules serial) folders.honest folders.state (theirs.named rules) there

-- this was found for a connection; without a file this is decided
pub record IsFoundFor {R D F : Type 0} (theirs : RulesGhosts R D) (folders : Ghosts D F) (rules : R) (missing : WhenMissing)
    (serial : ℕ) (found : Opening) : Type 0 where
  pub stood : StoodFor theirs folders rules serial found.bytes
  pub without : found.missing ≡ missing

-- what it decides of a peer: by the first lookup form that the file has
abbrev pub decides : Opening → Client → Result Decision DecideFault
decides found peer = decision_from (option_map reading found.bytes) found.missing peer

-- it decides so, as far as the bytes of its file are known
abbrev pub Decides : (honest sound : Bool) → Opening → Client → Decision → Type 0
Decides honest sound found peer decision =
    WhereKnown (trust_in honest sound found.bytes) (decides found peer ≡ Ok decision)

-- the decision by it fails with this fault
abbrev pub FailsToDecide : (honest sound : Bool) → Opening → Client → DecideFault → Type 0
FailsToDecide honest sound found peer fault =
    DecisionFails (trust_in honest sound found.bytes) (decides found peer) fault

-- the cause of a drop if the rules could not be opened, and if a decision fails
abbrev pub cause_of_open : DirFault → DropCause
cause_of_open directory.OutOfMemory = cause.Memory
cause_of_open directory.Device = cause.Directory
cause_of_open directory.NoScratch = cause.Directory
cause_of_open directory.NoName = cause.Directory

abbrev pub cause_of : DecideFault → DropCause
cause_of (Find find.Short) = cause.Damaged
cause_of (Find find.Device) = cause.ReadFault
cause_of (Find find.OutOfMemory) = cause.Memory
cause_of (Code fault) = cause.Damaged
cause_of OutOfMemory = cause.Memory
