-- How one connection is served, up to the start of its program.
use Rattle.std.specs.Prelude.{◌≡◌, ◌≢◌, ⊤, ℕ, Bool, IsTrue, List, [], Option, None, Some}
use Rattle.child_jobs.specs.Child.{environment_of}
use Rattle.child_jobs.specs.Plans.{PlanText}
use Rattle.child_jobs.specs.Programs.{ProgramText}
use Rattle.child_jobs.specs.Variables.{Variables}
use Rattle.child_jobs.specs.declared.outcome.DropCause.{DropCause}
use Rattle.child_jobs.specs.declared.outcome.DropCause.TheVariants as cause
use Rattle.child_jobs.specs.declared.outcome.NotStarted.{NotStarted}
use Rattle.rule_lookup.specs.Peers.{Client}
use Rattle.rule_lookup.specs.declared.decision.DecideFault.{DecideFault}
use Rattle.rule_lookup.specs.declared.decision.Decision.{Decision}
use Rattle.rule_lookup.specs.declared.instr.Verdict.{Verdict}
use Rattle.rule_lookup.specs.declared.instr.Verdict.TheVariants.{Allow, Deny}
use Rattle.server_events.specs.declared.event.Event.{Event}
use Rattle.server_events.specs.declared.event.Event.TheVariants.{Decided, Dropped, StartFailed}
use Rattle.tcp_service.specs.Greetings.{IsGreeted}
use Rattle.tcp_service.specs.Openings.{Decides, FailsToDecide, Opening, cause_of}
use Rattle.tcp_service.specs.declared.guest.Identity.{Identity}

-- how a program with these variables may be refused
abbrev pub Refuses : Type 1
Refuses = ProgramText → Variables → NotStarted → Type 0

-- the decision by something that may be found fails, for this cause
pub record FailsFor (finds : Opening → Type 0) (honest sound : Bool) (peer : Client) (why : DropCause) : Type 0 where
  pub found : Opening
  pub was_found : finds found
  pub fault : DecideFault
  pub fails : FailsToDecide honest sound found peer fault
  pub for_it : cause_of fault ≡ why

-- A connection was given up undecided, for a cause that it has: there is a banner, or the decision fails so. A fault of
-- the folder or an event out of turn, and want of memory, need no reason.
abbrev pub GivesUp : (fails : DropCause → Type 0) → (banner : List ℕ) → DropCause → Type 0
GivesUp fails banner cause.Denied = ⊥
GivesUp fails banner cause.Banner = banner ≢ []
GivesUp fails banner cause.Directory = ⊤
GivesUp fails banner cause.ReadFault = fails cause.ReadFault
GivesUp fails banner cause.Damaged = fails cause.Damaged
GivesUp fails banner cause.Memory = ⊤

-- a connection with this plan, and what may be found for it
module _ (finds : (serial : ℕ) → Opening → Type 0) (honest sound : Bool) (identity : Identity) (plan : PlanText) where
  -- By what may be found a connection was decided with this verdict, and this event notes it. These are the variables
  -- that the decision gives.
  pub record IsDecided (event : Event) (verdict : Verdict) (environment : Variables) : Type 0 where
    pub found : Opening
    pub was_found : finds identity.serial found
    pub decision : Decision
    pub by_rules : Decides honest sound found identity.peer decision
    pub noted : event ≡ Decided identity.serial decision
    pub same : verdict ≡ decision.verdict
    pub given : environment ≡ environment_of plan.inherited identity.local identity.peer decision

  -- a program of a connection that this event allows: the plan's, with the variables of that decision
  pub record IsChild (event : Event) (program : ProgramText) (environment : Variables) : Type 0 where
    pub allowed : IsDecided event Allow environment
    pub planned : program ≡ plan.program

  -- the same of some event
  abbrev pub IsDecidedChild : ProgramText → Variables → Type 0
  IsDecidedChild program environment = (event : Event) × IsChild event program environment

  -- the plan's program may be started with the variables of each decision to allow
  abbrev pub MayStart : (may : ProgramText → Variables → Bool) → Type 0
  MayStart may = (event : Event) (environment : Variables)
      → IsDecided event Allow environment → IsTrue (may plan.program environment)

  -- a connection was denied by the decision that this event notes
  pub record IsDenied (event : Event) : Type 0 where
    pub environment : Variables
    pub denied : IsDecided event Deny environment

  -- the plan's program was refused with the variables of the decision to allow that the first event notes, in a way in
  -- which it may be; the second event tells that
  pub record FailsToStart (refuses : Refuses) (event end : Event) : Type 0 where
    pub environment : Variables
    pub allowed : IsDecided event Allow environment
    pub refusal : NotStarted
    pub refused : refuses plan.program environment refusal
    pub told : end ≡ StartFailed identity.serial refusal.fault

  -- A connection was served, and no program of it runs: it was dropped undecided; or by the event that notes its
  -- decision it was denied, or its program could not be started. This event ends it.
  abbrev pub EndsFor : Refuses → (decided : Option Event) → (end : Event) → Type 0
  EndsFor refuses None (Dropped n why) =
      (n ≡ identity.serial) × GivesUp (FailsFor (finds identity.serial) honest sound identity.peer) plan.banner why
  EndsFor refuses (Some event) (Dropped n cause.Denied) = (n ≡ identity.serial) × IsDenied event
  EndsFor refuses (Some event) (StartFailed n fault) = FailsToStart refuses event (StartFailed n fault)
  EndsFor refuses decided end = ⊥

-- the program of a connection may be started once the banner was the last that was written to it, with the variables of
-- each decision to allow a connection
abbrev pub MayStartEach : {X : Type 0} → (finds : (serial : ℕ) → Opening → Type 0) → (honest sound : Bool) → PlanText
    → (contents : X → Option (List ℕ)) → (may : X → ProgramText → Variables → Bool) → Type 0
MayStartEach {X = X} finds honest sound plan contents may =
    (accepted connection : X) (identity : Identity) → IsGreeted contents plan.banner accepted connection
    → MayStart finds honest sound identity plan (may connection)
