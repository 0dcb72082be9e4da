-- How a child is waited for.
use Rattle.std.specs.Prelude.{◌≡◌, ◌⊎◌, ◌∷◌, [], Bool, true, false, List, Result}
use Rattle.child_jobs.specs.declared.launch.WaitFault.{WaitFault}
use Rattle.child_jobs.specs.declared.outcome.Status.{Status}

-- what a job says of a kill, of a wait that failed, and of how its program ended
abbrev pub Kills : Type 0 → Type 1
Kills J = J → J → Result (Unit {0}) WaitFault → Type 0

abbrev pub FailsToWait : Type 0 → Type 1
FailsToWait J = J → J → WaitFault → Type 0

abbrev pub EndsAs : Type 0 → Type 1
EndsAs J = J → Status → Type 0

-- a program was killed, whatever that answered
pub record IsKilled {J : Type 0} (kills : Kills J) (old new : J) : Type 0 where
  pub answer : Result (Unit {0}) WaitFault
  pub killed : kills old new answer

-- what a round does before it waits: it kills the program by force, or does nothing
abbrev pub IsReady : {J : Type 0} → Kills J → (by_force : Bool) → (old new : J) → Type 0
IsReady kills true old new = IsKilled kills old new
IsReady kills false old new = new ≡ old

-- a round whose wait failed
pub record RoundFails {J : Type 0} (kills : Kills J) (fails : FailsToWait J) (by_force : Bool) (old new : J) : Type 0 where
  pub waiting : J
  pub ready : IsReady kills by_force old waiting
  pub fault : WaitFault
  pub failed : fails waiting new fault

-- a round whose wait told how the program ended
pub record RoundEnds {J : Type 0} (kills : Kills J) (ends : EndsAs J) (by_force : Bool) (old : J) (status : Status) : Type 0 where
  pub waiting : J
  pub ready : IsReady kills by_force old waiting
  pub told : ends waiting status

-- the first round kills nothing, and the second and the third kill by force
abbrev pub rounds : List Bool
rounds = false ∷ true ∷ true ∷ []

-- all of these rounds failed, one after another
abbrev pub AllFail : {J : Type 0} → Kills J → FailsToWait J → List Bool → J → Type 0
AllFail kills fails [] job = Unit {0}
AllFail {J} kills fails (by_force ∷ later) job = (next : J) × RoundFails kills fails by_force job next × AllFail kills fails later next

-- all but the last of these rounds failed, one after another, and the last one told how the program ended; those behind
-- it did not come
abbrev pub OneEnds : {J : Type 0} → Kills J → FailsToWait J → EndsAs J → List Bool → J → Status → Type 0
OneEnds kills fails ends [] job status = ⊥
OneEnds {J} kills fails ends (by_force ∷ later) job status =
    RoundEnds kills ends by_force job status
    ⊎ ((next : J) × RoundFails kills fails by_force job next × OneEnds kills fails ends later next status)
