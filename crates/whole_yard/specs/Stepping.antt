-- The events that steps of installations are.
use Rattle.std.specs.Prelude.{◌≡◌, ◌-◌, ◌++◌, ◌∷◌, ⊤, ℕ, Bool, true, false, List, [], length, take, Option, None, Some, Result, Ok, Err, option_map}
use Rattle.rule_lookup.specs.Pairs.{Rule}
use Rattle.rules_install.specs.Installing.{Installing, next_phase}
use Rattle.rules_install.specs.Steps.{Goes}
use Rattle.dir_calls.specs.declared.phase.Phase.{Phase}
use Rattle.dir_calls.specs.declared.phase.Phase.TheVariants.{Fresh, Done}
use Rattle.rules_install.specs.declared.fault.InstallFault.{InstallFault}
use Rattle.rules_install.specs.declared.fault.InstallFault.TheVariants.{Disk}
use Rattle.server_events.specs.ServerState.{ServerState, may_come}
use Rattle.server_events.specs.declared.event.Event.{Event}
use Rattle.server_events.specs.declared.event.Event.TheVariants.{Stepped, StepFailed}

-- the event of a step that met a fault: that it failed, if the fault is the directory's; otherwise none
abbrev pub fault_event : InstallFault → Option Event
fault_event (Disk fault phase) = Some (StepFailed phase)
fault_event fault = None

-- the event of a step, by its answer
abbrev pub step_event : Result Phase InstallFault → Option Event
step_event (Ok phase) = Some (Stepped phase)
step_event (Err fault) = fault_event fault

-- what a first step answers: the number of the installation, or the installation with the fault that it met
abbrev pub BeginAnswer : Type 0 → Type 0
BeginAnswer I = Result ℕ (I × InstallFault)

-- the event of a first step, by its answer
abbrev pub begin_event : {I : Type 0} → BeginAnswer I → Option Event
begin_event (Ok number) = Some (Stepped Fresh)
begin_event (Err refused) = fault_event refused.1

-- the event of a call that steps an installation, if one is under way
abbrev pub event_of_step : Option Installing → Result Phase InstallFault → Option Event
event_of_step None result = None
event_of_step (Some s) result = step_event result

-- whether a fault is the directory's
abbrev pub is_of_disk : InstallFault → Bool
is_of_disk (Disk fault phase) = true
is_of_disk fault = false

-- a step to this phase may fail now
abbrev pub MayFail : ServerState → InstallFault → Type 0
MayFail server (Disk fault phase) = may_come server.phase phase ≡ true
MayFail server fault = ⊤

-- the installation that is kept after a step, by its answer: none if it is done or met a fault of the directory
abbrev pub kept_then : Installing → Result Phase InstallFault → Option Installing
kept_then s (Ok Done) = None
kept_then s (Ok phase) = Some s
kept_then s (Err (Disk fault phase)) = None
kept_then s (Err fault) = Some s

-- the number of the installation that is kept after a fault: none if the fault is the directory's
abbrev pub kept_after_fault : InstallFault → Option ℕ → Option ℕ
kept_after_fault (Disk fault phase) kept = None
kept_after_fault fault kept = kept

-- whether an installation is kept after a step
abbrev pub is_kept_after : Result Phase InstallFault → Bool
is_kept_after (Err (Disk fault phase)) = false
is_kept_after result = true

abbrev pub kept_after_step : Result Phase InstallFault → Option ℕ → Option ℕ
kept_after_step (Ok phase) kept = kept
kept_after_step (Err fault) kept = kept_after_fault fault kept

abbrev pub kept_after_begin : {I : Type 0} → BeginAnswer I → Option ℕ → Option ℕ
kept_after_begin (Ok number) kept = Some number
kept_after_begin (Err refused) kept = kept_after_fault refused.1 kept

-- the number of the last installation that made its first step
abbrev pub last_begun_after : {I : Type 0} → BeginAnswer I → ℕ → ℕ
last_begun_after (Ok number) last = number
last_begun_after (Err refused) last = last

-- a list but for its last
abbrev pub without_last : {X : Type 0} → List X → List X
without_last xs = take (length xs - 1) xs

-- the lists of rules that are stored: one more if an installation made its first step
abbrev pub lists_after_begin : {I : Type 0} → BeginAnswer I → List Rule → Option (List (List Rule)) → Option (List (List Rule))
lists_after_begin (Ok number) rules lists = option_map (λ all. all ++ rules ∷ []) lists
lists_after_begin (Err refused) rules lists = lists

-- an installation is refused with this fault
abbrev pub IsRefusedAs : {N I : Type 0} → InstallFault → Result N (I × InstallFault) → Type 0
IsRefusedAs fault (Ok number) = ⊥
IsRefusedAs fault (Err refused) = refused.1 ≡ fault

-- a refused installation is handed back: over after a fault of the directory, and otherwise as it was
abbrev pub HandsBack : Installing → Installing → InstallFault → Type 0
HandsBack s t (Disk fault phase) = t.over ≡ true
HandsBack s t fault = t ≡ s

-- a step answers as the installation does, which is kept as far as it has come
pub record GoesAsStep (s : Installing) (kept_now : Option Installing) (result : Result Phase InstallFault) : Type 0 where
  pub after_it : Installing
  pub goes : Goes (next_phase s) s after_it result
  pub kept : kept_now ≡ kept_then after_it result
