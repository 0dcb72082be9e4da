-- The state that events lead to, which events may happen there, and the table of events as a relation.
use Rattle.std.specs.Prelude.{◌≡◌, ℕ, ◌+◌, List, [], ◌∷◌, ◌++◌, Bool, true, false, ◌&&◌, ◌==◌, nat_lt, Option, Some, None, length, if◌then◌else◌, bytes_eq, ◌<◌, ◌≤◌}
use Rattle.std.specs.List.{count_by}
use Rattle.rule_lookup.specs.Peers.{Client}
use Rattle.dir_calls.specs.declared.phase.Phase.{Phase}
use Rattle.dir_calls.specs.declared.phase.Phase.TheVariants.{Fresh, Filling, Synced, Named, Done}
use Rattle.rule_lookup.specs.declared.decision.Decision.{Decision}
use Rattle.server_events.specs.declared.event.Stage.{Stage}
use Rattle.server_events.specs.declared.event.Event.{Event}
use Rattle.server_events.specs.declared.event.Event.TheVariants.{Admitted, Opened, Decided, Started, StartFailed, Ended, Retired, Dropped, Stepped, StepFailed, Stop}
use Rattle.server_events.specs.declared.state.Connection.{Connection}
use Rattle.rule_lookup.specs.declared.instr.Verdict.{Verdict}
use Rattle.rule_lookup.specs.declared.instr.Verdict.TheVariants.{Allow}
use Rattle.child_jobs.specs.declared.outcome.DropCause.{DropCause}
use Rattle.child_jobs.specs.declared.outcome.StartFault.{StartFault}
use Rattle.child_jobs.specs.declared.outcome.Status.{Status}
use Rattle.rule_lookup.specs.declared.instr.Verdict.TheVariants as verdict
use Rattle.server_events.specs.declared.event.Stage.TheVariants as stage

-- the limits, the last serial, the connections that are alive, and the phase of the installation under way
pub record ServerState : Type 0 where
  pub limit : ℕ
  pub per_address : ℕ
  pub last : ℕ
  pub connections : List Connection
  pub phase : Option Phase

-- no connection, and no installation under way
abbrev pub start : ℕ → ℕ → ServerState
start limit per_address =
    record { limit = limit; per_address = per_address; last = 0; connections = []; phase = None }

-- the stage of the connection with this serial
abbrev pub stage_of : ℕ → List Connection → Option Stage
stage_of n [] = None
stage_of n (c ∷ cs) = if c.serial == n then Some c.stage else stage_of n cs

-- the connection with this serial has another stage
abbrev pub with_stage : ℕ → Stage → List Connection → List Connection
with_stage n s [] = []
with_stage n s (c ∷ cs) = if c.serial == n then (record c { stage = s }) ∷ cs else c ∷ with_stage n s cs

-- the connection with this serial is gone
abbrev pub without : ℕ → List Connection → List Connection
without n [] = []
without n (c ∷ cs) = if c.serial == n then cs else c ∷ without n cs

-- how many connections come from an address
abbrev pub count_from : List ℕ → List Connection → ℕ
count_from ip cs = count_by (λ (c : Connection). bytes_eq c.peer.ip ip) cs

abbrev pub is_admitted : Option Stage → Bool
is_admitted (Some stage.Admitted) = true
is_admitted _ = false

abbrev pub is_opened : Option Stage → Bool
is_opened (Some stage.Opened) = true
is_opened _ = false

-- decided, and allowed
abbrev pub is_allowed : Option Stage → Bool
is_allowed (Some (stage.Decided verdict.Allow)) = true
is_allowed _ = false

abbrev pub is_started : Option Stage → Bool
is_started (Some stage.Started) = true
is_started _ = false

-- admitted, opened or decided: no child was started yet
abbrev pub is_unstarted : Option Stage → Bool
is_unstarted (Some stage.Admitted) = true
is_unstarted (Some stage.Opened) = true
is_unstarted (Some (stage.Decided v)) = true
is_unstarted _ = false

abbrev pub is_retired : Stage → Bool
is_retired stage.Retired = true
is_retired _ = false

-- whether a phase may come next, after the one before
abbrev pub may_come : Option Phase → Phase → Bool
may_come before Fresh = true
may_come (Some Fresh) Filling = true
may_come (Some Filling) Filling = true
may_come (Some Filling) Synced = true
may_come (Some Synced) Named = true
may_come (Some Named) Done = true
may_come _ _ = false

-- after the last phase no installation is under way
abbrev pub phase_after : Phase → Option Phase
phase_after Done = None
phase_after p = Some p

-- the next serial, with room below both limits
abbrev pub may_admit : ServerState → ℕ → Client → Bool
may_admit w n peer =
    (n == w.last + 1) && nat_lt (length w.connections) w.limit && nat_lt (count_from peer.ip w.connections) w.per_address

-- a connection that was just let in
abbrev pub newcomer : ℕ → Client → Connection
newcomer n peer = record { serial = n; peer = peer; stage = stage.Admitted }

-- An effect of an event on the state. It lets a connection in, or has it open the rules, or decides it, or brings it
-- from a stage to another, or lets it go from a stage. Or it brings the installation to a phase, or fails on the way
-- there. Or it ends all.
pub data Effect : Type 0 where
  lets_in : ℕ → Client → Effect
  opens : ℕ → Bool → Effect
  decides : ℕ → Decision → Effect
  brings : ℕ → (Option Stage → Bool) → Stage → Effect
  lets_go : ℕ → (Option Stage → Bool) → Effect
  comes_to : Phase → Effect
  fails_at : Phase → Effect
  ends_all : Effect

abbrev pub effect : Event → Effect
effect (Admitted n peer) = lets_in n peer
effect (Opened n there) = opens n there
effect (Decided n decision) = decides n decision
effect (Started n) = brings n is_allowed stage.Started
effect (StartFailed n fault) = lets_go n is_allowed
effect (Ended n status) = lets_go n is_started
effect (Retired n) = brings n is_started stage.Retired
effect (Dropped n cause) = lets_go n is_unstarted
effect (Stepped phase) = comes_to phase
effect (StepFailed phase) = fails_at phase
effect Stop = ends_all

abbrev pub may_have : ServerState → Effect → Bool
may_have w (lets_in n peer) = may_admit w n peer
may_have w (opens n there) = is_admitted (stage_of n w.connections)
may_have w (decides n decision) = is_opened (stage_of n w.connections)
may_have w (brings n from to) = from (stage_of n w.connections)
may_have w (lets_go n from) = from (stage_of n w.connections)
may_have w (comes_to phase) = may_come w.phase phase
may_have w (fails_at phase) = may_come w.phase phase
may_have w ends_all = true

abbrev pub with_effect : ServerState → Effect → ServerState
with_effect w (lets_in n peer) = record w { last = n; connections = w.connections ++ newcomer n peer ∷ [] }
with_effect w (opens n there) = record w { connections = with_stage n stage.Opened w.connections }
with_effect w (decides n decision) = record w { connections = with_stage n (stage.Decided decision.verdict) w.connections }
with_effect w (brings n from to) = record w { connections = with_stage n to w.connections }
with_effect w (lets_go n from) = record w { connections = without n w.connections }
with_effect w (comes_to phase) = record w { phase = phase_after phase }
with_effect w (fails_at phase) = record w { phase = None }
with_effect w ends_all = record w { connections = []; phase = None }

-- an event may happen if its effect may be had, and leads to the state with it
abbrev pub may_happen : ServerState → Event → Bool
may_happen w event = may_have w (effect event)

abbrev pub after : ServerState → Event → ServerState
after w event = with_effect w (effect event)

-- each event may happen in the state that the events before it lead to
abbrev pub is_legal : ServerState → List Event → Bool
is_legal w [] = true
is_legal w (e ∷ es) = may_happen w e && is_legal (after w e) es

abbrev pub state_after : ServerState → List Event → ServerState
state_after w [] = w
state_after w (e ∷ es) = state_after (after w e) es

-- the events may happen one after the other, and lead there
abbrev pub IsLegalTo : ServerState → List Event → ServerState → Type 0
IsLegalTo w history v = (is_legal w history ≡ true) × (v ≡ state_after w history)

-- a list of events that the table allows from the start on, with these limits
pub record AllowedHistory : Type 0 where
  pub limit : ℕ
  pub per_address : ℕ
  pub events : List Event
  pub allowed : is_legal (start limit per_address) events ≡ true

-- the connections that it leads to
abbrev pub connections_after : AllowedHistory → List Connection
connections_after h = (state_after (start h.limit h.per_address) h.events).connections

-- whether the connection n is gone by this event: its start failed, or it ended, or it was dropped
abbrev pub ends : ℕ → Event → Bool
ends n (StartFailed m fault) = n == m
ends n (Ended m status) = n == m
ends n (Dropped m cause) = n == m
ends n _ = false

-- whether the connection n is retired by this event
abbrev pub retires : ℕ → Event → Bool
retires n (Retired m) = n == m
retires n _ = false

-- the phases: a fresh file at any time, in place of an installation under way; then the others in order
pub data Follows : Option Phase → Phase → Type 0 where
  fresh : {before : Option Phase} → Follows before Fresh
  filling : Follows (Some Fresh) Filling
  filling_on : Follows (Some Filling) Filling
  synced : Follows (Some Filling) Synced
  named : Follows (Some Synced) Named
  done : Follows (Some Named) Done

-- the stages before a child was started
pub data IsUnstarted : Stage → Type 0 where
  not_opened : IsUnstarted stage.Admitted
  not_decided : IsUnstarted stage.Opened
  not_started : {v : Verdict} → IsUnstarted (stage.Decided v)

-- the connection with this serial has this stage
abbrev pub HasStage : ServerState → ℕ → Stage → Type 0
HasStage w n s = stage_of n w.connections ≡ Some s

-- as many are alive as may be
abbrev pub IsFull : ServerState → Type 0
IsFull w = w.limit ≤ length w.connections

-- as many from one address are alive as may be
abbrev pub IsFullFor : ServerState → List ℕ → Type 0
IsFullFor w ip = w.per_address ≤ count_from ip w.connections

-- an event leads from one state to the next
pub data Happens : ServerState → Event → ServerState → Type 0 where
  admitted : {w : ServerState} {n : ℕ} {peer : Client} → n ≡ w.last + 1 → length w.connections < w.limit
      → count_from peer.ip w.connections < w.per_address
      → Happens w (Admitted n peer) (record w { last = n; connections = w.connections ++ newcomer n peer ∷ [] })
  opened : {w : ServerState} {n : ℕ} {there : Bool} → HasStage w n stage.Admitted
      → Happens w (Opened n there) (record w { connections = with_stage n stage.Opened w.connections })
  decided : {w : ServerState} {n : ℕ} {d : Decision} → HasStage w n stage.Opened
      → Happens w (Decided n d) (record w { connections = with_stage n (stage.Decided d.verdict) w.connections })
  started : {w : ServerState} {n : ℕ} → HasStage w n (stage.Decided Allow)
      → Happens w (Started n) (record w { connections = with_stage n stage.Started w.connections })
  start_failed : {w : ServerState} {n : ℕ} {fault : StartFault} → HasStage w n (stage.Decided Allow)
      → Happens w (StartFailed n fault) (record w { connections = without n w.connections })
  ended : {w : ServerState} {n : ℕ} {status : Status} → HasStage w n stage.Started
      → Happens w (Ended n status) (record w { connections = without n w.connections })
  retired : {w : ServerState} {n : ℕ} → HasStage w n stage.Started
      → Happens w (Retired n) (record w { connections = with_stage n stage.Retired w.connections })
  dropped : {w : ServerState} {n : ℕ} {cause : DropCause} {s : Stage} → HasStage w n s → IsUnstarted s
      → Happens w (Dropped n cause) (record w { connections = without n w.connections })
  stepped : {w : ServerState} {p : Phase} → Follows w.phase p → Happens w (Stepped p) (record w { phase = phase_after p })
  failed : {w : ServerState} {p : Phase} → Follows w.phase p → Happens w (StepFailed p) (record w { phase = None })
  stop : {w : ServerState} → Happens w Stop (record w { connections = []; phase = None })

-- a list of events leads from one state to another
pub data Runs : ServerState → List Event → ServerState → Type 0 where
  none : {w : ServerState} → Runs w [] w
  more : {u v w : ServerState} {e : Event} {es : List Event} → Happens u e v → Runs v es w → Runs u (e ∷ es) w

-- the peer of the connection with this serial
abbrev pub peer_of : ℕ → List Connection → Option Client
peer_of n [] = None
peer_of n (c ∷ cs) = if c.serial == n then Some c.peer else peer_of n cs

abbrev pub of_connections : Effect → Bool
of_connections (comes_to phase) = false
of_connections (fails_at phase) = false
of_connections ends_all = false
of_connections _ = true

-- an event of a connection
abbrev pub is_connections : Event → Bool
is_connections event = of_connections (effect event)

abbrev pub of_installations : Effect → Bool
of_installations (comes_to phase) = true
of_installations (fails_at phase) = true
of_installations _ = false

-- an event of an installation; one that is killed within a call fails there
abbrev pub is_installations : Event → Bool
is_installations event = of_installations (effect event)
