-- Events, and lists of events, in the words of a script.
use Rattle.std.specs.Prelude.{ℕ, Bool, true, false, List, [], ◌∷◌, Option, Some, None, option_map, option_and_then, ◌++◌, codes, bytes_eq, if◌then◌else◌}
use Rattle.rule_lookup.specs.declared.instr.Verdict.{Verdict}
use Rattle.rule_lookup.specs.declared.instr.Verdict.TheVariants.{Allow, Deny}
use Rattle.rule_lookup.specs.Addresses.{ipv4_in}
use Rattle.rule_lookup.specs.Peers.{Client}
use Rattle.rule_lookup.specs.declared.decision.Decision.{Decision}
use Rattle.rule_lookup.specs.declared.decision.Found.TheVariants as found
use Rattle.child_jobs.specs.declared.outcome.DropCause.TheVariants as cause
use Rattle.child_jobs.specs.declared.outcome.StartFault.TheVariants as fault
use Rattle.child_jobs.specs.declared.outcome.Status.{Status}
use Rattle.child_jobs.specs.declared.outcome.Status.TheVariants as status
use Rattle.dir_calls.specs.declared.phase.Phase.{Phase}
use Rattle.dir_calls.specs.declared.phase.Phase.TheVariants.{Fresh, Filling, Synced, Named, Done}
use Rattle.server_events.specs.declared.event.Event.{Event}
use Rattle.server_events.specs.declared.event.Event.TheVariants.{Admitted, Opened, Decided, Started, StartFailed, Ended, Retired, Dropped, Stepped, StepFailed, Stop}
use Rattle.server_words.specs.Numbers.{number_in}

-- the serial that a word is
abbrev pub serial_in : List ℕ → Option ℕ
serial_in word = number_in word 0 18446744073709551615

-- whether the rules file was there
abbrev pub there_in : List ℕ → Option Bool
there_in word =
    if bytes_eq word (codes "yes") then Some true
    else (if bytes_eq word (codes "no") then Some false else None)

abbrev pub verdict_in : List ℕ → Option Verdict
verdict_in word =
    if bytes_eq word (codes "allow") then Some Allow
    else (if bytes_eq word (codes "deny") then Some Deny else None)

-- an exit code, or `signal`
abbrev pub status_in : List ℕ → Option Status
status_in word =
    if bytes_eq word (codes "signal") then Some status.Signal
    else option_map status.Code (number_in word 0 255)

abbrev pub phase_in : List ℕ → Option Phase
phase_in word =
    if bytes_eq word (codes "fresh") then Some Fresh
    else (if bytes_eq word (codes "filling") then Some Filling
    else (if bytes_eq word (codes "synced") then Some Synced
    else (if bytes_eq word (codes "named") then Some Named
    else (if bytes_eq word (codes "done") then Some Done else None))))

-- a peer of an event has an address alone
abbrev pub peer_from : List ℕ → Client
peer_from ip = record { ip = ip; port = 0; host = None; info = None }

-- a decision of an event has a verdict alone
abbrev pub decision_with : Verdict → Decision
decision_with verdict = record { found = found.Default; verdict = verdict; settings = [] }

-- an event of a connection that has no words more; the fault of a failed start is `Other`, and the cause of a drop the directory
abbrev pub serial_event : List ℕ → ℕ → Option Event
serial_event name n =
    if bytes_eq name (codes "started") then Some (Started n)
    else (if bytes_eq name (codes "startfailed") then Some (StartFailed n fault.Other)
    else (if bytes_eq name (codes "retired") then Some (Retired n)
    else (if bytes_eq name (codes "dropped") then Some (Dropped n cause.Directory) else None)))

-- an event with one word: a phase of an installation, or the serial of a connection
abbrev pub event_with : List ℕ → List ℕ → Option Event
event_with name word =
    if bytes_eq name (codes "phase") then option_map Stepped (phase_in word)
    else (if bytes_eq name (codes "failed") then option_map StepFailed (phase_in word)
    else option_and_then (serial_event name) (serial_in word))

-- an event of a connection that has a word more
abbrev pub other_event : List ℕ → ℕ → List ℕ → Option Event
other_event name n word =
    if bytes_eq name (codes "opened") then option_map (Opened n) (there_in word)
    else (if bytes_eq name (codes "decided") then option_map (λ verdict. Decided n (decision_with verdict)) (verdict_in word)
    else (if bytes_eq name (codes "ended") then option_map (Ended n) (status_in word) else None))

abbrev pub serial_and_word : List ℕ → ℕ → List ℕ → Option Event
serial_and_word name n word =
    if bytes_eq name (codes "admitted") then option_map (λ ip. Admitted n (peer_from ip)) (ipv4_in word)
    else other_event name n word

-- the event that words are
abbrev pub event_in : List (List ℕ) → Option Event
event_in (name ∷ []) = if bytes_eq name (codes "stop") then Some Stop else None
event_in (name ∷ word ∷ []) = event_with name word
event_in (name ∷ serial ∷ word ∷ []) = option_and_then (λ n. serial_and_word name n word) (serial_in serial)
event_in words = None

-- a limit of a list of events
abbrev pub limit_in : List ℕ → Option ℕ
limit_in word = number_in word 1 10000

-- a list of events under a limit and a limit per address
pub record History : Type 0 where
  pub limit : ℕ
  pub per_address : ℕ
  pub events : List Event

-- a list with an event more
abbrev pub with_event : Event → History → History
with_event event history = record history { events = history.events ++ event ∷ [] }
