-- The report of a list of events, and when there is none.
use Rattle.std.specs.Prelude.{◌≡◌, ℕ, ◌+◌, ◌-◌, List, [], ◌∷◌, ◌++◌, Bool, true, false, Option, Some, None, is_some, option_map, length, map, take, max, if◌then◌else◌}
use Rattle.std.specs.List.{count_by, range_with_len}
use Rattle.server_events.specs.declared.event.Event.{Event}
use Rattle.server_events.specs.declared.report.Report.{Report}
use Rattle.server_events.specs.declared.report.ReplayFault.{ReplayFault}
use Rattle.server_events.specs.declared.report.ReplayFault.TheVariants.{IllegalEvent, OutOfMemory}
use Rattle.server_events.specs.Live.{admission, live_of, retired_of}
use Rattle.server_events.specs.ServerState.{ServerState, after, is_legal, may_happen}

abbrev pub is_admission : Event → Bool
is_admission e = is_some (admission e)

-- the greatest of some numbers, 0 of none
abbrev pub greatest : List ℕ → ℕ
greatest [] = 0
greatest (n ∷ ns) = max n (greatest ns)

-- the greatest number of connections alive after the first k events, for k from 0 to the number of events
abbrev pub most_of : List Event → ℕ
most_of history =
    greatest (map (λ (k : ℕ). length (live_of (take k history))) (range_with_len 0 (length history + 1)))

abbrev pub report_of : List Event → Report
report_of history = record {
  admitted = count_by is_admission history;
  live = length (live_of history);
  retired = length (retired_of history);
  most = most_of history;
}

-- event i, counted from 1, is the first that may not happen there
pub record IsFirstIllegal (w : ServerState) (history : List Event) (i : ℕ) : Type 0 where
  pub before : is_legal w (take (i - 1) history) ≡ true
  pub with_it : is_legal w (take i history) ≡ false

-- the position of that event, if there is one
abbrev pub first_illegal : ServerState → List Event → Option ℕ
first_illegal w [] = None
first_illegal w (e ∷ es) =
    if may_happen w e then option_map (λ i. i + 1) (first_illegal (after w e) es) else Some 1

-- there was no memory at event k, counted from 1: it lets a connection in, and may happen there, as each before it may
pub record WantsMemory (w : ServerState) (history : List Event) : Type 0 where
  pub k : ℕ
  pub event : Event
  pub event_k : take k history ≡ take (k - 1) history ++ event ∷ []
  pub lets_in : is_admission event ≡ true
  pub legal : is_legal w (take k history) ≡ true

-- why a list of events has no report: an event may not happen, or there was no memory for a connection that was let in
abbrev pub RefusesReplay : ServerState → List Event → ReplayFault → Type 0
RefusesReplay w history (IllegalEvent i) = IsFirstIllegal w history i
RefusesReplay w history OutOfMemory = WantsMemory w history
