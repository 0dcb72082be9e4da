-- What a journal tells: the report and the number of the events that were noted, and what it stores of them.
use Rattle.std.specs.Prelude.{◌≡◌, ◌<◌, ◌+◌, ◌-◌, ◌^◌, ℕ, List, [], ◌∷◌, ◌++◌, length, max, min, Bool, true, Option, ⊤, if◌then◌else◌}
use Rattle.server_events.specs.declared.event.Event.{Event}
use Rattle.server_events.specs.declared.report.Report.{Report}
use Rattle.server_events.specs.Reports.{report_of}
use Rattle.server_events.specs.ServerState.{Effect, lets_in, brings, lets_go, ends_all, effect, is_legal, is_retired, start}
use Rattle.server_events.specs.declared.journal.Noted.{Noted}

-- What a journal tells: the report of the noted events, and their number, as far as a u64 counts. If it stores them:
-- the events with their callers, in order.
pub record Books : Type 0 where
  pub report : Report
  pub count : ℕ
  pub notes : Option (List Noted)

-- one more, as far as a u64 counts
abbrev pub one_more : ℕ → ℕ
one_more n = min (n + 1) (2 ^ 64 - 1)

-- the report with one more connection alive
abbrev pub with_newcomer : Report → Report
with_newcomer r = record {
  admitted = one_more r.admitted;
  live = one_more r.live;
  retired = r.retired;
  most = max (one_more r.live) r.most;
}

abbrev pub report_with : Report → Effect → Report
report_with r (lets_in n peer) = with_newcomer r
report_with r (brings n from to) = if is_retired to then record r { retired = one_more r.retired } else r
report_with r (lets_go n from) = record r { live = r.live - 1 }
report_with r ends_all = record r { live = 0; retired = 0 }
report_with r _ = r

-- the report after one more event
abbrev pub next_report : Report → Event → Report
next_report r event = report_with r (effect event)

-- the report and the number are those of a list of events, the number as far as a u64 counts
pub record TellsOf (books : Books) (history : List Event) : Type 0 where
  pub report : books.report ≡ report_of history
  pub number : books.count ≡ min (length history) (2 ^ 64 - 1)

abbrev pub FitsBy : Effect → Type 0
FitsBy (lets_in n peer) = n < 2 ^ 64
FitsBy _ = ⊤

-- the serial of a connection that is let in fits into 64 bits
abbrev pub FitsSerial : Event → Type 0
FitsSerial event = FitsBy (effect event)

-- if the first tell of a list of events that the table allows, with a limit that fits into 64 bits, and this event is
-- allowed after it, the second tell of the list with the event
abbrev pub GoesOn : Books → Event → Books → Type 0
GoesOn books event books' =
    (limit per_address : ℕ) (history : List Event) → limit < 2 ^ 64 → FitsSerial event → TellsOf books history
    → is_legal (start limit per_address) (history ++ event ∷ []) ≡ true → TellsOf books' (history ++ event ∷ [])

-- there is room for as many events as before
abbrev pub HasSameRoom : (old new : ℕ → Bool) → Type 0
HasSameRoom old new = (events : ℕ) → new events ≡ old events

-- there is room for one event more
abbrev pub HasOneMore : (old new : ℕ → Bool) → Type 0
HasOneMore old new = (events : ℕ) → new (events + 1) ≡ old events
