-- Receipts of events.
use Rattle.std.specs.Prelude.{ℕ}
use Rattle.server_events.specs.Journals.{one_more}
use Rattle.server_events.specs.declared.event.Event.{Event}
use Rattle.server_yard.specs.Evidence.{made_at, made_by, made_event}
use Rattle.server_yard.specs.declared.evidence.Made.{Made}
use Rattle.whole_yard.specs.declared.receipt.Receipt.{Receipt}

-- the receipt of a caller's event at a position, and of one that follows this many events
abbrev pub receipt_at : ℕ → ℕ → Event → Receipt
receipt_at at who event = record { caller = who; at = at; event = event; seal = tt }

abbrev pub receipt_after : ℕ → ℕ → Event → Receipt
receipt_after count who event = receipt_at (one_more count) who event

-- the receipt of the event that was made
abbrev pub receipt_of : Made → Receipt
receipt_of made = receipt_at (made_at made) (made_by made) (made_event made)
