-- What a journal is made of, and what it tells.
use Rattle.std.specs.Prelude.{ℕ, Bool, true, List, Option, None, Some, nat_le}
use Rattle.std.specs.Option.{option_map}
use Rattle.server_events.specs.Journals.{Books}
use Rattle.server_events.specs.declared.journal.Journal.{Journal}
use Rattle.server_events.specs.declared.journal.Noted.{Noted}
use Rattle.server_events.specs.declared.journal.Stored.{Stored}

-- the events that it stores, with their callers, in order; if it stores any
abbrev pub notes_of : Option Stored → Option (List Noted)
notes_of stored = option_map (λ s. s.notes.items) stored

-- what it tells
abbrev pub books_of_journal : Journal → Books
books_of_journal journal = record {
  report = journal.report;
  count = journal.events;
  notes = notes_of journal.stored;
}

-- whether what it stores has room for this many events more; one that stores none needs none
abbrev pub has_room_in : Option Stored → ℕ → Bool
has_room_in None events = true
has_room_in (Some stored) events = nat_le events stored.credit

-- whether there is room for this many events more
abbrev pub has_room : Journal → ℕ → Bool
has_room journal events = has_room_in journal.stored events
