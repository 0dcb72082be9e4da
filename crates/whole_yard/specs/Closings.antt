-- Receipts that are the whole history, or are not.
use Rattle.std.specs.Prelude.{◌≡◌, ◌≢◌, List, Option, None, Some, IsPermutation, length, map}
use Rattle.server_events.specs.declared.journal.Noted.{Noted}
use Rattle.whole_yard.specs.declared.closing.NotWhole.{NotWhole}
use Rattle.whole_yard.specs.Audits.{AreRight, IsFirstWrong, note_of}
use Rattle.whole_yard.specs.declared.receipt.Receipt.{Receipt}

-- a journal stores a history, and they are all of it: each event with its caller, once
abbrev pub IsWhole : Option (List Noted) → List Receipt → Type 0
IsWhole None receipts = ⊥
IsWhole (Some notes) receipts = IsPermutation (map note_of receipts) notes

-- the first receipt that is wrong; or each is right, but there are not as many as events
abbrev pub IsPartOf : List Noted → List Receipt → NotWhole → Type 0
IsPartOf notes receipts (NotWhole.Wrong mismatch) = IsFirstWrong notes receipts mismatch.0
IsPartOf notes receipts NotWhole.Missing = AreRight notes receipts × (length receipts ≢ length notes)
IsPartOf notes receipts NotWhole.OnlyCounted = ⊥

-- the same of what a journal stores; or it stores nothing
abbrev pub IsNotWhole : Option (List Noted) → List Receipt → NotWhole → Type 0
IsNotWhole None receipts why = why ≡ NotWhole.OnlyCounted
IsNotWhole (Some notes) receipts why = IsPartOf notes receipts why
