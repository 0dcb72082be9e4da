-- Receipts against a history.
use Rattle.std.specs.Prelude.{◌≡◌, ◌≢◌, ◌==◌, ◌-◌, ◌<◌, ℕ, All, List, Option, IfSome, None, Some, if◌then◌else◌, length, slice_get, take}
use Rattle.server_events.specs.declared.journal.Noted.{Noted}
use Rattle.whole_yard.specs.declared.receipt.Receipt.{Receipt}

-- what a receipt says of a history: this event, by this caller
abbrev pub note_of : Receipt → Noted
note_of r = record { event = r.event; caller = r.caller }

-- the event at a position, counted from 1, with its caller
abbrev pub note_at : List Noted → ℕ → Option Noted
note_at notes at = if at == 0 then None else slice_get notes (at - 1)

-- its event and its caller stand at its position
abbrev pub StandsAtItsPosition : List Noted → Receipt → Type 0
StandsAtItsPosition notes r = note_at notes r.at ≡ Some (note_of r)

-- its position is above those of its caller's earlier receipts
abbrev pub IsAbove : List Receipt → Receipt → Type 0
IsAbove earlier r = All (λ (e : Receipt). e.caller ≡ r.caller → e.at < r.at) earlier

-- a receipt of a list is right
abbrev pub IsRight : List Noted → List Receipt → ℕ → Type 0
IsRight notes receipts i = IfSome (slice_get receipts i) (λ r. StandsAtItsPosition notes r × IsAbove (take i receipts) r)

-- all before this one are
abbrev pub AreRightBefore : List Noted → List Receipt → ℕ → Type 0
AreRightBefore notes receipts n = (i : ℕ) → i < n → IsRight notes receipts i

abbrev pub AreRight : List Noted → List Receipt → Type 0
AreRight notes receipts = AreRightBefore notes receipts (length receipts)

-- the first receipt of a list that is wrong
pub record IsFirstWrong (notes : List Noted) (receipts : List Receipt) (n : ℕ) : Type 0 where
  pub within : n < length receipts
  pub wrong : ¬ IsRight notes receipts n
  pub others : AreRightBefore notes receipts n

-- the positions of each caller's receipts rise
abbrev pub Rise : List Receipt → Type 0
Rise receipts = (i : ℕ) → i < length receipts → IfSome (slice_get receipts i) (IsAbove (take i receipts))

-- none of the receipts' callers made an event
abbrev pub IsByAnother : List Receipt → Noted → Type 0
IsByAnother receipts n = All (λ (r : Receipt). r.caller ≢ n.caller) receipts

-- none of the receipts' callers made one of the first events
abbrev pub AreOthersUpTo : ℕ → List Noted → List Receipt → Type 0
AreOthersUpTo count notes receipts = (i : ℕ) (n : Noted) → i < count → slice_get notes i ≡ Some n → IsByAnother receipts n
