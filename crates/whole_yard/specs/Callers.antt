-- The callers of a whole site, their turns, and what these add to their shares.
use Rattle.std.specs.Prelude.{◌≡◌, ◌+◌, ◌⊎◌, ℕ}
use Rattle.server_events.specs.Journals.{one_more}
use Rattle.server_events.specs.declared.event.Event.{Event}
use Rattle.server_yard.specs.Rolls.{Notes, Roll}
use Rattle.whole_yard.specs.declared.caller.Caller.{Caller}
use Rattle.whole_yard.specs.declared.caller.NewCallers.{NewCallers}

-- its number
abbrev pub caller_number : {N : Type 0} {l : _} → Caller N l → ℕ
caller_number caller = caller.number

-- how many events it made
abbrev pub caller_share : {N : Type 0} {l : _} → Caller N l → ℕ
caller_share caller = caller.share.amount

-- how many callers nobody has yet
abbrev pub new_count : {N : Type 0} {l : _} → NewCallers N l → ℕ
new_count callers = callers.count

-- the same with another speaker
abbrev pub spoken_by : ℕ → Roll → Roll
spoken_by who roll = record roll { speaker = who }

-- an event that may happen now does, and is noted as this caller's
abbrev pub NotesBy : ℕ → Event → (old new : Roll) → Type 0
NotesBy who event old new = Notes event (spoken_by who old) new

-- a turn makes one event or none; a journal that only counts stays at its last number
abbrev pub CountsAtMostOne : (old new : ℕ) → Type 0
CountsAtMostOne old new = (new ≡ old) ⊎ (new ≡ one_more old)

-- a turn answered its caller after this many events, and the caller's share has grown by as many events as the turn
-- made
pub record CountsForIts {T N : Type 0} {l : _} (answers : ℕ → ℕ → T → ℕ → Type 0) (answer : T) (old new : Caller N l) : Type 0 where
  pub before : ℕ
  pub after : ℕ
  pub answered : answers (caller_number old) before answer after
  pub counted : caller_share new + before ≡ caller_share old + after
  pub same_number : caller_number new ≡ caller_number old
