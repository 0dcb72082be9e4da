-- What an event makes of a log.
use Rattle.std.specs.Prelude.{◌≡◌, ◌⊎◌, ◌<◌, ◌-◌, ◌^◌, ℕ, List, [], ◌∷◌, ◌++◌, length, Result, Ok, Err}
use Rattle.std.specs.List.{concat}
use Rattle.std.specs.declared.option.Option.{Option}
use Rattle.std.specs.Io.KnownBytes.{Appends}
use Rattle.server_words.specs.declared.level.Level.{Level}
use Rattle.fault_hints.specs.declared.voice.Voice.{Voice}
use Rattle.server_log.specs.declared.fault.LogFault.{LogFault}
use Rattle.server_log.specs.declared.fault.LogFault.TheVariants.{OutOfMemory, OutOfOrder, WriteFault}
use Rattle.server_log.specs.declared.lines.Lines.{Lines}
use Rattle.server_log.specs.declared.log.Log.{Log}

abbrev pub writer_of : {W : Type 0} → Log W → W
writer_of log = log.writer

abbrev pub level_of : {W : Type 0} → Log W → Level
level_of log = log.settings.level

abbrev pub voice_of : {W : Type 0} → Log W → Voice
voice_of log = log.settings.voice

abbrev pub limit_of : {W : Type 0} → Log W → ℕ
limit_of log = log.settings.limit

-- the position of the last event that it was told
abbrev pub last_of : {W : Type 0} → Log W → ℕ
last_of log = log.last

-- what its writer holds, if that is known
abbrev pub held : {W : Type 0} → (W → Option (List ℕ)) → Log W → Option (List ℕ)
held contents log = contents (writer_of log)

-- it is of the same level and voice, and of a server with the same limit
pub record KeepsSettings {W : Type 0} (old new : Log W) : Type 0 where
  pub level : level_of new ≡ level_of old
  pub voice : voice_of new ≡ voice_of old
  pub limit : limit_of new ≡ limit_of old

-- these of the lines are left, whole and in their order
abbrev pub AreLeft : (lines left : List (List ℕ)) → Type 0
AreLeft [] left = left ≡ []
AreLeft (line ∷ lines) left = ((rest : List (List ℕ)) × (left ≡ line ∷ rest) × AreLeft lines rest) ⊎ AreLeft lines left

-- some of these lines are left, but not all
pub record SomeLeft (lines left : List (List ℕ)) : Type 0 where
  pub are : AreLeft lines left
  pub fewer : length left < length lines

-- a front of these bytes, but not all
pub record IsCut (bytes front : List ℕ) : Type 0 where
  pub first : ℕ
  pub more : List ℕ
  pub is : bytes ≡ front ++ first ∷ more

-- What an event with these lines wrote: all of them; those that found memory; or a front of those, if the writer did
-- not take all.
abbrev pub Logged : List (List ℕ) → (old new : Option (List ℕ)) → Result (Unit {0}) LogFault → Type 0
Logged lines old new (Ok done) = Appends old new (concat lines)
Logged lines old new (Err OutOfOrder) = ⊥
Logged lines old new (Err OutOfMemory) = (left : List (List ℕ)) × SomeLeft lines left × Appends old new (concat left)
Logged lines old new (Err WriteFault) =
    (left : List (List ℕ)) × (front : List ℕ) × AreLeft lines left × IsCut (concat left) front × Appends old new front

-- the same of lines that are added to bytes
abbrev pub Adds : {E : Type 0} → List (List ℕ) → (old new : List ℕ) → Result (Unit {0}) E → Type 0
Adds lines old new (Ok done) = new ≡ old ++ concat lines
Adds lines old new (Err e) = (left : List (List ℕ)) × SomeLeft lines left × (new ≡ old ++ concat left)

-- these lines stand here, or those of them that found memory
pub record Holds (lines : List (List ℕ)) (held : Lines) : Type 0 where
  pub adds : Adds lines [] held.bytes.items held.added

-- the same of bytes that are written
abbrev pub Takes : List ℕ → (old new : Option (List ℕ)) → Result (Unit {0}) LogFault → Type 0
Takes bytes old new (Ok done) = Appends old new bytes
Takes bytes old new (Err OutOfMemory) = ⊥
Takes bytes old new (Err OutOfOrder) = ⊥
Takes bytes old new (Err WriteFault) = (front : List ℕ) × IsCut bytes front × Appends old new front

-- One position is later than another. A history that is only counted has one number for all of its events from the 2^64 - 1st on.
abbrev pub IsLater : (old at : ℕ) → Type 0
IsLater old at = (old < at) ⊎ (at ≡ 2 ^ 64 - 1)

-- a log that was told events up to one position tells an event at a later position, and then was told up to there; or it
-- refuses an event that isn't later
abbrev pub TellsInOrder : (old at new : ℕ) → Result (Unit {0}) LogFault → Type 0
TellsInOrder old at new (Err OutOfOrder) = ¬ IsLater old at × (new ≡ old)
TellsInOrder old at new told = IsLater old at × (new ≡ at)
