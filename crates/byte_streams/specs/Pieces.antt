-- What the parts of a pump do, read by read.
use Rattle.std.specs.Prelude.{◌≡◌, ◌≤◌, ℕ, Bool, List, [], ◌∷◌, length, Result, Ok, Err, IfErr, ⊤}
use Rattle.std.specs.List.{concat}
use Rattle.std.specs.declared.option.Option.{Option}
use Rattle.std.specs.Io.KnownBytes.{Appends, Consumes}
use Rattle.byte_streams.specs.declared.chain.Chain.{Chain}
use Rattle.byte_streams.specs.declared.recording.Way.{Way}
use Rattle.byte_streams.specs.declared.recording.Way.TheVariants.{Input, Output}
use Rattle.byte_streams.specs.Pumps.{Ends, Gave, IsWritten, KnownBytes, ends_of, is_end, pieces_by}
use Rattle.byte_streams.specs.Wrappers.{Writing}
use Rattle.byte_streams.specs.Taps.{Shown}
use Rattle.byte_streams.specs.declared.pumping.Why.{Why}
use Rattle.byte_streams.specs.declared.pumping.Why.TheVariants.{End, ReadFault, WriteFault, ZeroWrite, ReadsOver, Failed, OutOfMemory}

-- the pieces that a tap of the first way is shown of a piece that goes the second way
abbrev pub pieces_of : Way → Way → List ℕ → List (List ℕ)
pieces_of Input Input piece = piece ∷ []
pieces_of Input Output piece = []
pieces_of Output Input piece = []
pieces_of Output Output piece = piece ∷ []

-- why a pump would end here: if a part of it tells no reason, because no reads are left
abbrev pub why_of : Result (Unit {0}) Why → Why
why_of (Ok _) = ReadsOver
why_of (Err why) = why

-- the writer is the reason
abbrev pub IsOfWriter : Why → Type 0
IsOfWriter End = ⊥
IsOfWriter ReadFault = ⊥
IsOfWriter WriteFault = ⊤
IsOfWriter ZeroWrite = ⊤
IsOfWriter ReadsOver = ⊥
IsOfWriter Failed = ⊥
IsOfWriter OutOfMemory = ⊥

-- a chain that had not failed is finished, or had no memory
abbrev pub IsOfEnd : Why → Type 0
IsOfEnd End = ⊤
IsOfEnd ReadFault = ⊥
IsOfEnd WriteFault = ⊤
IsOfEnd ZeroWrite = ⊤
IsOfEnd ReadsOver = ⊥
IsOfEnd Failed = ⊥
IsOfEnd OutOfMemory = ⊤

-- a read with a chain that had not failed is the reason
abbrev pub IsOfPiece : Why → Type 0
IsOfPiece End = ⊤
IsOfPiece ReadFault = ⊤
IsOfPiece WriteFault = ⊤
IsOfPiece ZeroWrite = ⊤
IsOfPiece ReadsOver = ⊥
IsOfPiece Failed = ⊥
IsOfPiece OutOfMemory = ⊤

-- between two reads, and if a read failed, the chain can go on as before
abbrev pub StaysOpen : Why → (old new : Bool) → Type 0
StaysOpen End old new = ⊤
StaysOpen ReadFault old new = new ≡ old
StaysOpen WriteFault old new = ⊤
StaysOpen ZeroWrite old new = ⊤
StaysOpen ReadsOver old new = new ≡ old
StaysOpen Failed old new = ⊤
StaysOpen OutOfMemory old new = ⊤

-- bytes were given to a writer, which took a front of them, or all
pub record Wrote (writer writer' : Option (List ℕ)) (given : List ℕ) (result : Result (Unit {0}) Why) : Type 0 where
  pub written : List ℕ
  pub writes : Appends writer writer' written
  pub all : IsWritten (why_of result) given written
  pub reason : IfErr result IsOfWriter

-- what a pump works on, where its reader has this left; the functions are those of `ends_of`
abbrev pub ends_with : {W S : Type 0} → Option (List ℕ) → KnownBytes W → Writing S → W → Chain S → Ends
ends_with left contents rest writer chain = ends_of (λ known. known) contents rest left writer chain

-- a text that was read went through the chain to the writer; the tap saw at most this many pieces
pub record Passes (text : List ℕ) (old new : Ends) (tap : Shown) (most : ℕ) (why : Why) : Type 0 where
  pub given : List ℕ
  pub written : List ℕ
  pub pieces : List (List ℕ)
  pub writes : Appends old.writer new.writer written
  pub gave : Gave why new.reader old.chain new.chain text given
  pub all : IsWritten why given written
  pub shown : tap.shows (is_end why) pieces
  pub joined : concat pieces ≡ pieces_by tap.way text given
  pub few : length pieces ≤ most

-- after this many reads a text was read, and went through
pub record ReadAndPassed (old new : Ends) (tap : Shown) (times : ℕ) (why : Why) : Type 0 where
  pub text : List ℕ
  pub reads : Consumes old.reader new.reader text
  pub passes : Passes text old new tap times why
