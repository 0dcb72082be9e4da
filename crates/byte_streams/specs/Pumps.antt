-- What a pump does.
use Rattle.std.specs.Prelude.{◌≡◌, ◌⊎◌, ◌≤◌, ℕ, Bool, true, false, List, ◌∷◌, ◌++◌, length}
use Rattle.std.specs.List.{concat}
use Rattle.std.specs.declared.option.Option.{Option}
use Rattle.std.specs.Io.KnownBytes.{Appends, Consumes, IsAtEnd}
use Rattle.byte_streams.specs.Chains.{wrappers_of}
use Rattle.byte_streams.specs.Wrappers.{Gives, Writing, through}
use Rattle.byte_streams.specs.declared.chain.Chain.{Chain}
use Rattle.byte_streams.specs.declared.recording.Way.{Way}
use Rattle.byte_streams.specs.declared.recording.Way.TheVariants.{Input, Output}
use Rattle.byte_streams.specs.Taps.{Shown}
use Rattle.byte_streams.specs.declared.pumping.PumpEnd.{PumpEnd}
use Rattle.byte_streams.specs.declared.pumping.Why.{Why}
use Rattle.byte_streams.specs.declared.pumping.Why.TheVariants.{End, ReadFault, WriteFault, ZeroWrite, ReadsOver, Failed, OutOfMemory}

abbrev pub is_end : Why → Bool
is_end End = true
is_end ReadFault = false
is_end WriteFault = false
is_end ZeroWrite = false
is_end ReadsOver = false
is_end Failed = false
is_end OutOfMemory = false

-- a text and what comes first of what a chain writes of it, whatever comes after that text
abbrev pub GivesFirst : (List ℕ → List ℕ) → List ℕ → List ℕ → Type 0
GivesFirst writes text given = (rest : List ℕ → List ℕ) × Gives writes rest text given

-- What the chain gave of what was read. At the end it is all that the chain writes of the whole text, and between two
-- pieces just what it has written of them. If a write failed it is one of these, the first only with nothing left to
-- read. Otherwise it is what the chain gave before it failed.
abbrev pub Gave : Why → (left : Option (List ℕ)) → (old new : List ℕ → List ℕ) → (text given : List ℕ) → Type 0
Gave End left old new text given = IsAtEnd left × (given ≡ old text)
Gave ReadFault left old new text given = Gives old new text given
Gave ReadsOver left old new text given = Gives old new text given
Gave WriteFault left old new text given = Gives old new text given ⊎ (IsAtEnd left × (given ≡ old text))
Gave ZeroWrite left old new text given = Gives old new text given ⊎ (IsAtEnd left × (given ≡ old text))
Gave Failed left old new text given = GivesFirst old text given
Gave OutOfMemory left old new text given = GivesFirst old text given

-- all that the chain gave was written; if a write failed, not all of it
abbrev pub IsWritten : Why → (given written : List ℕ) → Type 0
IsWritten End given written = given ≡ written
IsWritten ReadFault given written = given ≡ written
IsWritten ReadsOver given written = given ≡ written
IsWritten Failed given written = given ≡ written
IsWritten OutOfMemory given written = given ≡ written
IsWritten WriteFault given written = (left : ℕ) × (more : List ℕ) × (given ≡ written ++ left ∷ more)
IsWritten ZeroWrite given written = (left : ℕ) × (more : List ℕ) × (given ≡ written ++ left ∷ more)

-- the pieces that a tap of this way sees: those that were read, or those that the chain gave
abbrev pub pieces_by : Way → (text given : List ℕ) → List ℕ
pieces_by Input text given = text
pieces_by Output text given = given

-- what a pump works on at a moment: what its reader has left and what its writer holds, if these are known, and what
-- its chain will write of the rest of a text
pub record Ends : Type 0 where
  pub reader : Option (List ℕ)
  pub writer : Option (List ℕ)
  pub chain : List ℕ → List ℕ

-- the bytes that each of these has, if they are known
abbrev pub KnownBytes : Type 0 → Type 0
KnownBytes R = R → Option (List ℕ)

-- what a pump works on, of these three; the functions say what a reader has left, what a writer holds, and what a line
-- wrapper will write
abbrev pub ends_of : {R W S : Type 0} → KnownBytes R → KnownBytes W → Writing S → R → W → Chain S → Ends
ends_of remaining contents rest reader writer chain =
    record { reader = remaining reader; writer = contents writer; chain = through rest (wrappers_of chain) }

-- A pump read a text, the chain gave bytes of it, and a front of these was written. Its tap saw at most one piece a read.
pub record Pumped (old new : Ends) (tap : Shown) (end : PumpEnd) : Type 0 where
  pub text : List ℕ
  pub given : List ℕ
  pub written : List ℕ
  pub pieces : List (List ℕ)
  pub reads : Consumes old.reader new.reader text
  pub writes : Appends old.writer new.writer written
  pub gave : Gave end.why new.reader old.chain new.chain text given
  pub all : IsWritten end.why given written
  pub shown : tap.shows (is_end end.why) pieces
  pub joined : concat pieces ≡ pieces_by tap.way text given
  pub one_each : length pieces ≤ end.reads
