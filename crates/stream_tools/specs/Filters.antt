-- How far a tool came that passes one stream on.
use Rattle.std.specs.Prelude.{◌≡◌, ◌≢◌, ℕ, List, [], ◌++◌, Option, Result, Ok, Err}
use Rattle.std.specs.Io.KnownBytes.{Appends, Consumes, IsAtEnd}
use Rattle.byte_streams.specs.declared.pumping.Why.{Why}
use Rattle.byte_streams.specs.declared.pumping.Why.TheVariants as why
use Rattle.byte_streams.specs.declared.pumping.Why.TheVariants.{End}
use Rattle.stream_tools.specs.declared.filter.FilterFault.{FilterFault}
use Rattle.stream_tools.specs.declared.filter.FilterFault.TheVariants.{ReadFault, WriteFault, OutOfMemory}

-- at the end of a text these write nothing more
abbrev pub EndWithNothing : {S : Type 0} → (S → List ℕ → List ℕ) → Type 0
EndWithNothing {S} rest = (wrapper : S) → rest wrapper [] ≡ []

-- how a tool that passes one stream on ended
abbrev pub FilterEnd : Type 0
FilterEnd = Result (Unit {0}) FilterFault

-- what was not written of what is made of all that was read: nothing at the end, with nothing left to read, and nothing where the reader failed;
-- something where the writer failed
abbrev pub Leaves : (unread : Option (List ℕ)) → FilterEnd → (left : List ℕ) → Type 0
Leaves unread (Ok done) left = IsAtEnd unread × (left ≡ [])
Leaves unread (Err ReadFault) left = left ≡ []
Leaves unread (Err WriteFault) left = left ≢ []
Leaves unread (Err OutOfMemory) left = Unit {0}

-- a text was read, and a front of what is made of it was written: how much is told by the answer
pub record Came (make : List ℕ → List ℕ) (reader-old reader-new writer-old writer-new : Option (List ℕ)) (end : FilterEnd) : Type 0 where
  pub text : List ℕ
  pub written : List ℕ
  pub left : List ℕ
  pub reads : Consumes reader-old reader-new text
  pub writes : Appends writer-old writer-new written
  pub makes : make text ≡ written ++ left
  pub leaves : Leaves reader-new end left

-- what the end of a pump is for a tool that passes one stream on
abbrev pub answer_of : Why → FilterEnd
answer_of End = Ok tt
answer_of why.ReadFault = Err ReadFault
answer_of why.ReadsOver = Err ReadFault
answer_of why.WriteFault = Err WriteFault
answer_of why.ZeroWrite = Err WriteFault
answer_of why.Failed = Err OutOfMemory
answer_of why.OutOfMemory = Err OutOfMemory
