-- What becomes of words, with a fault or without.
use Rattle.std.specs.Prelude.{IsOk, Result, Ok, Err}
use Rattle.server_parts.specs.declared.fault.TcpserverFault.{TcpserverFault}
use Rattle.server_parts.specs.declared.fault.TcpserverFault.TheVariants.{Server, Words}
use Rattle.server_words.specs.Plans.{RefusesPlan, ServerPlan}
use Rattle.server_words.specs.declared.fault.ServerWordsFault.{ServerWordsFault}

-- a server ran or failed only by words without a fault, and words are blamed only for the fault that they have, or for
-- want of memory
abbrev pub AnswersWords : {T : Type 0} → Result ServerPlan ServerWordsFault → Result T TcpserverFault → Type 0
AnswersWords read (Ok done) = IsOk read
AnswersWords read (Err (Words fault)) = RefusesPlan read fault
AnswersWords read (Err (Server fault)) = IsOk read
