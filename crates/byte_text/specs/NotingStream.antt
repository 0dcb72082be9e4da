-- A stream that notes the error of its last call.
use Rattle.std.specs.Prelude.{ℤ, Option}
use Rattle.byte_text.specs.declared.noted.NotingStream.{NotingStream}

-- the number that it has noted
abbrev pub noted_error : {S : Type 0} → NotingStream S → Option ℤ
noted_error noted = noted.error

-- the stream that it passes on
abbrev pub noted_stream : {S : Type 0} → NotingStream S → S
noted_stream noted = noted.stream
