-- The system's number of the error of a call.
use Rattle.std.specs.Prelude.{ℤ, Option, None, Result, Ok, Err}
use Rattle.std.specs.IoError.{raw_os_error}
use Rattle.std.specs.declared.io.Error.{Error}

-- none if the call did not fail, or if its error is not the system's own
abbrev pub number_of : {T : Type 0} → Result T Error → Option ℤ
number_of (Ok value) = None
number_of (Err error) = raw_os_error error
