-- What is true if a call of a disk fails by the error that there is no such name.
use Rattle.std.specs.Prelude.{◌≡◌, Result, IfErr}
use Rattle.std.specs.IoError.{error_kind}
use Rattle.std.specs.declared.io.Error.{Error}
use Rattle.std.specs.declared.io.ErrorKind.TheVariants.{NotFound}

-- if it answers that there is no such name
abbrev pub OnNotFound : {T : Type 0} → Result T Error → Type 0 → Type 0
OnNotFound result P = IfErr result (λ error. error_kind error ≡ NotFound → P)
