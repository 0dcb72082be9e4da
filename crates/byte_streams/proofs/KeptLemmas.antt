-- What a call does after others that changed nothing.
use Rattle.std.proofs.Common.{◌∙◌, sym, ℕ, List, ◌++◌, take, ap}
use Rattle.std.specs.Prelude.{Option, None, Some, Result, Ok, Err}
use Rattle.std.specs.Io.KnownBytes.{Keeps, Consumes, Appends, ReadConsumes, WriteAppends}
use Rattle.std.proofs.KnownBytes.{Keeps-trans}

kept_consumes : (a b c : Option (List ℕ)) (bs : List ℕ) → Keeps a b → Consumes b c bs → Consumes a c bs
kept_consumes None b c bs kept consumes = tt
kept_consumes (Some xs) None c bs kept consumes = absurd kept
kept_consumes (Some xs) (Some ys) None bs kept consumes = absurd consumes
kept_consumes (Some xs) (Some ys) (Some zs) bs kept consumes = sym kept ∙ consumes

kept_appends : (a b c : Option (List ℕ)) (bs : List ℕ) → Keeps a b → Appends b c bs → Appends a c bs
kept_appends None b c bs kept appends = tt
kept_appends (Some xs) None c bs kept appends = absurd kept
kept_appends (Some xs) (Some ys) None bs kept appends = absurd appends
kept_appends (Some xs) (Some ys) (Some zs) bs kept appends = appends ∙ ap (λ (l : List ℕ). l ++ bs) kept

pub kept_read : {E : Type 0} (a b c : Option (List ℕ)) (r : Result ℕ E) (buf : List ℕ) → Keeps a b → ReadConsumes b c r buf → ReadConsumes a c r buf
kept_read a b c (Ok n) buf kept read = (kept_consumes a b c (take n buf) kept read.0, read.1)
kept_read a b c (Err e) buf kept read = Keeps-trans a b c kept read

pub kept_write : {E : Type 0} (a b c : Option (List ℕ)) (r : Result ℕ E) (buf : List ℕ) → Keeps a b → WriteAppends b c r buf → WriteAppends a c r buf
kept_write a b c (Ok n) buf kept write = kept_appends a b c (take n buf) kept write
kept_write a b c (Err e) buf kept write = Keeps-trans a b c kept write
