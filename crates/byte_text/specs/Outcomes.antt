-- What a call that appends to a list of bytes leaves.
use Rattle.std.specs.Prelude.{◌≡◌, ℕ, List, ◌++◌, Result, Ok, Err}

-- a whole, as a line: it stands at the end; or there was no memory for it, and nothing was appended
abbrev pub AppendsLine : {E : Type 0} → List ℕ → List ℕ → List ℕ → Result (Unit {0}) E → Type 0
AppendsLine line old new (Ok done) = new ≡ old ++ line
AppendsLine line old new (Err e) = new ≡ old

-- a part of a whole: it stands at the end; or there was no memory, and some of it may have been appended
abbrev pub AppendsPart : {E : Type 0} → List ℕ → List ℕ → List ℕ → Result (Unit {0}) E → Type 0
AppendsPart part old new (Ok done) = new ≡ old ++ part
AppendsPart part old new (Err e) = (some : List ℕ) × (new ≡ old ++ some)
