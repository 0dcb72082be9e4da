-- The lines of an answer, and parts of these.
use Rattle.std.proofs.Common.{◌≡◌, ℕ, List, ◌++◌, Result, Ok, Err, OnOk, subst}
use Rattle.byte_text.specs.Outcomes.{AppendsLine, AppendsPart}
use Rattle.byte_text.proofs.Appends.{OnOk-line}

-- a line that was appended, written otherwise
pub OnOk-same : {E : Type 0} (line same old new : List ℕ) (done : Result (Unit {0}) E) → line ≡ same → AppendsLine line old new done → OnOk done (new ≡ old ++ same)
OnOk-same line same old new done is appends = subst (λ (l : List ℕ). OnOk done (new ≡ old ++ l)) is (OnOk-line line old new done appends)

-- a part that was appended to its end
pub OnOk-part : {E : Type 0} (part old new : List ℕ) (done : Result (Unit {0}) E) → AppendsPart part old new done → OnOk done (new ≡ old ++ part)
OnOk-part part old new (Ok done) is = is
OnOk-part part old new (Err e) is = tt
