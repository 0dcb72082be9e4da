-- Parts that found no memory.
use Rattle.std.proofs.Common.{◌≡◌, ℕ, List, ◌++◌, Result}
use Rattle.std.specs.Result.{IsErr}
use Rattle.byte_text.proofs.Appends.{Grown, cut_off, next}
use Rattle.byte_text.specs.Outcomes.{AppendsPart}

-- the first part, of which some was appended
pub cut_first : {E : Type 0} (part old new : List ℕ) (done : Result (Unit {0}) E) → IsErr done → (some : List ℕ) × (new ≡ old ++ some) → AppendsPart part old new done
cut_first part old new done failed (some, is) = cut_off part old some new done failed is

-- a part after others
pub cut_later : {E : Type 0} {old some mid : List ℕ} (part new : List ℕ) (done : Result (Unit {0}) E) → IsErr done → Grown old some mid → (more : List ℕ) × (new ≡ mid ++ more) → AppendsPart part old new done
cut_later {E} {old} {some} part new done failed before (more, is) =
    cut_off part old (some ++ more) new done failed (next more before is).is
