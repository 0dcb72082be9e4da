-- Parts that are appended one after another.
use Rattle.std.proofs.Common.{◌≡◌, ℕ, List, ◌++◌, Result, Ok, Err, OnOk, OnErr, ap, subst, ◌∙◌, append_assoc}
use Rattle.std.specs.Result.{IsErr}
use Rattle.byte_text.specs.Outcomes.{AppendsLine, AppendsPart}

-- what was appended so far
pub record Grown (old some new : List ℕ) : Type 0 where
  pub is : new ≡ old ++ some

-- the first part
pub first : {new : List ℕ} (old part : List ℕ) → new ≡ old ++ part → Grown old part new
first old part is = record { is = is }

-- the next one
pub next : {old some mid new : List ℕ} (part : List ℕ) → Grown old some mid → new ≡ mid ++ part → Grown old (some ++ part) new
next {old} {some} part before is = record { is = is ∙ ap (λ (xs : List ℕ). xs ++ part) before.is ∙ append_assoc old some part }

-- the last one, which may find no memory
pub last : {E : Type 0} {old some mid : List ℕ} (part new : List ℕ) (done : Result (Unit {0}) E) → Grown old some mid → AppendsPart part mid new done → AppendsPart (some ++ part) old new done
last part new (Ok done) before is = (next part before is).is
last {E} {old} {some} part new (Err e) before (more, is) = (some ++ more, (next more before is).is)

-- a part that was not appended to its end
pub cut_off : {E : Type 0} (part old some new : List ℕ) (done : Result (Unit {0}) E) → IsErr done → new ≡ old ++ some → AppendsPart part old new done
cut_off part old some new (Ok done) failed is = cc
cut_off part old some new (Err e) failed is = (some, is)

-- the same part, written otherwise
pub renamed : {E : Type 0} {part whole : List ℕ} (old new : List ℕ) (done : Result (Unit {0}) E) → part ≡ whole → AppendsPart part old new done → AppendsPart whole old new done
renamed old new done same h = subst (λ (p : List ℕ). AppendsPart p old new done) same h

-- what a whole leaves, by how the call ended
pub OnOk-line : {E : Type 0} (line old new : List ℕ) (done : Result (Unit {0}) E) → AppendsLine line old new done → OnOk done (new ≡ old ++ line)
OnOk-line line old new (Ok done) is = is
OnOk-line line old new (Err e) is = tt

pub OnErr-line : {E : Type 0} (line old new : List ℕ) (done : Result (Unit {0}) E) → AppendsLine line old new done → OnErr done (new ≡ old)
OnErr-line line old new (Ok done) is = tt
OnErr-line line old new (Err e) is = is
