-- What the clauses of a directory's methods say about their calls, from the directory before to the one after. `state`,
-- `moment` and `left_since` are those of its trait.
use Rattle.std.specs.Prelude.{ℕ, ◌+◌, ◌≤◌, List, length, take, Option, Result}
use Rattle.std.specs.Option.{ForSome}
use Rattle.dir_calls.specs.Directory.{Directory, FileState}
use Rattle.dir_calls.specs.Images.{IsImage}
use Rattle.dir_calls.specs.Calls.{Call, appends}
use Rattle.dir_calls.specs.Outcomes.{Does, LeftBy}
use Rattle.dir_calls.specs.Moments.{Elapses, ImagesSince, Includes}
use Rattle.dir_calls.specs.declared.fault.DirFault.{DirFault}

-- the method makes this call, or leaves what its fault says
abbrev pub DoesCall : {D T : Type 0} → (state : D → Directory) → Call → (old new : D) → Result T DirFault → Type 0
DoesCall state call old new result = Does (λ _. call) call (state old) (state new) result

-- the method puts as many bytes of a piece at the end of the scratch file as it answers
abbrev pub AppendsSome : {D : Type 0} → (state : D → Directory) → List ℕ → (old new : D) → Result ℕ DirFault → Type 0
AppendsSome state piece old new result = Does (λ count. appends (take count piece)) (appends piece) (state old) (state new) result

-- time goes on by one call: a stop since an earlier moment may have left what it may have left before, or what a stop
-- within the call or right after it leaves, and nothing else
abbrev pub CallElapses : {D : Type 0} → (state : D → Directory) → (moment : D → ℕ) → (left_since : D → ImagesSince)
    → Call → (old new : D) → Type 0
CallElapses state moment left_since call old new =
    Elapses (moment old) (moment new) (left_since old) (left_since new) (LeftBy call (state old) (state new))

-- a stop since an earlier moment may have left whatever a stop within the call or right after it leaves
abbrev pub CallIncludes : {D : Type 0} → (state : D → Directory) → (moment : D → ℕ) → (left_since : D → ImagesSince)
    → Call → (old new : D) → Type 0
CallIncludes state moment left_since call old new = Includes (moment old) (left_since new) (LeftBy call (state old) (state new))

-- time goes on by an `open`: a stop since an earlier moment may have left what it may have left before, or what a stop now leaves
abbrev pub OpenElapses : {D : Type 0} → (state : D → Directory) → (moment : D → ℕ) → (left_since : D → ImagesSince)
    → (old new : D) → Type 0
OpenElapses state moment left_since old new = Elapses (moment old) (moment new) (left_since old) (left_since new) (IsImage (state old))

-- if there is a scratch file, these bytes from this position on lie inside it
abbrev pub IsInside : ℕ → List ℕ → Option FileState → Type 0
IsInside position bytes scratch = ForSome scratch (λ file. position + length bytes ≤ length file.bytes)
