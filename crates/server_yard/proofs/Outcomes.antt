-- What room there is after an answer.
use Rattle.std.proofs.Common.{◌≡◌, ℕ, ◌+◌, ◌≤◌, ◌∙◌, Bool, true, arith}
use Rattle.std.specs.Prelude.{OnErr, OnOk, Result, Ok, Err}

-- room that was there is there, whether more was taken or not
pub kept_room : {E : Type 0} (has had : ℕ → Bool) (needed more : ℕ) (result : Result Unit E) → ((n m : ℕ) → n ≤ m → had m ≡ true → had n ≡ true)
    → OnOk result ((n : ℕ) → had (n + more) ≡ has n) → OnErr result ((n : ℕ) → had n ≡ has n) → has needed ≡ true → had needed ≡ true
kept_room has had needed more (Ok done) less ok err room = less needed (needed + more) (omega arith) (ok needed ∙ room)
kept_room has had needed more (Err fault) less ok err room = err needed ∙ room
