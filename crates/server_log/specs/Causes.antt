-- Why the system refused what it was asked for.
use Rattle.std.specs.Prelude.{ℕ, List}

-- what it was asked for, and its words for its error
pub record CauseText : Type 0 where
  pub what : List ℕ
  pub why : List ℕ
