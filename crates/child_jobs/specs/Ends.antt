-- The server's end of a connection.
use Rattle.std.specs.Prelude.{ℕ, List, Option}

pub record LocalEnd : Type 0 where
  pub ip : List ℕ
  pub port : ℕ
  pub host : Option (List ℕ)
