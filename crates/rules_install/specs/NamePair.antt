-- The names of an installation.
use Rattle.std.specs.Prelude.{ℕ, List}

-- of the rules file, and of the scratch file
pub record NamePair : Type 0 where
  pub cdb : List ℕ
  pub tmp : List ℕ
