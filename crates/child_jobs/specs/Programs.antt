-- A program: its path and its arguments.
use Rattle.std.specs.Prelude.{ℕ, List}

pub record ProgramText : Type 0 where
  pub path : List ℕ
  pub args : List (List ℕ)
