-- What a server does with each connection that it lets in.
use Rattle.std.specs.Prelude.{ℕ, List}
use Rattle.child_jobs.specs.Variables.{Variables}
use Rattle.child_jobs.specs.Programs.{ProgramText}

pub record PlanText : Type 0 where
  pub program : ProgramText
  pub inherited : Variables
  pub banner : List ℕ
