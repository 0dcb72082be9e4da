-- The line that tells the cause of a fault, as bytes.
use Rattle.std.specs.Prelude.{ℕ, List, ◌++◌, codes, Result}
use Rattle.byte_text.specs.Outcomes.{AppendsLine}
use Rattle.byte_text.specs.Fields.{field_text}

-- the tool, what the system was asked for, and why that failed
abbrev pub cause_text : List ℕ → List ℕ → List ℕ → List ℕ
cause_text tool what why = tool ++ codes ": cause: " ++ field_text what ++ codes ": " ++ why ++ codes "\n"

-- such a line stands at the end, with the system's words for an error, or nothing was appended
pub record AppendsCause {E : Type 0} (tool what old new : List ℕ) (result : Result (Unit {0}) E) : Type 0 where
  pub why : List ℕ
  pub line : AppendsLine (cause_text tool what why) old new result
