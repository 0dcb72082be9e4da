-- Rules that an accepted text says.
use Rattle.std.specs.Prelude.{◌≡◌, ℕ, List}
use Rattle.rule_lines.specs.declared.limits.Limits.{Limits}
use Rattle.rule_lines.specs.Faults.{IsAccepted}
use Rattle.rule_lookup.specs.Pairs.{Rule, pairs_of}

-- a text that is accepted within some limits, and says these rules
pub record AcceptedText (rules : List Rule) : Type 0 where
  pub limits : Limits
  pub text : List ℕ
  pub accepted : IsAccepted limits text
  pub says : pairs_of text ≡ rules

-- there is one: they are the rules of an accepted text
abbrev pub AreOfText : List Rule → Type 0
AreOfText rules = ∥ AcceptedText rules ∥₁
