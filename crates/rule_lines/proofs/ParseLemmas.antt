-- A text read line by line: the first fault of the rest is that of the text.
use Rattle.std.proofs.Common.{◌≡◌, ℕ, ◌+◌, ◌≤◌, ◌<◌, Bool, true, None, Some, List, length, refl, sym, ap, ◌∙◌, arith}
use Rattle.rule_lines.specs.declared.fault.LineKind.{LineKind}
use Rattle.rule_lines.specs.Faults.{fault_in, first_faulty, or_later}
use Rattle.rule_lookup.specs.Lines.{IsCutAtFeed, IsFirstLine, lines_of, trimmed}
use Rattle.rule_lines.specs.RuleFaults.{IsPlain}
use Rattle.rule_lines.proofs.PlainLemmas.{IsPlain-cut, IsPlain-trimmed}

-- a text was read up to a rest, after so many lines
pub record IsReadUpTo (plain : Bool) (limit : ℕ) (text rest : List ℕ) (number : ℕ) : Type 0 where
  pub faults : first_faulty limit (number + 1) (lines_of rest) ≡ first_faulty limit 1 (lines_of text)
  pub rest_plain : plain ≡ true → IsPlain rest
  pub room : number + length rest ≤ length text

-- nothing was read
pub IsReadUpTo-none : (plain : Bool) (limit : ℕ) (text : List ℕ) → (plain ≡ true → IsPlain text) → IsReadUpTo plain limit text text 0
IsReadUpTo-none plain limit text is_plain = record { faults = refl; rest_plain = is_plain; room = omega arith }

module _ (plain : Bool) (limit : ℕ) (text rest line after : List ℕ) (number : ℕ) (up : IsReadUpTo plain limit text rest number) (first : IsFirstLine rest line after) where
  -- the first fault of the text is that of the line
  pub fault-read : (kind : LineKind) → fault_in limit (trimmed line) ≡ Some kind → first_faulty limit 1 (lines_of text) ≡ Some (record { line = number + 1; kind = kind })
  fault-read kind fault =
      sym up.faults ∙ ap (first_faulty limit (number + 1)) first.1
      ∙ ap (λ f. or_later (number + 1) f (first_faulty limit (number + 1 + 1) (lines_of after))) fault

  module _ (cut : IsCutAtFeed rest line after) where
    -- the line is plain where the text is
    pub trimmed-plain : plain ≡ true → IsPlain (trimmed line)
    trimmed-plain is_plain = IsPlain-trimmed line (IsPlain-cut rest line after cut (up.rest_plain is_plain)).0

    -- one line more
    pub IsReadUpTo-more : length after < length rest → fault_in limit (trimmed line) ≡ None → IsReadUpTo plain limit text after (number + 1)
    IsReadUpTo-more shorter none = record {
      faults = sym (ap (λ f. or_later (number + 1) f (first_faulty limit (number + 1 + 1) (lines_of after))) none) ∙ ap (first_faulty limit (number + 1)) (sym first.1) ∙ up.faults;
      rest_plain = λ is_plain. (IsPlain-cut rest line after cut (up.rest_plain is_plain)).1;
      room = omega (arith, shorter, up.room);
    }
