use Rattle.std.proofs.Common.{◌≡◌, ◌++◌, ◌∷◌, map, drop, string_bytes, ℕ, List}
use Rattle.rule_lookup.specs.Spread.{folded}
use Rattle.rule_lookup.specs.Forms.{dotted_ends}
use Rattle.rule_lookup.proofs.form.push_ends.Given as goal

-- the forms so far and those to come are all
abbrev pub invariant-loop-i : goal.invariant-loop-i
invariant-loop-i l =
    map string_bytes l.forms.items ++ map folded (map (λ (end : List ℕ). 61 ∷ end) (dotted_ends (drop l.i l.host)))
    ≡ map string_bytes l.initial.forms.items ++ map folded (map (λ (end : List ℕ). 61 ∷ end) (dotted_ends (drop 1 l.host)))
