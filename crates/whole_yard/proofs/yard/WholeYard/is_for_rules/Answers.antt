use Rattle.std.proofs.Common.{ℕ, List, Some, sym, ap, ◌∙◌}
use Rattle.whole_yard.specs.Kept.{rules_of}
use Rattle.whole_yard.specs.WholeYards.{name_of}
use Rattle.whole_yard.proofs.Keeping.{same_some}
use Rattle.whole_yard.proofs.yard.WholeYard.is_for_rules.Goals as goal

pub returns-in-Some : goal.returns-in-Some
returns-in-Some g c =
    let named = ap (λ o. name_of (rules_of o)) c.in-Some.is in
    let cdb = c.cdb.ensures.name in
    let both = c.is_same_name.ensures in
    (λ yes. named ∙ ap (λ (n : List ℕ). Some n) (both.0 yes ∙ cdb), λ same. both.1 (same_some _ _ (sym named ∙ same) ∙ sym cdb))
