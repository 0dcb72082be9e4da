-- A decision over a list of rules.
use Rattle.std.proofs.Common.{◌≡◌, ℕ, Bool, true, false, cond, List, [], ◌∷◌, Option, Some, None, Ok, find, refl, ap, ◌∙◌}
use Rattle.std.specs.Prelude.{is_some}
use Rattle.rule_lookup.proofs.CodeLemmas.{decoded-code_of}
use Rattle.rule_lookup.specs.Codes.{IsInstr}
use Rattle.rule_lookup.specs.Lookups.{code_under, found_among}
use Rattle.rule_lookup.specs.Pairs.{Rule}
use Rattle.rule_lookup.specs.Codes.{AreRules}
use Rattle.rule_lookup.specs.Decisions.{is_there, is_for, rule_for, by_first, by_first_listed, by_finding, by_rule_found, by_code, decision_by, decision_in}
use Rattle.rule_lookup.specs.Forms.{forms_of}
use Rattle.rule_lookup.specs.Peers.{Client}

-- a list has something under a form exactly where one of its rules is for it
there : (o : Option Rule) → is_there (code_under o) ≡ is_some o
there None = refl
there (Some rule) = refl

-- equal tests find the same
found_alike : (p q : List ℕ → Bool) → ((form : List ℕ) → p form ≡ q form) → (forms : List (List ℕ)) → find p forms ≡ find q forms
found_alike p q alike [] = refl
found_alike p q alike (form ∷ forms) =
    ap (λ t. cond t (Some form) (find p forms)) (alike form) ∙ ap (cond (q form) (Some form)) (found_alike p q alike forms)

-- a rule that is found is one of the rules
abbrev IsOfRules : Option Rule → Type 0
IsOfRules None = Unit {0}
IsOfRules (Some rule) = IsInstr rule.instr

chosen : (t : Bool) (o p : Option Rule) → IsOfRules o → IsOfRules p → IsOfRules (cond t o p)
chosen true o p known later = known
chosen false o p known later = later

rule_for-known : (form : List ℕ) (rules : List Rule) → AreRules rules → IsOfRules (rule_for form rules)
rule_for-known form [] known = tt
rule_for-known form (rule ∷ rules) known =
    chosen (is_for form rule) (Some rule) (rule_for form rules) known.0 (rule_for-known form rules known.1)

-- what is found decides as its rule does
finding-listed : (form : List ℕ) (o : Option Rule) → IsOfRules o → by_finding form (code_under o) ≡ Ok (by_rule_found form o)
finding-listed form None known = refl
finding-listed form (Some rule) known = ap (by_code form) (decoded-code_of rule.instr known)

first-listed : (rules : List Rule) → AreRules rules → (o : Option (List ℕ)) → by_first (found_among rules) o ≡ Ok (by_first_listed rules o)
first-listed rules known None = refl
first-listed rules known (Some form) =
    finding-listed form (rule_for form rules) (rule_for-known form rules known)

-- over a list of rules a decision is that of the first form that a rule has
pub decision_by-listed : (rules : List Rule) (peer : Client) → AreRules rules → decision_by (found_among rules) peer ≡ Ok (decision_in rules peer)
decision_by-listed rules peer known =
    ap (by_first (found_among rules)) (found_alike (λ form. is_there (found_among rules form)) (λ form. is_some (rule_for form rules)) (λ form. there (rule_for form rules)) (forms_of peer))
    ∙ first-listed rules known (find (λ form. is_some (rule_for form rules)) (forms_of peer))
