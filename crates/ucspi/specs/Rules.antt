-- Where the rules of a server stand, by its words.
use Rattle.std.specs.Prelude.{◌≡◌, ℕ, List, [], Option, None, Some}
use Rattle.rule_lookup.specs.declared.decision.WhenMissing.{WhenMissing}
use Rattle.rule_lookup.specs.declared.decision.WhenMissing.TheVariants.{Allow}
use Rattle.server_parts.specs.RulesPaths.{IsNameIn}
use Rattle.server_words.specs.Plans.{ServerPlan}
use Rattle.ucspi.specs.declared.rules.SystemRules.{SystemRules}

-- their path, their name in its folder, and what is decided if there is no file
abbrev pub rules_path : {R : Type 0} → SystemRules R → List ℕ
rules_path rules = rules.path.now

abbrev pub rules_name : {R : Type 0} → SystemRules R → Option (List ℕ)
rules_name rules = rules.name

abbrev pub rules_missing : {R : Type 0} → SystemRules R → WhenMissing
rules_missing rules = rules.missing

-- they stand at the path of `-x`, and `-X` says what it means that the file is missing; without `-x` there are none, and
-- everybody is allowed
abbrev pub AreRulesAt : {R : Type 0} → Option (List ℕ) → WhenMissing → SystemRules R → Type 0
AreRulesAt None told rules = (rules_path rules ≡ []) × (rules_name rules ≡ None) × (rules_missing rules ≡ Allow)
AreRulesAt (Some given) told rules = (rules_path rules ≡ given) × IsNameIn given (rules_name rules) × (rules_missing rules ≡ told)

-- the rules stand where the words say
abbrev pub AreRulesOf : {R : Type 0} → ServerPlan → SystemRules R → Type 0
AreRulesOf words rules = AreRulesAt words.rules words.missing rules
