-- Which rule decides a peer.
use Rattle.std.specs.Prelude.{◌≡◌, ◌≢◌, ℕ, Bool, true, false, is_some, List, [], ◌∷◌, Any, Option, Some, None, Result, Ok, Err, option_map, find, bytes_eq, if◌then◌else◌}
use Rattle.std.specs.Borrow.{Bor}
use Rattle.rule_lookup.specs.declared.code.CodeFault.TheVariants.{NotCode}
use Rattle.rule_lookup.specs.declared.instr.Instr.{Instr}
use Rattle.rule_lookup.specs.declared.instr.Verdict.{Verdict}
use Rattle.rule_lookup.specs.declared.instr.Verdict.TheVariants.{Allow, Deny}
use Rattle.rule_lookup.specs.declared.code.DecodeFault.{DecodeFault}
use Rattle.rule_lookup.specs.declared.code.DecodeFault.TheVariants.{Code as NoCode, OutOfMemory as NoMemoryToDecode}
use Rattle.rule_lookup.specs.declared.source.FindFault.{FindFault}
use Rattle.rule_lookup.specs.declared.source.FindFault.TheVariants.{Short, Device, OutOfMemory as NoMemoryToFind}
use Rattle.rule_lookup.specs.Codes.{decoded}
use Rattle.rule_lookup.specs.Lookups.{Finding, Has, Absent, Broken, Trust, Sound, WhereKnown}
use Rattle.rule_lookup.specs.Pairs.{Rule, pairs_of}
use Rattle.rule_lookup.specs.declared.decision.Decision.{Decision}
use Rattle.rule_lookup.specs.declared.decision.DecideFault.{DecideFault}
use Rattle.rule_lookup.specs.declared.decision.DecideFault.TheVariants.{Find, Code, OutOfMemory}
use Rattle.rule_lookup.specs.declared.decision.Found.TheVariants as found
use Rattle.rule_lookup.specs.declared.decision.WhenMissing.{WhenMissing}
use Rattle.rule_lookup.specs.declared.decision.WhenMissing.TheVariants as missing
use Rattle.rule_lookup.specs.Forms.{forms_of}
use Rattle.rule_lookup.specs.Peers.{Client}

-- the verdict if there is no rules file
abbrev pub verdict_without : WhenMissing → Verdict
verdict_without missing.Deny = Deny
verdict_without missing.Allow = Allow

-- the decision if there is no rules file
abbrev pub without_file : WhenMissing → Decision
without_file kind = record { found = found.NoFile; verdict = verdict_without kind; settings = [] }

-- the decision if no form has a rule
abbrev pub by_default : Decision
by_default = record { found = found.Default; verdict = Allow; settings = [] }

-- the decision by the rule with this address
abbrev pub by_rule : List ℕ → Instr → Decision
by_rule address instr =
    record { found = found.Address address; verdict = instr.verdict; settings = instr.settings }

-- a source has something under a form: a value, or damage
abbrev pub is_there : Finding → Bool
is_there Absent = false
is_there (Has code) = true
is_there Broken = true

-- what the value under a form decides, if it is a code
abbrev pub by_code : List ℕ → Option Instr → Result Decision DecideFault
by_code form None = Err (Code NotCode)
by_code form (Some instr) = Ok (by_rule form instr)

-- what is under a form decides
abbrev pub by_finding : List ℕ → Finding → Result Decision DecideFault
by_finding form Absent = Ok by_default
by_finding form (Has code) = by_code form (decoded code)
by_finding form Broken = Err (Find Short)

-- what a form decides, if there is one
abbrev pub by_first : (List ℕ → Finding) → Option (List ℕ) → Result Decision DecideFault
by_first finds None = Ok by_default
by_first finds (Some form) = by_finding form (finds form)

-- the decision by a source: that of the first form under which it has something
abbrev pub decision_by : (List ℕ → Finding) → Client → Result Decision DecideFault
decision_by finds peer = by_first finds (find (λ form. is_there (finds form)) (forms_of peer))

-- the same if there may be no file
abbrev pub decision_from : Option (List ℕ → Finding) → WhenMissing → Client → Result Decision DecideFault
decision_from None kind peer = Ok (without_file kind)
decision_from (Some finds) kind peer = decision_by finds peer

-- what a source finds, if there is a source
abbrev pub finds_of : {S : Type 0} → (S → List ℕ → Finding) → Option (Bor S) → Option (List ℕ → Finding)
finds_of {S} finds source = option_map (λ (s : Bor S). finds s.now) source

-- how far a source is known to answer that; without a source there is nothing to doubt
abbrev pub trust_of : {S : Type 0} → (S → Trust) → Option (Bor S) → Trust
trust_of trust None = Sound
trust_of trust (Some s) = trust s.now

-- the forms that are looked up: all up to the first under which a source has something
abbrev pub asked : (List ℕ → Finding) → List (List ℕ) → List (List ℕ)
asked finds [] = []
asked finds (form ∷ forms) = form ∷ (if is_there (finds form) then [] else asked finds forms)

-- a lookup under one of them may fail
abbrev pub MayFail : (List ℕ → Type 0) → (List ℕ → Finding) → Client → Type 0
MayFail may_fail finds peer = Any may_fail (asked finds (forms_of peer))

-- the same of a source, if there is one
abbrev pub MayFailFrom : {S : Type 0} → (S → List ℕ → Type 0) → (S → List ℕ → Finding) → Option (Bor S) → Client → Type 0
MayFailFrom may_fail finds None peer = ⊥
MayFailFrom may_fail finds (Some s) peer = MayFail (may_fail s.now) (finds s.now) peer

-- a decision fails if it does by its definition; it fails with a device fault only if the source is not sound
abbrev pub DecisionFails : Trust → Result Decision DecideFault → DecideFault → Type 0
DecisionFails trust expected (Find Short) = WhereKnown trust (expected ≡ Err (Find Short))
DecisionFails trust expected (Find Device) = trust ≢ Sound
DecisionFails trust expected (Find NoMemoryToFind) = ⊥
DecisionFails trust expected (Code fault) = WhereKnown trust (expected ≡ Err (Code fault))
DecisionFails trust expected OutOfMemory = Unit {0}

-- whether a rule has this address
abbrev pub is_for : List ℕ → Rule → Bool
is_for form rule = bytes_eq rule.address form

-- the first rule with this address
abbrev pub rule_for : List ℕ → List Rule → Option Rule
rule_for form rules = find (is_for form) rules

-- the decision of a rule that was found
abbrev pub by_rule_found : List ℕ → Option Rule → Decision
by_rule_found form None = by_default
by_rule_found form (Some rule) = by_rule form rule.instr

-- what a form decides by the first rule that has it, if there is such a form
abbrev pub by_first_listed : List Rule → Option (List ℕ) → Decision
by_first_listed rules None = by_default
by_first_listed rules (Some form) = by_rule_found form (rule_for form rules)

-- the decision of a list of rules: the first form that a rule has, and the first rule that has it
abbrev pub decision_in : List Rule → Client → Decision
decision_in rules peer = by_first_listed rules (find (λ form. is_some (rule_for form rules)) (forms_of peer))

-- the decision of a text
abbrev pub decision_of : List ℕ → Client → Decision
decision_of text peer = decision_in (pairs_of text) peer

-- what a value says, if it is a code
abbrev pub instr_by : Option Instr → Result (Option Instr) DecideFault
instr_by None = Err (Code NotCode)
instr_by (Some instr) = Ok (Some instr)

-- what is found under a key, as an instruction
abbrev pub instr_in : Finding → Result (Option Instr) DecideFault
instr_in Absent = Ok None
instr_in (Has code) = instr_by (decoded code)
instr_in Broken = Err (Find Short)

-- a lookup fails if it does by its definition; it fails with a device fault only if the source is not sound
abbrev pub LookupFails : Trust → Result (Option Instr) DecideFault → DecideFault → Type 0
LookupFails trust expected (Find Short) = WhereKnown trust (expected ≡ Err (Find Short))
LookupFails trust expected (Find Device) = trust ≢ Sound
LookupFails trust expected (Find NoMemoryToFind) = ⊥
LookupFails trust expected (Code fault) = WhereKnown trust (expected ≡ Err (Code fault))
LookupFails trust expected OutOfMemory = Unit {0}

-- the fault of a decision whose lookup failed
abbrev pub of_look_up : FindFault → DecideFault
of_look_up Short = Find Short
of_look_up Device = Find Device
of_look_up NoMemoryToFind = OutOfMemory

-- the fault of a decision whose value was not decoded
abbrev pub of_code : DecodeFault → DecideFault
of_code (NoCode fault) = Code fault
of_code NoMemoryToDecode = OutOfMemory
