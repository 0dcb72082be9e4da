-- Where a decision says that there is no file, and where not.
use Rattle.std.proofs.Common.{◌≡◌, ℕ, List, refl, sym, ap}
use Rattle.std.specs.Prelude.{Option, None, Some, Result, Ok, find}
use Rattle.cdb_files.specs.Reading.{reading}
use Rattle.rule_lookup.specs.Codes.{decoded}
use Rattle.rule_lookup.specs.Lookups.{Finding, Has, Absent, Broken}
use Rattle.rule_lookup.specs.declared.instr.Instr.{Instr}
use Rattle.rule_lookup.specs.declared.decision.DecideFault.{DecideFault}
use Rattle.rule_lookup.specs.declared.decision.Decision.{Decision}
use Rattle.rule_lookup.specs.declared.decision.WhenMissing.TheVariants.{Deny as DenyMissing}
use Rattle.rule_lookup.specs.declared.decision.Found.TheVariants as found
use Rattle.rule_lookup.specs.Decisions.{by_code, by_default, by_finding, by_first, by_rule, is_there, without_file}
use Rattle.rule_lookup.specs.Forms.{forms_of}
use Rattle.rule_lookup.specs.Peers.{Client}
use Rattle.rules_tools.specs.Checks.{DecidesBy}
use Rattle.rules_tools.specs.Told.{DecidesThere}

-- a decision that is another's has found what that has
other : {P : Type 0} (made d : Decision) → (let answer : Result Decision DecideFault = Ok made in answer) ≡ Ok d → (made.found ≡ d.found → P) → P
other made d is then = let same : made ≡ d = cc in then (ap (λ (x : Decision). x.found) same)

by_code_there : (form : List ℕ) (instr : Option Instr) (d : Decision) → by_code form instr ≡ Ok d → d.found ≡ found.NoFile → ⊥
by_code_there form None d is missing = absurd (cc)
by_code_there form (Some instr) d is missing = other (by_rule form instr) d is (λ same. (let none = missing in cc))

by_finding_there : (form : List ℕ) (finding : Finding) (d : Decision) → by_finding form finding ≡ Ok d → d.found ≡ found.NoFile → ⊥
by_finding_there form Absent d is missing = other by_default d is (λ same. (let none = missing in cc))
by_finding_there form (Has code) d is missing = by_code_there form (decoded code) d is missing
by_finding_there form Broken d is missing = absurd (cc)

by_first_there : (finds : List ℕ → Finding) (form : Option (List ℕ)) (d : Decision) → by_first finds form ≡ Ok d → d.found ≡ found.NoFile → ⊥
by_first_there finds None d is missing = other by_default d is (λ same. (let none = missing in cc))
by_first_there finds (Some form) d is missing = by_finding_there form (finds form) d is missing

-- that there is no file is decided only where there is none
pub none_there : (file : Option (List ℕ)) (peer : Client) (d : Decision) → DecidesBy file peer d → d.found ≡ found.NoFile → file ≡ None
none_there None peer d is missing = refl
none_there (Some bytes) peer d is missing = absurd (by_first_there (reading bytes) (find (λ form. is_there (reading bytes form)) (forms_of peer)) d is missing)

-- and anything else only by a file that is there
pub one_there : (file : Option (List ℕ)) (peer : Client) (d : Decision) → DecidesBy file peer d → (d.found ≡ found.NoFile → ⊥) → DecidesThere file peer d
one_there None peer d is there = absurd (other (without_file DenyMissing) d is (λ same. there (sym same)))
one_there (Some bytes) peer d is there = (bytes, refl, is)
