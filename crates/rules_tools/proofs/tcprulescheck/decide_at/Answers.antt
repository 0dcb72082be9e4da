use Rattle.std.proofs.Common.{◌≡◌, inl, inr, IsTrue, MatchOption, ℕ, Bool, true, false, List, Option, Some, None, Result, Err, refl, sym, ap, ◌∙◌}
use Rattle.std.specs.Borrow.{Bor}
use Rattle.std.specs.Option.{option_map, option_copied, IsSomeAnd}
use Rattle.std.proofs.lemmas.Bool.{false≢true}
use Rattle.cdb_files.specs.Reading.{reading}
use Rattle.cdb_files.specs.Sources as cdb
use Rattle.rule_lookup.specs.declared.code.CodeFault.TheVariants.{NotCode}
use Rattle.rule_lookup.specs.declared.source.FindFault.TheVariants.{Short, Device as DeviceToFind, OutOfMemory as NoMemoryToFind}
use Rattle.rule_lookup.specs.Lookups.{Sound, WhereKnown}
use Rattle.rule_lookup.specs.declared.decision.DecideFault.{DecideFault}
use Rattle.rule_lookup.specs.declared.decision.DecideFault.TheVariants.{Find, Code, OutOfMemory as NoMemory}
use Rattle.rule_lookup.specs.declared.decision.Decision.{Decision}
use Rattle.rule_lookup.specs.declared.decision.WhenMissing.TheVariants.{Deny as DenyMissing}
use Rattle.rule_lookup.specs.Decisions.{decision_from, finds_of, trust_of, DecisionFails}
use Rattle.rule_lookup.specs.Peers.{Client}
use Rattle.rules_tools.specs.Checks.{Blames, FailsBy}
use Rattle.rules_tools.specs.Told.{told_decide}
use Rattle.rules_tools.proofs.tcprulescheck.decide_at.Goals as goal

-- the source that is made of a file is that file
source-opened : {F : Type 0} (opened made : Option F) → MatchOption opened (made ≡ None) (λ file. IsSomeAnd made (λ source. source ≡ file)) → made ≡ opened
source-opened None made is = is
source-opened (Some file) (Some source) is = ap Some is
source-opened (Some file) None is = absurd is

module _ {F : Type 0} (bytes : F → List ℕ) (source : Option (Bor F)) (file : Option (List ℕ)) where
  finds_of-file : option_map bytes (option_copied source) ≡ file → finds_of (λ (s : F) key. reading (bytes s) key) source ≡ option_map reading file
  finds_of-file same = of source ∙ ap (option_map reading) same where
    of : (s : Option (Bor F)) → finds_of (λ (s : F) key. reading (bytes s) key) s ≡ option_map reading (option_map bytes (option_copied s))
    of None = refl
    of (Some s) = refl

-- what is said of an honest source is known, and so it is without one
known : {F : Type 0} (honest sound : Bool) (source : Option (Bor F)) (A : Type 0) → IsTrue honest → WhereKnown (trust_of (λ (s : F). cdb.trust_of honest sound) source) A → A
known honest sound None A is fact = fact
known honest true (Some s) A is fact = fact
known true false (Some s) A is fact = fact
known false false (Some s) A is fact = absurd (false≢true is)

-- the decision by the source is that by the bytes of its file
module _ {F : Type 0} (bytes : F → List ℕ) (honest sound : Bool) (source : Option (Bor F)) (opened made : Option F) (file : Option (List ℕ)) (peer : Client) (is : IsTrue honest) (copied : option_copied source ≡ made) (made_of : made ≡ opened) (held : option_map bytes opened ≡ file) where
  decision-file : (r : Result Decision DecideFault) → WhereKnown (trust_of (λ (s : F). cdb.trust_of honest sound) source) (decision_from (finds_of (λ (s : F) key. reading (bytes s) key) source) DenyMissing peer ≡ r) → decision_from (option_map reading file) DenyMissing peer ≡ r
  decision-file r decided =
      ap (λ finds. decision_from finds DenyMissing peer) (sym (finds_of-file bytes source file (ap (option_map bytes) (copied ∙ made_of) ∙ held)))
      ∙ known honest sound source (decision_from (finds_of (λ (s : F) key. reading (bytes s) key) source) DenyMissing peer ≡ r) is decided

  -- and it fails for damage alone
  fails_by : (fault : DecideFault) → DecisionFails (trust_of (λ (s : F). cdb.trust_of honest sound) source) (decision_from (finds_of (λ (s : F) key. reading (bytes s) key) source) DenyMissing peer) fault → FailsBy file peer (told_decide fault)
  fails_by (Find Short) fails = inl (decision-file (Err (Find Short)) fails)
  fails_by (Find DeviceToFind) fails = tt
  fails_by (Find NoMemoryToFind) fails = tt
  fails_by (Code NotCode) fails = inr (decision-file (Err (Code NotCode)) fails)
  fails_by NoMemory fails = tt

-- a device is blamed for a file that is not sound
sound_is : {F : Type 0} (honest sound : Bool) (source : Option (Bor F)) → IsTrue sound → trust_of (λ (s : F). cdb.trust_of honest sound) source ≡ Sound
sound_is honest sound None is = refl
sound_is honest true (Some s) is = refl
sound_is honest false (Some s) is = absurd (false≢true is)

blames : {F : Type 0} (honest sound : Bool) (source : Option (Bor F)) (expected : Result Decision DecideFault) (before now : ℕ) (fault : DecideFault)
    → DecisionFails (trust_of (λ (s : F). cdb.trust_of honest sound) source) expected fault → Blames before now sound (told_decide fault)
blames honest sound source expected before now (Find DeviceToFind) fails = λ is. fails (sound_is honest sound source is)
blames honest sound source expected before now (Find Short) fails = tt
blames honest sound source expected before now (Find NoMemoryToFind) fails = tt
blames honest sound source expected before now (Code fault) fails = tt
blames honest sound source expected before now NoMemory fails = tt

pub returns-in-Ok-decided-clause-decided : goal.returns-in-Ok-decided-clause-decided
returns-in-Ok-decided-clause-decided g c honest =
    decision-file g.D.File.RulesFile.bytes g.D.File.RulesFile.honest g.D.File.RulesFile.sound c.as_ref.result c.in-Ok.file c.map-file.result _ c.args.peer.now (g.met.D.Dir.honest_files honest)
    c.as_ref.ensures.value (source-opened _ _ c.map-file.ensures.cases) (c.in-Ok.ensures.opened honest) _ c.in-Ok-decided.ensures.decided

pub returns-in-Err-decided-clause-refused : goal.returns-in-Err-decided-clause-refused
returns-in-Err-decided-clause-refused g c honest =
    rw c.told.ensures
    (fails_by g.D.File.RulesFile.bytes g.D.File.RulesFile.honest g.D.File.RulesFile.sound c.as_ref.result c.in-Ok.file c.map-file.result _ c.args.peer.now (g.met.D.Dir.honest_files honest)
    c.as_ref.ensures.value (source-opened _ _ c.map-file.ensures.cases) (c.in-Ok.ensures.opened honest) c.in-Err-decided.fault c.in-Err-decided.ensures.refused)

pub returns-in-Err-decided-clause-blames : goal.returns-in-Err-decided-clause-blames
returns-in-Err-decided-clause-blames g c =
    rw c.told.ensures
    (blames g.D.File.RulesFile.honest g.D.File.RulesFile.sound c.as_ref.result _ _ _ c.in-Err-decided.fault c.in-Err-decided.ensures.refused)
