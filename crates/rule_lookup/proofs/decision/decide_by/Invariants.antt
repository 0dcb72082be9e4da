use Rattle.std.proofs.Common.{◌≡◌, map, drop, find, string_bytes}
use Rattle.std.specs.List.{Any}
use Rattle.rule_lookup.specs.Lookups.{WhereKnown}
use Rattle.rule_lookup.specs.Decisions.{asked, is_there}
use Rattle.rule_lookup.specs.Forms.{forms_of}
use Rattle.rule_lookup.proofs.decision.decide_by.Given as goal

-- the source has nothing under the forms so far, so a fault under the later ones is one under those that are looked up
abbrev pub invariant-loop-form : goal.invariant-loop-form
invariant-loop-form g l = record {
  all : map string_bytes l.form-items ≡ forms_of l.peer;
  first : WhereKnown (g.S.RuleSource.trust l.source) (find (λ form. is_there (g.S.RuleSource.finds l.source form)) (drop l.form-index (forms_of l.peer)) ≡ find (λ form. is_there (g.S.RuleSource.finds l.source form)) (forms_of l.peer));
  asked : WhereKnown (g.S.RuleSource.trust l.source) (Any (g.S.RuleSource.may_fail l.source) (asked (g.S.RuleSource.finds l.source) (drop l.form-index (forms_of l.peer))) → Any (g.S.RuleSource.may_fail l.source) (asked (g.S.RuleSource.finds l.source) (forms_of l.peer)));
}
