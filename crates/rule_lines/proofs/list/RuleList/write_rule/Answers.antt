-- A rule is one of the open range, or is found in its line, whose range is then open.
use Rattle.std.proofs.Common.{◌≡◌, ◌∙◌, List, Some, true, ap, length, slice_get, refl, subst, sym, arith}
use Rattle.rule_lines.specs.Kept.{IsStored, rule_of_line, rules_in}
use Rattle.rule_lookup.specs.Pairs.{Rule}
use Rattle.rule_lines.proofs.OpenLemmas.{IsStored-range}
use Rattle.rule_lines.proofs.list.RuleList.write_rule.Goals as goal

pub returns-in-Some-clause-written : goal.returns-in-Some-clause-written
returns-in-Some-clause-written c =
    let list = c.self.inside in
    subst (λ (rules : List Rule). IsStored (slice_get rules c.args.i) true c.write.new.rule.key.items c.write.new.rule.code.items) c.self.view_is
    (IsStored-range list.kept.items list.range c.args.i c.in-Some.position c.write.new.rule.key.items c.write.new.rule.code.items c.self.invariant.range_is c.in-Some.ensures.0 c.in-Some.ensures.1 c.in_ok-write.ensures.key c.in_ok-write.ensures.code)

pub rule_at-requires-clause-fits : goal.rule_at-requires-clause-fits
rule_at-requires-clause-fits c = omega (arith, ap (λ bytes. length (rules_in bytes)) c.deref.ensures.value, c.self.invariant.tallied.counted)

pub rule_at-requires-clause-from : goal.rule_at-requires-clause-from
rule_at-requires-clause-from c =
    rw c.deref.ensures.value (c.not_behind.ensures.line c.self.inside.kept.items c.self.invariant.lines c.self.invariant.near_is)

pub take_up-requires : goal.take_up-requires
take_up-requires c = c.in-Some-rule_at.ensures.position_by

-- the range is open among the lines that were kept, whether or not there was memory for it
pub invariant_of-self : goal.invariant_of-self
invariant_of-self c =
    let found = rw c.deref.ensures.value at c.in-Some-rule_at.ensures in
    record {
      tallied = c.self.invariant.tallied;
      lines = c.self.invariant.lines;
      near_is = c.self.invariant.near_is;
      range_is = c.take_up.ensures c.self.inside.kept.items found c.self.invariant.range_is;
      of_text = c.self.invariant.of_text;
    }

pub invariant_of-pair : goal.invariant_of-pair
invariant_of-pair c = (c.in-Some-rule_at.ensures.decodes, c.in-Some-rule_at.ensures.position)

pub returns-clause-written : goal.returns-clause-written
returns-clause-written c =
    let found = rw c.deref.ensures.value at c.in-Some-rule_at.ensures in
    let rule : Rule = rule_of_line c.in-Some-rule_at.found.line c.in-Some-rule_at.found.position in
    let here : slice_get c.args.self.now c.args.i ≡ Some rule = ap (λ (rules : List Rule). slice_get rules c.args.i) (sym c.self.view_is) ∙ found.rule in
    subst (λ at. IsStored at true c.put.new.rule.key.items c.put.new.rule.code.items) (sym here) (refl, c.in_ok-put.ensures.key, c.in_ok-put.ensures.code)
