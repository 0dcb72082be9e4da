use Rattle.std.proofs.Common.{◌∙◌, ap, arith, map, refl, string_bytes}
use Rattle.std.proofs.lemmas.Result.{err_from_is_err_and}
use Rattle.rule_lookup.specs.Forms.{forms_of}
use Rattle.rule_lookup.proofs.DecisionLemmas.{Absent-from, Any-asked-here, Any-asked-later, WhereKnown-map, WhereKnown-of, form_at, first-later, no_device, decided-default, decided-here, decision_no_device, memory_no_device, refused-look_up, refused-memory}
use Rattle.rule_lookup.proofs.decision.decide_by.Goals as goal

pub returns-in_err-instr-clause-refused : goal.returns-in_err-instr-clause-refused
returns-in_err-instr-clause-refused g c =
    let finds = g.S.RuleSource.finds c.args.source.now in
    let trust = g.S.RuleSource.trust c.args.source.now in
    let form = string_bytes c.form-item.result in
    let at = form_at c.deref-form-items.result.now (forms_of c.args.peer.now) c.loop-form.form-index c.form-item.result c.loop-form.invariant.all (omega arith) c.form-item.is in
    let p = err_from_is_err_and c.from_residual-in_err-instr.result c.from_residual-in_err-instr.ensures.1 in
    rw (p.1, p.2) (refused-look_up finds trust (forms_of c.args.peer.now) c.loop-form.form-index form at.0 at.1 c.in_err-instr.field-0.0 c.loop-form.invariant.first (rw c.as_bytes.ensures.value at c.in_err-instr.ensures.refused))

pub returns-in-Some-clause-decided : goal.returns-in-Some-clause-decided
returns-in-Some-clause-decided g c =
    let finds = g.S.RuleSource.finds c.args.source.now in
    let trust = g.S.RuleSource.trust c.args.source.now in
    let form = string_bytes c.form-item.result in
    let at = form_at c.deref-form-items.result.now (forms_of c.args.peer.now) c.loop-form.form-index c.form-item.result c.loop-form.invariant.all (omega arith) c.form-item.is in
    decided-here finds trust (forms_of c.args.peer.now) c.loop-form.form-index form at.0 at.1 c.in-Some.instr c.by_instr.result c.loop-form.invariant.first
    (rw (c.in-Some.is, c.as_bytes.ensures.value) at c.in_ok-instr.ensures.found) (rw c.as_str.ensures.value at c.by_instr.ensures.decided)

pub returns-in-Some-clause-refused : goal.returns-in-Some-clause-refused
returns-in-Some-clause-refused g c = refused-memory (g.S.RuleSource.trust c.args.source.now) _ c.by_instr.result c.by_instr.ensures.refused

pub loop-form-preserved : goal.loop-form-preserved
loop-form-preserved g c =
    let at = form_at c.deref-form-items.result.now (forms_of c.args.peer.now) c.loop-form.form-index c.form-item.result c.loop-form.invariant.all (omega arith) c.form-item.is in
    record {
      all = c.loop-form.invariant.all;
      first = first-later (g.S.RuleSource.finds c.args.source.now) (g.S.RuleSource.trust c.args.source.now) (forms_of c.args.peer.now) c.loop-form.form-index (string_bytes c.form-item.result) at.0 at.1 c.loop-form.invariant.first
          (WhereKnown-map (g.S.RuleSource.trust c.args.source.now) (Absent-from _) (rw (c.in_default.is, c.as_bytes.ensures.value) at c.in_ok-instr.ensures.found));
      asked = Any-asked-later (g.S.RuleSource.finds c.args.source.now) (g.S.RuleSource.trust c.args.source.now) (forms_of c.args.peer.now) c.loop-form.form-index (string_bytes c.form-item.result) at.0 at.1
          (g.S.RuleSource.may_fail c.args.source.now) c.loop-form.invariant.asked (WhereKnown-map (g.S.RuleSource.trust c.args.source.now) (Absent-from _) (rw (c.in_default.is, c.as_bytes.ensures.value) at c.in_ok-instr.ensures.found));
    }

pub loop-form-init : goal.loop-form-init
loop-form-init g c = record {
  all = ap (map string_bytes) c.deref-form-items.ensures.value ∙ c.in_ok-forms.ensures;
  first = WhereKnown-of (g.S.RuleSource.trust c.args.source.now) refl;
  asked = WhereKnown-of (g.S.RuleSource.trust c.args.source.now) (λ any. any);
}

pub returns-in_err-instr-clause-device : goal.returns-in_err-instr-clause-device
returns-in_err-instr-clause-device g c = λ is.
    let at = form_at c.deref-form-items.result.now (forms_of c.args.peer.now) c.loop-form.form-index c.form-item.result c.loop-form.invariant.all (omega arith) c.form-item.is in
    let p = err_from_is_err_and c.from_residual-in_err-instr.result c.from_residual-in_err-instr.ensures.1 in
    let fails = rw c.as_bytes.ensures.value at (c.in_err-instr.ensures.device (cc (p.1, p.2, is))) in
    Any-asked-here (g.S.RuleSource.finds c.args.source.now) (g.S.RuleSource.trust c.args.source.now) (forms_of c.args.peer.now) c.loop-form.form-index (string_bytes c.form-item.result) at.0 at.1
    (g.S.RuleSource.may_fail c.args.source.now) c.loop-form.invariant.asked fails

pub returns-in-Some-clause-device : goal.returns-in-Some-clause-device
returns-in-Some-clause-device g c = no_device c.by_instr.result c.by_instr.ensures.refused

pub returns-clause-device : goal.returns-clause-device
returns-clause-device g c = λ is. decision_no_device c.by_default.result is

pub returns-in_err-instr-clause-decided : goal.returns-in_err-instr-clause-decided
returns-in_err-instr-clause-decided g c =
    let p = err_from_is_err_and c.from_residual-in_err-instr.result c.from_residual-in_err-instr.ensures.1 in
    rw p.1 tt

pub returns-in_err-forms-clause-decided : goal.returns-in_err-forms-clause-decided
returns-in_err-forms-clause-decided g c =
    let p = err_from_is_err_and c.from_residual.result c.from_residual.ensures.1 in
    rw p.1 tt

pub returns-in_err-forms-clause-refused : goal.returns-in_err-forms-clause-refused
returns-in_err-forms-clause-refused g c =
    let p = err_from_is_err_and c.from_residual.result c.from_residual.ensures.1 in
    rw (p.1, p.2) tt

pub returns-in_err-forms-clause-device : goal.returns-in_err-forms-clause-device
returns-in_err-forms-clause-device g c = λ is.
    let p = err_from_is_err_and c.from_residual.result c.from_residual.ensures.1 in
    memory_no_device c.from_residual.result p.0 p.1 p.2 is

pub returns-clause-decided : goal.returns-clause-decided
returns-clause-decided g c = decided-default (g.S.RuleSource.finds c.args.source.now) (g.S.RuleSource.trust c.args.source.now) c.deref-form-items.result.now (forms_of c.args.peer.now) c.loop-form.form-index c.by_default.result c.loop-form.invariant.all c.loop-form-test.false c.by_default.ensures c.loop-form.invariant.first
