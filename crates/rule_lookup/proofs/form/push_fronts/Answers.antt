use Rattle.std.proofs.Common.{◌≡◌, ◌++◌, ◌∷◌, [], ℕ, List, arith, ap, ◌∙◌, map, string_bytes, ◌-◌, get_or, take, eqb}
use Rattle.rule_lookup.specs.Spread.{folded}
use Rattle.std.proofs.lemmas.Str.{IsCharBoundary-after_ascii}
use Rattle.rule_lookup.proofs.FormLemmas.{fronts_kept-dot, fronts_kept-other, eqb-other}
use Rattle.rule_lookup.proofs.form.push_fronts.Goals as goal

pub range-requires-clause-end_boundary : goal.range-requires-clause-end_boundary
range-requires-clause-end_boundary c =
    let dot : get_or c.args.ip.now (c.loop-i.i - 1) 0 ≡ 46 = cc in
    IsCharBoundary-after_ascii c.args.ip.now (c.loop-i.i - 1) c.utf8.ip (omega arith) (omega arith)

pub loop-i-preserved-in-Continue-1 : goal.loop-i-preserved-in-Continue-1
loop-i-preserved-in-Continue-1 c =
    let dot : get_or c.args.ip.now (c.loop-i.i - 1) 0 ≡ 46 = cc in
    let text : c.range.result.now ≡ take c.loop-i.i c.args.ip.now = grind arith in
    fronts_kept-dot (map string_bytes c.loop-i.forms.items) (map string_bytes c.push_form.new.forms.items) c.args.ip.now (c.loop-i.i - 1) c.loop-i.i (omega arith) (omega arith) (ap (λ b. eqb b 46) dot) (c.in_ok-push_form.ensures ∙ ap (λ (t : List ℕ). map string_bytes c.loop-i.forms.items ++ folded t ∷ []) text) ∙ c.loop-i.invariant

pub loop-i-preserved : goal.loop-i-preserved
loop-i-preserved c =
    fronts_kept-other (map string_bytes c.loop-i.forms.items) c.args.ip.now (c.loop-i.i - 1) c.loop-i.i (omega arith) (omega arith) (eqb-other (get_or c.args.ip.now (c.loop-i.i - 1) 0) 46 (λ e. c.if-as_bytes-i-eq46.false (ap (λ (s : List ℕ). get_or s (c.loop-i.i - 1) 0) c.as_bytes.ensures.value ∙ e))) ∙ c.loop-i.invariant
