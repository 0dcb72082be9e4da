use Rattle.std.proofs.Common.{◌≡◌, ◌∙◌, Bool, Result, Ok, Err, not, ap}
use Rattle.std.specs.Prelude.{IfOk}
use Rattle.rule_warnings.proofs.ReportLemmas.{warned-report}
use Rattle.rule_warnings.proofs.report.write_warnings.Goals as goal

told : {E : Type 0} (r : Result Bool E) (a b : Bool) → a ≡ b → IfOk r (λ now. now ≡ a) → IfOk r (λ now. now ≡ b)
told (Ok now) a b same is = is ∙ same
told (Err e) a b same is = tt

pub returns-clause-warned : goal.returns-clause-warned
returns-clause-warned g c = told c.write_lines.result _ _ (ap not (warned-report c.args.text.now)) c.write_lines.ensures.warned
