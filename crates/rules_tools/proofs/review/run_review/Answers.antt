use Rattle.std.proofs.Common.{◌≡◌, ◌==◌, ◌∙◌, ◌+◌, ℕ, List, not, length, take, subst, sym, ap}
use Rattle.std.specs.Prelude.{IfSome}
use Rattle.std.specs.Io.KnownBytes.{Appends}
use Rattle.rule_lines.specs.declared.limits.Limits.{Limits}
use Rattle.rule_lines.specs.Faults.{IsAccepted}
use Rattle.rule_warnings.specs.Warnings.{report_of, warnings_of}
use Rattle.rules_tools.specs.Reviews.{ReviewFails, profile}
use Rattle.rules_tools.proofs.ReadLemmas.{fault_of_input, limits_are, of_input}
use Rattle.rules_tools.proofs.review.run_review.Goals as goal

pub returns-in-Ok-write_warnings-clause-accepted : goal.returns-in-Ok-write_warnings-clause-accepted
returns-in-Ok-write_warnings-clause-accepted g c =
    let limits = c.profile-limits.result in
    let is = limits_are limits c.profile-limits.ensures.text c.profile-limits.ensures.line c.profile-limits.ensures.file in
    let accepted = subst (IsAccepted limits) c.deref.ensures.value c.in-Ok-write_warnings.ensures.accepted in
    of_input limits (g.R.Read.remaining c.args.reader.now) c.in-Ok.text.items c.in-Ok.ensures.text accepted (IsAccepted profile) (subst (λ (l : Limits). IsAccepted l c.in-Ok.text.items) is accepted)

pub returns-in-Ok-write_warnings-clause-written : goal.returns-in-Ok-write_warnings-clause-written
returns-in-Ok-write_warnings-clause-written g c =
    let limits = c.profile-limits.result in
    let accepted = subst (IsAccepted limits) c.deref.ensures.value c.in-Ok-write_warnings.ensures.accepted in
    of_input limits (g.R.Read.remaining c.args.reader.now) c.in-Ok.text.items c.in-Ok.ensures.text accepted
    (λ text. Appends (g.W.Write.contents c.args.errors.now) (g.W.Write.contents c.write_warnings.new.writer) (report_of text))
    (subst (λ (text : List ℕ). Appends (g.W.Write.contents c.args.errors.now) (g.W.Write.contents c.write_warnings.new.writer) (report_of text)) c.deref.ensures.value c.in-Ok-write_warnings.ensures.written)

pub returns-in-Ok-write_warnings-clause-warned : goal.returns-in-Ok-write_warnings-clause-warned
returns-in-Ok-write_warnings-clause-warned g c =
    let limits = c.profile-limits.result in
    let accepted = subst (IsAccepted limits) c.deref.ensures.value c.in-Ok-write_warnings.ensures.accepted in
    of_input limits (g.R.Read.remaining c.args.reader.now) c.in-Ok.text.items c.in-Ok.ensures.text accepted
    (λ text. c.in-Ok-write_warnings.warned ≡ not (length (warnings_of text) == 0))
    (c.in-Ok-write_warnings.ensures.warned ∙ ap (λ (text : List ℕ). not (length (warnings_of text) == 0)) c.deref.ensures.value)

pub returns-clause-refused : goal.returns-clause-refused
returns-clause-refused g c =
    let limits = c.profile-limits.result in
    let is = limits_are limits c.profile-limits.ensures.text c.profile-limits.ensures.line c.profile-limits.ensures.file in
    let read = c.in-Ok.ensures.text in
    let told = subst (λ (text : List ℕ). IfSome (g.R.Read.remaining c.args.reader.now) (λ all. text ≡ take (limits.text + 1) all)) (sym c.deref.ensures.value) read in
    subst (ReviewFails (g.R.Read.remaining c.args.reader.now)) (sym c.into.ensures)
    (fault_of_input limits (g.R.Read.remaining c.args.reader.now) c.deref.result.now c.in-Err-write_warnings.fault is told c.in-Err-write_warnings.ensures.refused)
