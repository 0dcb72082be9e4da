use Rattle.std.proofs.Common.{List, sym, ◌∙◌, subst}
use Rattle.std.specs.Prelude.{OnOk}
use Rattle.std.proofs.lemmas.Result.{err_from_is_err_and}
use Rattle.rule_lookup.specs.Pairs.{Rule}
use Rattle.rules_install.specs.Filled.{IsWritten}
use Rattle.rules_install.specs.Installs.{installing}
use Rattle.rules_tools.proofs.BeginLemmas.{blames_later}
use Rattle.rules_tools.proofs.RunLemmas.{after_keeps, after_lasts, begun_series, ends_on_disk, fresh_ends, same_done, same_keeps, same_lasts, unbegun_series, unready_keeps, unready_lasts}
use Rattle.rules_tools.proofs.steps.make_steps.Goals as goal

pub returns-in_err-begin-clause-ends : goal.returns-in_err-begin-clause-ends
returns-in_err-begin-clause-ends g c =
    let p = err_from_is_err_and c.from_residual.result c.from_residual.ensures.1 in
    rw (p.1, p.2) (fresh_ends c.in_err-begin.field-0.0 c.in_err-begin.ensures.faults)

pub returns-in_err-begin-clause-series : goal.returns-in_err-begin-clause-series
returns-in_err-begin-clause-series g c = λ honest.
    let p = err_from_is_err_and c.from_residual.result c.from_residual.ensures.1 in
    rw (p.1, p.2)
    (unbegun_series (installing c.args.install.now) (installing c.begin.new.install) (g.D.Dir.state c.args.dir.now) (g.D.Dir.state c.begin.new.dir) c.in_err-begin.field-0.0 c.in_err-begin.ensures.faults
    (c.in_err-begin.ensures.begins honest) (c.begin.ensures.others honest))

pub returns-in_err-begin-clause-any_moment : goal.returns-in_err-begin-clause-any_moment
returns-in_err-begin-clause-any_moment g c = λ honest.
    let s = installing c.args.install.now in
    unready_keeps g.D.Dir s c.args.dir.now c.begin.new.dir (c.begin.ensures.stays honest s.names.cdb (λ same. c.consistent.ensures.names (sym same)))

pub returns-in_err-begin-clause-lasts : goal.returns-in_err-begin-clause-lasts
returns-in_err-begin-clause-lasts g c = λ honest.
    let p = err_from_is_err_and c.from_residual.result c.from_residual.ensures.1 in
    let s = installing c.args.install.now in
    rw (p.1, p.2)
    (unready_lasts g.D.Dir s c.args.dir.now c.begin.new.dir (c.begin.ensures.stays honest s.names.cdb (λ same. c.consistent.ensures.names (sym same)))
    c.in_err-begin.field-0.0 c.in_err-begin.ensures.faults)

pub returns-in_err-begin-clause-device : goal.returns-in_err-begin-clause-device
returns-in_err-begin-clause-device g c = λ honest.
    let p = err_from_is_err_and c.from_residual.result c.from_residual.ensures.1 in
    rw (p.1, p.2) (c.in_err-begin.ensures.device honest)

pub returns-in_err-begin-clause-blames : goal.returns-in_err-begin-clause-blames
returns-in_err-begin-clause-blames g c =
    let p = err_from_is_err_and c.from_residual.result c.from_residual.ensures.1 in
    rw (p.1, p.2) c.in_err-begin.ensures.blames

pub finish-requires-clause-is_open : goal.finish-requires-clause-is_open
finish-requires-clause-is_open g c = c.in_ok-begin.ensures.begun.1

pub finish-requires-clause-fits : goal.finish-requires-clause-fits
finish-requires-clause-fits g c = λ honest. c.in_ok-begin.ensures.fits honest

pub returns-clause-same : goal.returns-clause-same
returns-clause-same g c = record {
  rules = c.finish.ensures.same.rules ∙ c.begin.ensures.same.rules;
  names = c.finish.ensures.same.names ∙ c.begin.ensures.same.names;
}

pub returns-clause-ends : goal.returns-clause-ends
returns-clause-ends g c = ends_on_disk (installing c.finish.new.install) c.finish.result c.finish.ensures.ends

pub returns-clause-series : goal.returns-clause-series
returns-clause-series g c = λ honest.
    begun_series (installing c.args.install.now) (installing c.begin.new.install) (installing c.finish.new.install) (g.D.Dir.state c.args.dir.now) (g.D.Dir.state c.begin.new.dir) (g.D.Dir.state c.finish.new.dir)
    (c.in_ok-begin.ensures.begins honest) c.in_ok-begin.ensures.begun c.finish.result (c.finish.ensures.series honest (λ done. (let no = sym c.in_ok-begin.ensures.begun.0 ∙ done in absurd (cc))))

pub returns-clause-any_moment : goal.returns-clause-any_moment
returns-clause-any_moment g c = λ honest.
    let s = installing c.args.install.now in
    after_keeps g.D.Dir s c.args.dir.now c.begin.new.dir c.finish.new.dir (c.begin.ensures.stays honest s.names.cdb (λ same. c.consistent.ensures.names (sym same)))
    (same_keeps g.D.Dir s (installing c.begin.new.install) c.begin.ensures.same c.begin.new.dir c.finish.new.dir (c.finish.ensures.any_moment honest))

pub returns-clause-lasts : goal.returns-clause-lasts
returns-clause-lasts g c = λ honest.
    let s = installing c.args.install.now in
    after_lasts g.D.Dir s c.args.dir.now c.begin.new.dir c.finish.new.dir c.finish.result (c.begin.ensures.stays honest s.names.cdb (λ same. c.consistent.ensures.names (sym same)))
    (same_lasts g.D.Dir s (installing c.begin.new.install) c.begin.ensures.same c.begin.new.dir c.finish.new.dir c.finish.result (c.finish.ensures.lasts honest))

pub returns-clause-done : goal.returns-clause-done
returns-clause-done g c = λ honest.
    same_done g.D.Dir (installing c.args.install.now) (installing c.begin.new.install) c.begin.ensures.same c.begin.new.dir c.finish.new.dir c.finish.result (c.finish.ensures.done honest)

pub returns-clause-written : goal.returns-clause-written
returns-clause-written g c =
    subst (λ (rules : List Rule). OnOk c.finish.result (IsWritten rules)) c.begin.ensures.same.rules c.finish.ensures.written

pub returns-clause-blames : goal.returns-clause-blames
returns-clause-blames g c =
    blames_later (g.D.Dir.failed c.args.dir.now) (g.D.Dir.failed c.begin.new.dir) (g.D.Dir.failed c.finish.new.dir) c.finish.result c.begin.ensures.count c.finish.ensures.blames
