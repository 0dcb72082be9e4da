use Rattle.std.proofs.Common.{◌≡◌, IsTrue, refl, sym, ◌∙◌, ap, subst, rules}
use Rattle.std.proofs.Math.Nat.{le_refl, le_trans}
use Rattle.std.proofs.lemmas.Option.{none-some, same_Some}
use Rattle.std.proofs.lemmas.Result.{err_from_is_err_and}
use Rattle.std.specs.Prelude.{Option, Some, Result, Ok, Err}
use denote.Enum.Bare.{differs_true, differs_false}
use Rattle.cdb_files.specs.Written.{Written}
use Rattle.cdb_files.specs.Compiled.{stored}
use Rattle.dir_calls.specs.Lasting.{LastsAmong}
use Rattle.rules_install.specs.Filled.{whole_file}
use Rattle.rules_install.specs.Installing.{next_phase}
use Rattle.rules_install.specs.Installs.{installing}
use Rattle.dir_calls.specs.contracts.phase.Phase.{the_type}
use Rattle.rules_install.specs.Series.{further, none}
use Rattle.dir_calls.specs.declared.phase.Phase.{Phase}
use Rattle.dir_calls.specs.declared.phase.Phase.TheVariants.{Done}
use Rattle.rules_install.specs.declared.fault.InstallFault.{InstallFault}
use Rattle.rules_install.proofs.WholeLemmas.{Progress, blames_run, done_lasts, ends_done, ends_run, failed_lasts, progress_more, progress_none, same_self, same_then, smaller, so_far, stays_consistent, stands_at_done, tells_where}
use Rattle.rules_install.proofs.whole.finish.Given.{Over}
use Rattle.rules_install.proofs.whole.finish.Goals as goal
use Rattle.rules_install.proofs.whole.finish.Goals.{After-step}

-- a fault is no phase
no_ok : {fault : InstallFault} {phase : Phase} → (let answer : Result Phase InstallFault = Err fault in answer) ≡ Ok phase → ⊥
no_ok is = absurd (cc)

-- a phase that was reached is the last one, or none was
last : {reached : Option Phase} {phase next : Phase} → phase ≡ next → reached ≡ Some next → reached ≡ Some Done → phase ≡ Done
last is at done = is ∙ same_Some _ _ (sym at ∙ done)

-- up to a step, whatever it answers
stepped : (g : Over) (c : After-step g) → IsTrue g.D.Dir.honest
    → Progress g.D.Dir (installing c.args.install.now) (Some (next_phase (installing c.loop.install))) c.args.dir.now c.step.new.dir
stepped g c honest =
    progress_more g.D.Dir (installing c.args.install.now) (installing c.loop.install) c.args.dir.now c.loop.dir c.step.new.dir
    c.loop.invariant.same (c.loop.invariant.progress honest) (c.step.ensures.old_or_new honest)

pub loop-init : goal.loop-init
loop-init g c = record {
  is_open = c.requires.is_open;
  consistent = c.consistent.ensures;
  undone = λ undone. undone;
  series = λ honest undone. none;
  same = same_self (installing c.args.install.now);
  fits = c.requires.fits;
  progress = λ honest. progress_none g.D.Dir (installing c.args.install.now) c.args.dir.now (λ image left. g.met.D.Dir.only_now c.args.dir.now image honest left);
  first = λ honest none. refl;
  failures = le_refl _;
}

pub returns-in_err-step-clause-ends : goal.returns-in_err-step-clause-ends
returns-in_err-step-clause-ends g c =
    let p = err_from_is_err_and c.from_residual.result c.from_residual.ensures.1 in
    let s = installing c.loop.install in
    rw (p.1, p.2) (ends_run s (installing c.step.new.self) c.in_err-step.field-0.0 c.loop.invariant.is_open (c.in_err-step.ensures.kept no_ok) (c.in_err-step.ensures.goes c.loop.invariant.is_open))

pub returns-in_err-step-clause-same : goal.returns-in_err-step-clause-same
returns-in_err-step-clause-same g c =
    same_then (installing c.args.install.now) (installing c.loop.install) (installing c.step.new.self) c.loop.invariant.same c.step.ensures.same

pub returns-in_err-step-clause-tells : goal.returns-in_err-step-clause-tells
returns-in_err-step-clause-tells g c = λ honest.
    let p = err_from_is_err_and c.from_residual.result c.from_residual.ensures.1 in
    rw (p.1, p.2)
    (tells_where (installing c.args.install.now) (installing c.loop.install) (installing c.step.new.self) (g.D.Dir.state c.args.dir.now) (g.D.Dir.state c.loop.dir) (g.D.Dir.state c.step.new.dir) c.in_err-step.field-0.0
    c.loop.invariant.same (λ done. no_ok (c.in_err-step.ensures.after_done c.loop.invariant.is_open done).0) (c.loop.invariant.fits honest c.loop.invariant.is_open) (c.loop.invariant.first honest)
    (c.in_err-step.ensures.goes c.loop.invariant.is_open) (c.in_err-step.ensures.device honest) (c.in_err-step.ensures.changes honest c.loop.invariant.is_open (λ done. no_ok (c.in_err-step.ensures.after_done c.loop.invariant.is_open done).0)))

pub returns-in_err-step-clause-stands : goal.returns-in_err-step-clause-stands
returns-in_err-step-clause-stands g c = λ honest.
    let p = err_from_is_err_and c.from_residual.result c.from_residual.ensures.1 in
    rw (p.1, p.2)
    (stands_at_done (installing c.args.install.now) (g.D.Dir.state c.args.dir.now) (g.D.Dir.state c.step.new.dir) c.in_err-step.field-0.0
    (tells_where (installing c.args.install.now) (installing c.loop.install) (installing c.step.new.self) (g.D.Dir.state c.args.dir.now) (g.D.Dir.state c.loop.dir) (g.D.Dir.state c.step.new.dir) c.in_err-step.field-0.0
    c.loop.invariant.same (λ done. no_ok (c.in_err-step.ensures.after_done c.loop.invariant.is_open done).0) (c.loop.invariant.fits honest c.loop.invariant.is_open) (c.loop.invariant.first honest)
    (c.in_err-step.ensures.goes c.loop.invariant.is_open) (c.in_err-step.ensures.device honest) (c.in_err-step.ensures.changes honest c.loop.invariant.is_open (λ done. no_ok (c.in_err-step.ensures.after_done c.loop.invariant.is_open done).0))))

pub returns-in_err-step-clause-any_moment : goal.returns-in_err-step-clause-any_moment
returns-in_err-step-clause-any_moment g c =
    λ honest olds lasts. (stepped g (goal.at.returns-in_err-step-clause-any_moment g c).After-step honest).any_moment olds lasts

pub returns-in_err-step-clause-lasts : goal.returns-in_err-step-clause-lasts
returns-in_err-step-clause-lasts g c = λ honest olds lasts.
    let p = err_from_is_err_and c.from_residual.result c.from_residual.ensures.1 in
    rw (p.1, p.2)
    (failed_lasts g.D.Dir (installing c.args.install.now) (installing c.loop.install) (installing c.step.new.self) c.args.dir.now c.loop.dir c.step.new.dir c.in_err-step.field-0.0 olds
    c.loop.invariant.same (c.in_err-step.ensures.goes c.loop.invariant.is_open) c.in_err-step.ensures.settling
    (λ done. no_ok (c.in_err-step.ensures.after_done c.loop.invariant.is_open done).0)
    (c.in_err-step.ensures.changes honest c.loop.invariant.is_open (λ done. no_ok (c.in_err-step.ensures.after_done c.loop.invariant.is_open done).0))
    (c.loop.invariant.progress honest) (c.step.ensures.old_or_new honest) lasts)

pub returns-in_err-step-clause-device : goal.returns-in_err-step-clause-device
returns-in_err-step-clause-device g c = λ honest.
    let p = err_from_is_err_and c.from_residual.result c.from_residual.ensures.1 in
    rw (p.1, p.2) (c.in_err-step.ensures.device honest)

pub returns-in_err-step-clause-blames : goal.returns-in_err-step-clause-blames
returns-in_err-step-clause-blames g c =
    let p = err_from_is_err_and c.from_residual.result c.from_residual.ensures.1 in
    rw (p.1, p.2) (blames_run (g.D.Dir.failed c.args.dir.now) (g.D.Dir.failed c.loop.dir) (g.D.Dir.failed c.step.new.dir) c.in_err-step.field-0.0 c.loop.invariant.failures c.in_err-step.ensures.blames)

pub returns-in_err-step-clause-series : goal.returns-in_err-step-clause-series
returns-in_err-step-clause-series g c = λ honest undone.
    let p = err_from_is_err_and c.from_residual.result c.from_residual.ensures.1 in
    rw (p.1, p.2) (
      installing c.loop.install,
      g.D.Dir.state c.loop.dir,
      c.loop.invariant.series honest undone,
      record {
        may = record { consistent = c.loop.invariant.consistent; is_open = c.loop.invariant.is_open; undone = c.loop.invariant.undone undone };
        fits = c.loop.invariant.fits honest;
        same = c.step.ensures.same;
        goes = c.in_err-step.ensures.goes c.loop.invariant.is_open;
        changes = c.in_err-step.ensures.changes honest c.loop.invariant.is_open (c.loop.invariant.undone undone);
        device = c.in_err-step.ensures.device honest;
      },
    )

pub loop-smaller : goal.loop-smaller
loop-smaller g c =
    smaller (installing c.loop.install) (installing c.step.new.self) c.in_ok-step.field-0 c.step.ensures.same (c.in_ok-step.ensures.goes c.loop.invariant.is_open)
    (differs_true the_type c.in_ok-step.field-0 Done (sym c.if-ne.ensures)) c.in_ok-step.ensures.more c.in_ok-step.ensures.kept

pub loop-preserved : goal.loop-preserved
loop-preserved g c =
    let goes = c.in_ok-step.ensures.goes c.loop.invariant.is_open in
    let other = differs_true the_type c.in_ok-step.field-0 Done (sym c.if-ne.ensures) in
    record {
      is_open = goes.2;
      consistent = stays_consistent (installing c.loop.install) (installing c.step.new.self) c.loop.invariant.consistent c.step.ensures.same c.step.new.self.unfilled;
      undone = λ undone done. other (last goes.0 goes.1 done);
      series = λ honest undone. further (c.loop.invariant.series honest undone) (record {
        may = record { consistent = c.loop.invariant.consistent; is_open = c.loop.invariant.is_open; undone = c.loop.invariant.undone undone };
        fits = c.loop.invariant.fits honest;
        same = c.step.ensures.same;
        goes = goes;
        changes = c.in_ok-step.ensures.changes honest c.loop.invariant.is_open (c.loop.invariant.undone undone);
        device = c.in_ok-step.ensures.device honest;
      });
      same = same_then (installing c.args.install.now) (installing c.loop.install) (installing c.step.new.self) c.loop.invariant.same c.step.ensures.same;
      fits = c.step.ensures.fits;
      progress = λ honest.
          subst (λ reached. Progress g.D.Dir (installing c.args.install.now) reached c.args.dir.now c.step.new.dir) (sym {b = Some (next_phase (installing c.loop.install))} goes.1)
          (stepped g (goal.at.loop-preserved g c).After-step honest);
      first = λ honest none. absurd (none-some _ (sym none ∙ goes.1));
      failures = le_trans c.loop.invariant.failures c.step.ensures.failures;
    }

pub returns-clause-same : goal.returns-clause-same
returns-clause-same g c =
    same_then (installing c.args.install.now) (installing c.loop.install) (installing c.step.new.self) c.loop.invariant.same c.step.ensures.same

pub returns-clause-ends : goal.returns-clause-ends
returns-clause-ends g c =
    ends_done (installing c.loop.install) (installing c.step.new.self) c.in_ok-step.field-0
    (differs_false the_type (search rules) c.in_ok-step.field-0 Done (sym c.if-ne.ensures)) (c.in_ok-step.ensures.goes c.loop.invariant.is_open)

pub returns-clause-series : goal.returns-clause-series
returns-clause-series g c = λ honest undone.
    further (c.loop.invariant.series honest undone) (record {
      may = record { consistent = c.loop.invariant.consistent; is_open = c.loop.invariant.is_open; undone = c.loop.invariant.undone undone };
      fits = c.loop.invariant.fits honest;
      same = c.step.ensures.same;
      goes = c.in_ok-step.ensures.goes c.loop.invariant.is_open;
      changes = c.in_ok-step.ensures.changes honest c.loop.invariant.is_open (c.loop.invariant.undone undone);
      device = c.in_ok-step.ensures.device honest;
    })

pub returns-clause-any_moment : goal.returns-clause-any_moment
returns-clause-any_moment g c = λ honest olds lasts. (stepped g (goal.at.returns-clause-any_moment g c).After-step honest).any_moment olds lasts

pub returns-clause-lasts : goal.returns-clause-lasts
returns-clause-lasts g c = λ honest olds lasts.
    let done : next_phase (installing c.loop.install) ≡ Done =
    sym (c.in_ok-step.ensures.goes c.loop.invariant.is_open).0 ∙ differs_false the_type (search rules) c.in_ok-step.field-0 Done (sym c.if-ne.ensures) in
    subst (λ phase. LastsAmong (g.D.Dir.state c.step.new.dir) (installing c.args.install.now).names.cdb (so_far (Some phase) (whole_file (installing c.args.install.now).rules) olds)) done
    ((stepped g (goal.at.returns-clause-lasts g c).After-step honest).lasts olds lasts)

pub returns-clause-done : goal.returns-clause-done
returns-clause-done g c = λ honest.
    let done = differs_false the_type (search rules) c.in_ok-step.field-0 Done (sym c.if-ne.ensures) in
    done_lasts (installing c.args.install.now) (installing c.loop.install) (g.D.Dir.state c.step.new.dir) c.loop.invariant.same (c.in_ok-step.ensures.done honest (ap Ok done))

pub returns-clause-written : goal.returns-clause-written
returns-clause-written g c = subst (λ list. Written (whole_file list) (stored list)) c.loop.invariant.same.rules c.step.ensures.written
