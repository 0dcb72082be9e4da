use Rattle.std.proofs.Common.{sym, ◌∙◌, arith}
use Rattle.std.proofs.lemmas.Result.{err_from_is_err_and}
use Rattle.dir_calls.specs.Calls.{settles}
use Rattle.dir_calls.proofs.Clearing.{stays_on as then_stays}
use Rattle.dir_calls.proofs.Lasting.{settles_keeps}
use Rattle.dir_calls.proofs.Replacing.{stays_on}
use Rattle.rules_install.specs.Installs.{installing}
use Rattle.rules_tools.proofs.BeginLemmas.{blames_settling, counts_on, first_at, first_begins, first_begun, first_fails, first_spares, first_stays, fits_settled, fits_unbegun, settled_stays}
use Rattle.rules_tools.proofs.steps.begin.Goals as goal

pub step-requires : goal.step-requires
step-requires g c = record { fits = λ honest. fits_unbegun (installing c.args.install.now) (g.D.Dir.state c.args.dir.now) c.requires.unbegun }

pub returns-in_err-step-clause-begins : goal.returns-in_err-step-clause-begins
returns-in_err-step-clause-begins g c = λ honest.
    let p = err_from_is_err_and c.from_residual.result c.from_residual.ensures.1 in
    rw (p.1, p.2)
    (first_fails (installing c.args.install.now) (installing c.step.new.self) (g.D.Dir.state c.args.dir.now) (g.D.Dir.state c.step.new.dir) c.in_err-step.field-0.0
    (c.in_err-step.ensures.changes honest c.requires.is_open (λ done. let no = sym c.requires.unbegun ∙ done in absurd (cc))))

pub returns-in_err-step-clause-faults : goal.returns-in_err-step-clause-faults
returns-in_err-step-clause-faults g c =
    let p = err_from_is_err_and c.from_residual.result c.from_residual.ensures.1 in
    rw (p.1, p.2)
    (first_at (installing c.args.install.now) (installing c.step.new.self) c.in_err-step.field-0.0 c.requires.unbegun (c.in_err-step.ensures.goes c.requires.is_open))

pub returns-in_err-step-clause-others : goal.returns-in_err-step-clause-others
returns-in_err-step-clause-others g c = λ honest.
    first_spares (installing c.args.install.now) (g.D.Dir.state c.args.dir.now) (g.D.Dir.state c.step.new.dir) c.step.result c.requires.unbegun (c.step.ensures.device honest)
    (c.step.ensures.changes honest c.requires.is_open (λ done. (let no = sym c.requires.unbegun ∙ done in absurd (cc))))

pub returns-in-Ok-clause-others : goal.returns-in-Ok-clause-others
returns-in-Ok-clause-others g c = λ honest other differ.
    let spares = first_spares (installing c.args.install.now) (g.D.Dir.state c.args.dir.now) (g.D.Dir.state c.step.new.dir) c.step.result c.requires.unbegun (c.step.ensures.device honest)
    (c.step.ensures.changes honest c.requires.is_open (λ done. (let no = sym c.requires.unbegun ∙ done in absurd (cc)))) in
    then_stays other (g.D.Dir.state c.args.dir.now) (g.D.Dir.state c.step.new.dir) (g.D.Dir.state c.settle.new.self) (spares other differ)
    (settled_stays other (g.D.Dir.state c.step.new.dir) (g.D.Dir.state c.settle.new.self) c.settle.result (c.settle.ensures.does honest))

pub returns-in-Err-clause-others : goal.returns-in-Err-clause-others
returns-in-Err-clause-others g c = λ honest other differ.
    let spares = first_spares (installing c.args.install.now) (g.D.Dir.state c.args.dir.now) (g.D.Dir.state c.step.new.dir) c.step.result c.requires.unbegun (c.step.ensures.device honest)
    (c.step.ensures.changes honest c.requires.is_open (λ done. (let no = sym c.requires.unbegun ∙ done in absurd (cc)))) in
    then_stays other (g.D.Dir.state c.args.dir.now) (g.D.Dir.state c.step.new.dir) (g.D.Dir.state c.settle.new.self) (spares other differ)
    (settled_stays other (g.D.Dir.state c.step.new.dir) (g.D.Dir.state c.settle.new.self) c.settle.result (c.settle.ensures.does honest))

pub returns-in_err-step-clause-stays : goal.returns-in_err-step-clause-stays
returns-in_err-step-clause-stays g c = λ honest name differ.
    first_stays g.D.Dir (installing c.args.install.now) c.args.dir.now c.step.new.dir c.step.result c.requires.unbegun
    (λ image left. g.met.D.Dir.only_now c.args.dir.now image honest left) (c.step.ensures.device honest) (c.step.ensures.changes honest c.requires.is_open (λ done. (let no = sym c.requires.unbegun ∙ done in absurd (cc))))
    (c.step.ensures.time honest c.requires.is_open (λ done. (let no = sym c.requires.unbegun ∙ done in absurd (cc)))) name differ

pub returns-in_err-step-clause-device : goal.returns-in_err-step-clause-device
returns-in_err-step-clause-device g c = λ honest.
    let p = err_from_is_err_and c.from_residual.result c.from_residual.ensures.1 in
    rw (p.1, p.2) (c.in_err-step.ensures.device honest)

pub returns-in_err-step-clause-blames : goal.returns-in_err-step-clause-blames
returns-in_err-step-clause-blames g c =
    let p = err_from_is_err_and c.from_residual.result c.from_residual.ensures.1 in
    rw (p.1, p.2) c.in_err-step.ensures.blames

pub returns-in-Ok-clause-begins : goal.returns-in-Ok-clause-begins
returns-in-Ok-clause-begins g c = λ honest.
    let s = installing c.args.install.now in
    let d = g.D.Dir.state c.args.dir.now in
    first_begins s (installing c.step.new.self) d (g.D.Dir.state c.step.new.dir) (g.D.Dir.state c.settle.new.self) c.in_ok-step.field-0 c.requires.unbegun c.requires.is_open c.consistent.ensures
    (fits_unbegun s d c.requires.unbegun) c.step.ensures.same (c.in_ok-step.ensures.goes c.requires.is_open)
    (c.in_ok-step.ensures.changes honest c.requires.is_open (λ done. (let no = sym c.requires.unbegun ∙ done in absurd (cc)))) (c.in-Ok.ensures.does honest)

pub returns-in-Ok-clause-begun : goal.returns-in-Ok-clause-begun
returns-in-Ok-clause-begun g c =
    first_begun (installing c.args.install.now) (installing c.step.new.self) c.in_ok-step.field-0 c.requires.unbegun (c.in_ok-step.ensures.goes c.requires.is_open)

pub returns-in-Ok-clause-fits : goal.returns-in-Ok-clause-fits
returns-in-Ok-clause-fits g c = λ honest.
    fits_settled (installing c.step.new.self) (g.D.Dir.state c.step.new.dir) (g.D.Dir.state c.settle.new.self)
    (first_begun (installing c.args.install.now) (installing c.step.new.self) c.in_ok-step.field-0 c.requires.unbegun (c.in_ok-step.ensures.goes c.requires.is_open))
    (c.step.ensures.fits honest) (c.in-Ok.ensures.does honest)

pub returns-in-Err-clause-count : goal.returns-in-Err-clause-count
returns-in-Err-clause-count g c =
    let on = counts_on (g.D.Dir.failed c.step.new.dir) (g.D.Dir.failed c.settle.new.self) c.in-Err.fault c.in-Err.ensures.counted in
    omega (arith, c.step.ensures.failures, on)

pub returns-in-Err-clause-blames : goal.returns-in-Err-clause-blames
returns-in-Err-clause-blames g c =
    blames_settling (g.D.Dir.failed c.args.dir.now) (g.D.Dir.failed c.step.new.dir) (g.D.Dir.failed c.settle.new.self) c.in-Err.fault c.step.ensures.failures c.in-Err.ensures.counted

pub returns-in-Ok-clause-stays : goal.returns-in-Ok-clause-stays
returns-in-Ok-clause-stays g c = λ honest name differ contents lasts.
    let mid = c.step.new.dir in
    let so_far = first_stays g.D.Dir (installing c.args.install.now) c.args.dir.now mid c.step.result c.requires.unbegun
    (λ image left. g.met.D.Dir.only_now c.args.dir.now image honest left) (c.step.ensures.device honest) (c.step.ensures.changes honest c.requires.is_open (λ done. (let no = sym c.requires.unbegun ∙ done in absurd (cc))))
    (c.step.ensures.time honest c.requires.is_open (λ done. (let no = sym c.requires.unbegun ∙ done in absurd (cc)))) name differ contents lasts in
    let keeps = settles_keeps (g.D.Dir.state mid) name contents so_far.lasts in
    stays_on g.D.Dir name contents c.args.dir.now mid c.settle.new.self (λ _. settles) settles c.settle.result
    so_far (λ image left. g.met.D.Dir.only_now mid image honest left) (c.settle.ensures.time honest) (c.settle.ensures.does honest) keeps (λ _. keeps)

pub returns-in-Err-clause-stays : goal.returns-in-Err-clause-stays
returns-in-Err-clause-stays g c = λ honest name differ contents lasts.
    let mid = c.step.new.dir in
    let so_far = first_stays g.D.Dir (installing c.args.install.now) c.args.dir.now mid c.step.result c.requires.unbegun
    (λ image left. g.met.D.Dir.only_now c.args.dir.now image honest left) (c.step.ensures.device honest) (c.step.ensures.changes honest c.requires.is_open (λ done. (let no = sym c.requires.unbegun ∙ done in absurd (cc))))
    (c.step.ensures.time honest c.requires.is_open (λ done. (let no = sym c.requires.unbegun ∙ done in absurd (cc)))) name differ contents lasts in
    let keeps = settles_keeps (g.D.Dir.state mid) name contents so_far.lasts in
    stays_on g.D.Dir name contents c.args.dir.now mid c.settle.new.self (λ _. settles) settles c.settle.result
    so_far (λ image left. g.met.D.Dir.only_now mid image honest left) (c.settle.ensures.time honest) (c.settle.ensures.does honest) keeps (λ _. keeps)
