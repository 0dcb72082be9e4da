use Rattle.rules_install.specs.Installs.{installing}
use Rattle.rules_install.specs.Series.{MayStepFrom}
use Rattle.whole_yard.proofs.Stopping.{leaves}
use Rattle.whole_yard.proofs.step.make_step.Goals as goal

pub returns-clause-leads : goal.returns-clause-leads
returns-clause-leads g c = λ honest.
    let s = installing c.args.install.now in
    let may : MayStepFrom s = record { consistent = c.consistent.ensures; is_open = c.requires.is_open; undone = c.requires.undone } in
    c.leads_on.ensures s (installing c.step.new.self) (g.D.Dir.state c.args.dir.now) (g.D.Dir.state c.step.new.dir) c.step.result
    (record {
      may = may;
      fits = c.requires.fits honest;
      same = c.step.ensures.same;
      goes = c.step.ensures.goes c.requires.is_open;
      changes = c.step.ensures.changes honest c.requires.is_open c.requires.undone;
      device = c.step.ensures.device honest;
    })

pub returns-clause-stops : goal.returns-clause-stops
returns-clause-stops g c = λ honest.
    let s = installing c.args.install.now in
    leaves g.D.Dir s c.args.dir.now c.step.new.dir
    (λ image left. g.met.D.Dir.only_now c.args.dir.now image honest left)
    (record { consistent = c.consistent.ensures; is_open = c.requires.is_open; undone = c.requires.undone })
    (c.step.ensures.time honest c.requires.is_open c.requires.undone)

pub returns-clause-goes : goal.returns-clause-goes
returns-clause-goes g c = c.step.ensures.goes c.requires.is_open

pub returns-clause-changes : goal.returns-clause-changes
returns-clause-changes g c = λ honest. c.step.ensures.changes honest c.requires.is_open c.requires.undone
