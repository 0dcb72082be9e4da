use Rattle.std.proofs.Common.{◌≡◌, refl, sym, ◌∙◌, arith}
use Rattle.memory_dirs.specs.MemDir.{mem_state}
use Rattle.rules_install.specs.Installing.{next_phase}
use Rattle.rules_install.specs.Installs.{installing}
use Rattle.rules_install.specs.declared.fault.InstallFault.TheVariants.{OutOfMemory}
use Rattle.script_tool.proofs.ProgressLemmas.{fails_for_memory, fewer_left, installing_on, texts_on}
use Rattle.script_tool.proofs.simulation.Progress.step.Goals as goal

pub unreachable-requires : goal.unreachable-requires
unreachable-requires c =
    let s = installing c.args.self.now.install in
    let is : c.in-Err.fault ≡ OutOfMemory = fails_for_memory (next_phase s) s (installing c.step.new.self) c.in-Err.fault (c.in-Err.ensures.goes c.requires.1.goes_on) (c.in-Err.ensures.device refl) c.in-Err.ensures.blames in
    grind arith

pub returns-in-Ok-clause-goes : goal.returns-in-Ok-clause-goes
returns-in-Ok-clause-goes c = λ b at.
    let goes = c.in-Ok.ensures.goes at.goes_on in
    (goes.0, installing_on (mem_state c.args.dir.now) (mem_state c.step.new.dir) c.args.self.now b at _ c.in-Ok.phase c.step.ensures.same goes c.in-Ok.ensures.kept refl (c.step.ensures.fits refl))

pub returns-in-Ok-clause-texts : goal.returns-in-Ok-clause-texts
returns-in-Ok-clause-texts c = λ b t at has.
    texts_on (mem_state c.args.dir.now) (mem_state c.step.new.dir) c.args.self.now b at t c.in-Ok.phase (c.in-Ok.ensures.goes at.goes_on).0
    (c.in-Ok.ensures.changes refl at.goes_on (λ done. c.requires.2 (sym c.requires.1.phase ∙ done))) c.step.ensures.written has

pub returns-in-Ok-clause-fewer : goal.returns-in-Ok-clause-fewer
returns-in-Ok-clause-fewer c =
    fewer_left (installing c.args.self.now.install) (installing c.step.new.self) c.in-Ok.phase c.step.ensures.same (c.in-Ok.ensures.goes c.requires.1.goes_on) c.in-Ok.ensures.kept
    (λ done. c.requires.2 (sym c.requires.1.phase ∙ done)) c.in-Ok.ensures.more
