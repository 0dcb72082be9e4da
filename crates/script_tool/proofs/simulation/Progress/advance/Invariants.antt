use Rattle.memory_dirs.specs.MemDir.{mem_state}
use Rattle.rules_install.specs.Installs.{installing}
use Rattle.script_tool.specs.Kept.{steps_left}
use Rattle.script_tool.proofs.ProgressLemmas.{Advances}
use Rattle.script_tool.proofs.simulation.Progress.advance.Given as goal

abbrev pub invariant-loop-self : goal.invariant-loop-self
invariant-loop-self l = Advances l.fn.target (mem_state l.initial.dir) (mem_state l.dir) l.initial.self l.self

abbrev pub decreases-loop-self : goal.decreases-loop-self
decreases-loop-self l = steps_left (installing l.self.install)
