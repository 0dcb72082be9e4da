use Rattle.std.proofs.Common.{◌<◌, arith, ap}
use Rattle.memory_dirs.specs.MemDir.{mem_state}
use Rattle.script_tool.specs.Texts.{position_of, position_reached}
use Rattle.script_tool.proofs.ProgressLemmas.{advances_more, arrives, not_done, placed}
use Rattle.script_tool.proofs.simulation.Progress.advance.Goals as goal
use Rattle.script_tool.proofs.simulation.Progress.advance.Goals.{In_default, in_default-via-in-Some+else-position_of, in_default-via-in_default}

-- the phase is still to be reached
ahead : (c : In_default) → position_reached (c.loop-self.self.reached) < position_of c.args.target
ahead c =
    elim c.in_default.branch [
      | in_default-via-in-Some+else-position_of w ↦ omega (arith, ap position_reached w.in-Some.is)
      | in_default-via-in_default w ↦ omega (arith, ap position_reached w.in_default.is, (placed c.args.target).0)
    ]

pub returns-in-Some : goal.returns-in-Some
returns-in-Some c =
    arrives c.args.target (mem_state c.args.dir.now) (mem_state c.loop-self.dir) c.args.self.now c.loop-self.self c.loop-self.invariant c.in-Some.reached c.in-Some.is (omega arith)

pub step-requires : goal.step-requires
step-requires c =
    let at = c.loop-self.invariant.begun c.requires.0 c.requires.1 in
    (_, at, not_done (mem_state c.loop-self.dir) c.loop-self.self _ c.args.target at (ahead (goal.at.step-requires c).In_default))

pub loop-self-preserved : goal.loop-self-preserved
loop-self-preserved c =
    advances_more c.args.target (mem_state c.args.dir.now) (mem_state c.loop-self.dir) c.args.self.now c.loop-self.self c.loop-self.invariant
    (mem_state c.step.new.dir) c.step.new.self c.in_ok-step-in_default.field-0 _ (c.loop-self.invariant.begun c.requires.0 c.requires.1) (ahead (goal.at.loop-self-preserved c).In_default)
    c.in_ok-step-in_default.ensures.goes c.in_ok-step-in_default.ensures.texts
