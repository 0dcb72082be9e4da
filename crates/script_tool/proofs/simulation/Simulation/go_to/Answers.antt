use Rattle.std.proofs.Common.{◌++◌, Option, ap, ◌∙◌}
use Rattle.std.proofs.lemmas.Result.{on_ok_weaker}
use Rattle.memory_dirs.specs.MemDir.{mem_state}
use Rattle.dir_calls.specs.declared.phase.Phase.{Phase}
use Rattle.script_tool.specs.Replies.{reached_line}
use Rattle.script_tool.proofs.GoLemmas.{GoesTo, GoesTo-none, GoesTo-some}
use Rattle.script_tool.proofs.InstallLemmas.{IsOfBegun-some}
use Rattle.script_tool.proofs.simulation.Simulation.go_to.Goals as goal
use Rattle.script_tool.proofs.simulation.Simulation.go_to.Goals.{in-None, in-Some+in_ok-advance-in-Some}

pub advance-requires : goal.advance-requires
advance-requires c =
    let begun = IsOfBegun-some (mem_state c.args.self.now.dir) c.args.self.now.begun c.in-Some.progress c.requires.0.begun c.in-Some.is c.requires.1.begun in
    (begun.of, begun.installing)

pub returns : goal.returns
returns c = λ state at.
    let kept = c.args.self.now in
    let now = c.match-self.self in
    let reached = c.match-self.reached in
    let goes : GoesTo c.args.target state now reached = elim c.match-self.branch [
      | in-None w ↦ GoesTo-none c.args.target state kept at now reached w.in-None.is w.self-is w.reached-is
      | in-Some+in_ok-advance-in-Some w ↦
          GoesTo-some c.args.target state kept at now reached w.in-Some.progress w.advance.new.self w.advance.new.dir w.in_ok-advance-in-Some.field-0 w.in_ok-advance-in-Some.ensures w.in-Some.is w.self-is w.reached-is
    ] in
    on_ok_weaker c.append_reached.result (λ e. (goes.at, e ∙ ap (λ (phase : Option Phase). c.args.out.now.items ++ reached_line phase) goes.tells)) c.append_reached.ensures
