use Rattle.std.proofs.Common.{IfSome}
use Rattle.script_tool.specs.Kept.{IsAt}
use Rattle.script_tool.specs.Sim.{State}
use Rattle.script_tool.proofs.RunLemmas.{RunsOn}
use Rattle.script_tool.proofs.sim.run_with.Given as goal

-- what is kept is a state; and what was written so far, and what the lines that are left print, are what the script prints
abbrev pub invariant-loop-number : goal.invariant-loop-number
invariant-loop-number g l =
    ((state : State) × IsAt l.kept state) × IfSome (g.R.Read.remaining l.fn.reader) (λ script. RunsOn (g.W.Write.contents l.fn.writer) (g.W.Write.contents l.writer) (g.R.Read.remaining l.reader) script l.number l.kept)
