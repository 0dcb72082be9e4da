use Rattle.std.proofs.Common.{List, ℕ, Option, IfSome}
use Rattle.script_tool.specs.Kept.{Reads}
use Rattle.script_tool.proofs.LogLemmas.{AreAtMost, LogSoFar}
use Rattle.script_tool.proofs.verdicts.compare_log.Given as goal

-- the sums are at most as many as lines were read; and what was written so far, and they, are those of the lines so far
abbrev pub invariant-loop-number : goal.invariant-loop-number
invariant-loop-number g l =
    AreAtMost l.sums l._number
    × ((text : Option (List ℕ)) → Reads l.fn.standing text → IfSome (g.R.Read.remaining l.fn.reader) (λ log. LogSoFar text (g.W.Write.contents l.fn.writer) (g.W.Write.contents l.writer) (g.R.Read.remaining l.reader) log l.sums))
