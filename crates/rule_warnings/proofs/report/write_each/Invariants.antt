use Rattle.std.proofs.Common.{length}
use Rattle.rule_warnings.specs.Tables.{line_under}
use Rattle.rule_warnings.proofs.ReportLemmas.{IsWrittenUpTo}
use Rattle.rule_warnings.proofs.report.write_each.Given as goal

abbrev pub invariant-loop-rest : goal.invariant-loop-rest
invariant-loop-rest g l =
    IsWrittenUpTo l.limit l.text l.rest l.number (line_under l.seen) l.warned (g.W.Write.contents l.fn.writer) (g.W.Write.contents l.writer)

abbrev pub decreases-loop-rest : goal.decreases-loop-rest
decreases-loop-rest g l = length l.rest
