use Rattle.rule_warnings.proofs.ReportLemmas.{written-table}
use Rattle.rule_warnings.proofs.report.write_lines.Goals as goal

pub returns-clause-written : goal.returns-clause-written
returns-clause-written g c =
    let named = c.table_line.ensures in
    written-table c.args.text.now c.names_someone.result (g.W.Write.contents c.args.writer.now) (g.W.Write.contents c.write_each-done.new.writer) (g.W.Write.contents c.write_found.new.writer)
    c.requires.some c.names_someone.ensures (rw c.in_ok-warned.was at c.write_each-done.ensures.written) (rw named at c.in_ok-write_found.ensures.written)
