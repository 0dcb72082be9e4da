use Rattle.std.proofs.Common.{◌≡◌, ◌∷◌, Some, ap, sym, map, ◌∙◌}
use Rattle.std.proofs.Common.{rules}
use Rattle.child_jobs.specs.HostMaps.{row_read, row_said}
use Rattle.child_jobs.specs.HostRows.{Row, row_of, rows_of}
use Rattle.child_jobs.proofs.RowLemmas.{said_good, says_more}
use Rattle.child_jobs.proofs.hosts.HostTable.read.Goals as goal

pub loop-rest-preserved : goal.loop-rest-preserved
loop-rest-preserved c =
    let said = c.in_ok-said.said in
    let later = c.first_line.result.1.now in
    let read : c.read_line.result ≡ Some said = search rules in
    let row = ap row_read (sym read) ∙ c.read_line.ensures.row in
    let cut = ap (map row_of) c.first_line.ensures.lines.1 ∙ ap (λ (r : Row). r ∷ rows_of later) (sym row) in
    says_more c.loop-rest.table c.args.text.now c.loop-rest.rest.now later c.loop-rest.number (row_said said) cut c.loop-rest.invariant c.add.new.self (said_good said) c.first_line.ensures.shorter c.in_ok-add.ensures.names c.in_ok-add.ensures.addresses
