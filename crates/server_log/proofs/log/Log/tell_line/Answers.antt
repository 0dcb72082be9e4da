use Rattle.std.proofs.Common.{[]}
use Rattle.server_log.proofs.log.Log.tell_line.Goals as goal

pub returns-clause-lines : goal.returns-clause-lines
returns-clause-lines g c = c.write_lines.ensures.lines _ (c.add.ensures [] c.clear.ensures)
