use Rattle.server_log.proofs.log.Log.status.Goals as goal

pub returns-clause-lines : goal.returns-clause-lines
returns-clause-lines g c = rw c.status_line-line.ensures at c.tell_line.ensures.lines
