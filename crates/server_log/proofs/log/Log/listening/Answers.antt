use Rattle.server_log.proofs.log.Log.listening.Goals as goal

pub returns-clause-lines : goal.returns-clause-lines
returns-clause-lines g c = rw c.from.ensures at c.tell_line.ensures.lines
