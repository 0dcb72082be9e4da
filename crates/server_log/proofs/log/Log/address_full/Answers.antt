use Rattle.server_log.proofs.log.Log.address_full.Goals as goal

pub returns-clause-lines : goal.returns-clause-lines
returns-clause-lines g c = c.tell_line.ensures.lines
