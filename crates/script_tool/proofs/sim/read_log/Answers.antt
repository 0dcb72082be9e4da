use Rattle.script_tool.proofs.RunLemmas.{no_memory_for_log}
use Rattle.script_tool.proofs.sim.read_log.Goals as goal

pub compare_log-requires : goal.compare_log-requires
compare_log-requires g c = (c.requires.0.texts.standing, c.in-Ok.ensures c.requires.0 c.requires.1)

pub returns-in-Err : goal.returns-in-Err
returns-in-Err g c = λ state at.
    no_memory_for_log (g.W.Write.contents c.args.writer.now) state (g.R.Read.remaining c.args.reader.now)
