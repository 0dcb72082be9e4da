use Rattle.server_log.proofs.LogLemmas.{logged_front}
use Rattle.server_log.proofs.log.Log.write_lines.Goals as goal

pub returns-in-Err-default-clause-lines : goal.returns-in-Err-default-clause-lines
returns-in-Err-default-clause-lines g c = λ lines holds.
    logged_front lines _ _ _ _ c.args.self.now.lines.added c.write_text-written.result _ c.in-Err-default.is-0 c.deref.ensures.value c.write_text-written.ensures holds.adds
