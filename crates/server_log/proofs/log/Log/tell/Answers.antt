use Rattle.std.proofs.Common.{rules}
use Rattle.server_log.specs.Lines.{event_lines}
use Rattle.server_log.proofs.LogLemmas.{never_refused, tells_later}
use Rattle.server_log.proofs.log.Log.tell.Goals as goal

pub returns-clause-lines : goal.returns-clause-lines
returns-clause-lines g c = λ in_order. c.write_lines.ensures.lines _ (c.add_event.ensures c.clear.ensures)

pub returns-clause-order : goal.returns-clause-order
returns-clause-order g c =
    let to = c.args.self.now.settings in
    let lines = event_lines to.level to.voice to.limit c.args.live c.args.told in
    tells_later lines _ _ _ _ _ _ (c.write_lines.ensures.lines lines (c.add_event.ensures c.clear.ensures)) (search rules) c.write_lines.ensures.no_event

pub returns-clause-untouched : goal.returns-clause-untouched
returns-clause-untouched g c = λ refused.
    let to = c.args.self.now.settings in
    let lines = event_lines to.level to.voice to.limit c.args.live c.args.told in
    absurd (never_refused lines _ _ _ (c.write_lines.ensures.lines lines (c.add_event.ensures c.clear.ensures)) refused)
