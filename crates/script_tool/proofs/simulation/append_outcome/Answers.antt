use Rattle.std.proofs.Common.{◌≡◌, ◌++◌, List, ℕ, Some, None, sym, ap, ◌∙◌}
use Rattle.std.proofs.lemmas.Result.{on_ok_weaker}
use Rattle.server_events.specs.Reports.{IsFirstIllegal, first_illegal}
use Rattle.server_events.specs.ServerState.{start}
use Rattle.script_tool.specs.Replies.{illegal_line, report_line}
use Rattle.script_words.specs.Events.{History}
use Rattle.script_tool.specs.Sim.{outcome, replayed}
use Rattle.script_tool.proofs.AskLemmas.{OnOk-same}
use Rattle.script_tool.proofs.simulation.append_outcome.Goals as goal

pub returns-in-Ok : goal.returns-in-Ok
returns-in-Ok c =
    let es = c.history.inside.events.items in
    let w = start c.history.inside.limit c.history.inside.per_address in
    let none : first_illegal w es ≡ None = (c.first_illegal.ensures.none w es).1 (rw c.as_slice-events.ensures.value at c.in-Ok.ensures.legal) in
    let report = rw c.as_slice-events.ensures.value at c.in-Ok.ensures.report in
    let whole = ap report_line report ∙ sym (ap (λ o. outcome o es) none) ∙ ap (λ (h : History). replayed (Some h)) c.history.view_is in
    on_ok_weaker c.append_report.result (λ e. e ∙ ap (λ (t : List ℕ). c.args.out.now.items ++ t) whole) c.append_report.ensures

pub returns-in-Err-IllegalEvent : goal.returns-in-Err-IllegalEvent
returns-in-Err-IllegalEvent c =
    let es = c.history.inside.events.items in
    let w = start c.history.inside.limit c.history.inside.per_address in
    let first : IsFirstIllegal w es c.in-Err-IllegalEvent.position = rw (c.in-Err-IllegalEvent.field-0-is, c.as_slice-events.ensures.value) at c.in-Err-IllegalEvent.ensures.refused in
    let some : first_illegal w es ≡ Some c.in-Err-IllegalEvent.position = (c.first_illegal.ensures.some w es c.in-Err-IllegalEvent.position).1 first in
    let whole = sym (ap (λ o. outcome o es) some) ∙ ap (λ (h : History). replayed (Some h)) c.history.view_is in
    OnOk-same (illegal_line c.in-Err-IllegalEvent.position) _ c.args.out.now.items c.append_line.new.out.items c.append_line.result whole c.append_line.ensures
