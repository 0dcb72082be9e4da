use Rattle.std.proofs.Common.{◌≡◌, rules}
use Rattle.script_words.specs.Readings.{texts}
use Rattle.script_words.specs.Scripts.{AddEvent, Ask, command_named, other_command}
use Rattle.script_words.proofs.ScriptLemmas.{refuses_later, refuses_none}
use Rattle.script_words.proofs.script.command_named.Goals as goal

pub returns-in_err-read_peer-in-ask-clause-refused : goal.returns-in_err-read_peer-in-ask-clause-refused
returns-in_err-read_peer-in-ask-clause-refused c =
    refuses_later Ask _ _ _ c.from_residual.result c.from_residual.ensures.1 c.in_err-read_peer-in-ask.ensures.refused (rw c.in-ask.is)

pub returns-in_err-read_event-in-event-clause-refused : goal.returns-in_err-read_event-in-event-clause-refused
returns-in_err-read_event-in-event-clause-refused c =
    let it = c.from_residual-in_err-read_event-in-event in
    refuses_later AddEvent _ _ _ it.result it.ensures.1 c.in_err-read_event-in-event.ensures.refused (rw c.in-event.is)

pub returns-in_default-clause-refused : goal.returns-in_default-clause-refused
returns-in_default-clause-refused c =
    let words = texts c.args.words.now in
    let same : other_command c.args.name.now words ≡ command_named c.args.name.now words = search rules in
    rw (c.ok_or.ensures.value, ← same) (refuses_none c.other_command.result _ c.other_command.ensures)
