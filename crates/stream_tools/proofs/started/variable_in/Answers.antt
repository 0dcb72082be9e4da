use Rattle.std.proofs.Common.{◌∙◌}
use Rattle.stream_tools.proofs.EntryLemmas.{variable_in-text, variable_in-no_text}
use Rattle.stream_tools.proofs.started.variable_in.Goals as goal

pub returns-in-Ok : goal.returns-in-Ok
returns-in-Ok c = c.variable_of.ensures ∙ variable_in-text c.args.entry.now c.in-Ok.text.now c.in-Ok.ensures.cases

pub returns-in-Err : goal.returns-in-Err
returns-in-Err c = variable_in-no_text c.args.entry.now c.in-Err.ensures.cases.0
