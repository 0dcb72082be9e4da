use Rattle.std.proofs.Common.{sym, ◌∙◌}
use Rattle.stream_tools.proofs.EntryLemmas.{variable_of-none, variable_of-no_name}
use Rattle.stream_tools.proofs.started.variable_of.Goals as goal
use Rattle.stream_tools.proofs.started.variable_of.Goals.{in_default-via-in-Some+else-not-is_empty, in_default-via-in_default}

pub returns-in_default : goal.returns-in_default
returns-in_default c =
    elim c.in_default.branch [
      | in_default-via-in-Some+else-not-is_empty w ↦
          variable_of-no_name c.args.text.now c.split_once.result w.in-Some.name w.in-Some.value c.split_once.ensures.cases w.in-Some.is
          (sym w.is_empty.ensures ∙ w.if-not-is_empty.false)
      | in_default-via-in_default w ↦ variable_of-none c.args.text.now c.split_once.result c.split_once.ensures.cases w.in_default.is
    ]
