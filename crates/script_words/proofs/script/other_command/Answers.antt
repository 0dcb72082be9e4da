use Rattle.script_words.proofs.ScriptLemmas.{three_or_more, two_others}
use Rattle.script_words.proofs.script.other_command.Goals as goal

pub returns-in_default-name : goal.returns-in_default-name
returns-in_default-name c = two_others c.args.name.now c.args.words.now c.in-len2.len_at_least c.in-len2.len_below c.in_default-name.not-events

pub returns-in_default : goal.returns-in_default
returns-in_default c = three_or_more c.args.name.now c.args.words.now c.in_default.len_at_least
