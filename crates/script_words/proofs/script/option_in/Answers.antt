use Rattle.script_words.proofs.ScriptLemmas.{option_in-stripped}
use Rattle.script_words.proofs.script.option_in.Goals as goal

pub returns : goal.returns
returns c = option_in-stripped c.args.mark.now c.args.word.now _ _ c.strip_prefix.result c.strip_prefix.ensures.cases
