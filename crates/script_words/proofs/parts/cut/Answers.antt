use Rattle.script_words.proofs.PartLemmas.{cut_once}
use Rattle.script_words.proofs.parts.cut.Goals as goal

pub returns : goal.returns
returns c = cut_once c.args.at c.args.text.now c.split_once.result c.requires c.split_once.ensures.cases
