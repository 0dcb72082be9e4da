use Rattle.script_words.proofs.LineLemmas.{reading-written}
use Rattle.script_words.proofs.laws.reads_what_was_written.Goals as goal

pub returns : goal.returns
returns c = reading-written
