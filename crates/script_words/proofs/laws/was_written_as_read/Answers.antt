use Rattle.script_words.proofs.LineLemmas.{IsLineOf-read}
use Rattle.script_words.proofs.laws.was_written_as_read.Goals as goal

pub returns : goal.returns
returns c = IsLineOf-read
