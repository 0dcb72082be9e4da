use Rattle.script_words.specs.Meanings.{meaning}
use Rattle.script_words.proofs.PeerLemmas.{TellsPeer-words}
use Rattle.script_words.proofs.log_line.read_line.Goals as goal

pub returns-in-Some-clause-names : goal.returns-in-Some-clause-names
returns-in-Some-clause-names c =
    TellsPeer-words _ c.in-Some.words.now (meaning c.tells_or_not.result) c.tells_or_not.ensures

pub returns-in-Some-behind-clause-names : goal.returns-in-Some-behind-clause-names
returns-in-Some-behind-clause-names c =
    TellsPeer-words _ c.in-Some-behind.words.now (meaning c.tells_or_not-in-Some-behind.result) c.tells_or_not-in-Some-behind.ensures
