use Rattle.std.proofs.Common.{sym, ap}
use Rattle.script_words.specs.LogLines.{tells_or_not}
use Rattle.script_words.proofs.LineLemmas.{none-of_no_text}
use Rattle.script_words.proofs.log_line.tells_or_not.Goals as goal

pub returns-in-Err : goal.returns-in-Err
returns-in-Err c =
    sym (ap tells_or_not (none-of_no_text c.args.verdict c.args.words.now c.in-Err.ensures.cases.0))
