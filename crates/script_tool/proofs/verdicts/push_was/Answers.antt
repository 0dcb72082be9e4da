use Rattle.script_tool.specs.Logs.{was_text}
use Rattle.script_words.specs.Meanings.{told_of}
use Rattle.script_tool.proofs.AskLemmas.{OnOk-part}
use Rattle.script_tool.proofs.verdicts.push_was.Goals as goal

pub returns : goal.returns
returns c =
    OnOk-part (was_text (told_of c.args.told.now)) c.args.out.now.items c.push_pieces.new.out.items c.push_pieces.result
    (rw (c.host_text.ensures, c.verdict_name.ensures) at c.push_pieces.ensures)
