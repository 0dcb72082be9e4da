use Rattle.std.proofs.Common.{◌++◌, codes}
use Rattle.dir_calls.specs.PhaseWords.{phase_text}
use Rattle.byte_text.proofs.Appends.{OnOk-line}
use Rattle.script_tool.proofs.replies.append_reached.Goals as goal

pub returns-in-None : goal.returns-in-None
returns-in-None c =
    rw c.in-None.is (OnOk-line (codes "none\n") c.args.out.now.items c.append_line.new.out.items c.append_line.result c.append_line.ensures)

pub returns-in-Some : goal.returns-in-Some
returns-in-Some c =
    let line = rw c.as_str.ensures at c.append_line-in-Some.ensures in
    rw c.in-Some.is
    (OnOk-line (phase_text c.in-Some.phase ++ codes "\n") c.args.out.now.items c.append_line-in-Some.new.out.items c.append_line-in-Some.result line)
