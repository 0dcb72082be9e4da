use Rattle.byte_text.proofs.Appends.{OnOk-line}
use Rattle.script_tool.specs.Replies.{report_line}
use Rattle.script_tool.proofs.replies.append_report.Goals as goal

pub returns : goal.returns
returns c = OnOk-line (report_line c.args.report.now) c.args.out.now.items c.append_line.new.out.items c.append_line.result c.append_line.ensures
