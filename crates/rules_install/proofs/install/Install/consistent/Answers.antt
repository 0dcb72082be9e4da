use Rattle.std.proofs.Common.{subst}
use Rattle.rule_lines.specs.Texts.{AreOfText}
use Rattle.rules_install.proofs.install.Install.consistent.Goals as goal

pub returns : goal.returns
returns c = record {
  of_text = subst AreOfText c.list.ensures c.of_text.ensures;
  names = c.cdb.ensures.other;
  written = c.written.ensures;
  unfilled = c.args.self.now.unfilled;
}
