use Rattle.std.proofs.Common.{sym, ◌∙◌}
use Rattle.rules_install.specs.Installs.{installing}
use Rattle.whole_yard.proofs.yard.Installation.after.Goals as goal

pub returns-in-Some-clause-installing : goal.returns-in-Some-clause-installing
returns-in-Some-clause-installing c = c.in-Some.ensures.ended.0 ∙ sym (c.in-Some.ensures.ended.2 (installing c.args.install))

pub returns-in-None-clause-installing : goal.returns-in-None-clause-installing
returns-in-None-clause-installing c = sym (c.in-None.ensures.goes_on.1 (installing c.args.install))
