use Rattle.std.proofs.Common.{sym, ap, ◌∙◌}
use Rattle.tcp_streams.specs.Wrappers.{changed_by}
use Rattle.tcp_streams.proofs.wrappers.Wrapper.new.Goals as goal

pub returns-in-DelCr-clause-rest : goal.returns-in-DelCr-clause-rest
returns-in-DelCr-clause-rest c = c.new.ensures ∙ sym (ap changed_by c.in-DelCr.is)

pub returns-in-FixCr-clause-rest : goal.returns-in-FixCr-clause-rest
returns-in-FixCr-clause-rest c = c.new-in-FixCr.ensures ∙ sym (ap changed_by c.in-FixCr.is)
