use Rattle.std.proofs.Common.{◌∙◌, sym}
use Rattle.rule_lines.specs.ReadAddresses.{addresses_read}
use Rattle.rule_warnings.specs.Tables.{line_under}
use Rattle.rule_warnings.proofs.StepLemmas.{decided-all}
use Rattle.rule_warnings.proofs.findings.decide.Goals as goal

pub returns-in-Some-clause-noted : goal.returns-in-Some-clause-noted
returns-in-Some-clause-noted c =
    decided-all (line_under c.args.seen.now) (addresses_read c.args.addresses) c.in-Some.line c.args.number (sym c.in_ok-line.ensures ∙ c.in-Some.is)
