use Rattle.std.proofs.Common.{take}
use Rattle.rule_lines.specs.ReadAddresses.{addresses_read}
use Rattle.rule_warnings.specs.Tables.{line_under}
use Rattle.rule_warnings.proofs.StepLemmas.{IsLeastSoFar}
use Rattle.rule_warnings.proofs.findings.decider.Given as goal

abbrev pub invariant-loop-position : goal.invariant-loop-position
invariant-loop-position l = IsLeastSoFar (line_under l.seen) (take l.position (addresses_read l.addresses)) l.least
