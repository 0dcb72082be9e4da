use Rattle.std.proofs.Common.{◌≡◌, length}
use Rattle.rule_lookup.specs.Lines.{trimmed}
use Rattle.rule_lookup.proofs.lines.trim_blanks.Given as goal

abbrev pub invariant-loop-trimmed : goal.invariant-loop-trimmed
invariant-loop-trimmed l = trimmed l.trimmed ≡ trimmed l.line

abbrev pub decreases-loop-trimmed : goal.decreases-loop-trimmed
decreases-loop-trimmed l = length l.trimmed
