use Rattle.std.proofs.Common.{◌≡◌, ◌||◌, length}
use Rattle.std.specs.List.{list_any}
use Rattle.rule_warnings.specs.Names.{names_host}
use Rattle.rule_warnings.specs.Warnings.{trimmed_lines}
use Rattle.rule_warnings.proofs.report.names_someone.Given as goal

-- what was found so far, or is in the rest, is in the text
abbrev pub invariant-loop-rest : goal.invariant-loop-rest
invariant-loop-rest l = (l.named || list_any names_host (trimmed_lines l.rest)) ≡ list_any names_host (trimmed_lines l.text)

abbrev pub decreases-loop-rest : goal.decreases-loop-rest
decreases-loop-rest l = length l.rest
