use Rattle.std.proofs.Common.{◌≡◌, false, length}
use Rattle.rule_warnings.proofs.NameLemmas.{blank_with}
use Rattle.rule_warnings.proofs.settings.blank_among.Given as goal

-- what was found so far, with the names of the rest, is that of all
abbrev pub invariant-loop-comma : goal.invariant-loop-comma
invariant-loop-comma l = blank_with l.found l.rest ≡ blank_with false l.fn.settings

abbrev pub decreases-loop-comma : goal.decreases-loop-comma
decreases-loop-comma l = length l.rest
