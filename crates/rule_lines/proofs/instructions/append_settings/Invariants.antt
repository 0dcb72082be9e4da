use Rattle.std.proofs.Common.{◌≡◌, length}
use Rattle.rule_lines.proofs.ReadLemmas.{code_with}
use Rattle.rule_lines.proofs.instructions.append_settings.Given as goal

-- the code so far, with the codes of the rest, is that of all
abbrev pub invariant-loop-comma : goal.invariant-loop-comma
invariant-loop-comma l =
    code_with l.is_text l.code.items l.rest ≡ code_with l.fn.is_text l.fn.code.items l.fn.bytes

abbrev pub decreases-loop-comma : goal.decreases-loop-comma
decreases-loop-comma l = length l.rest
