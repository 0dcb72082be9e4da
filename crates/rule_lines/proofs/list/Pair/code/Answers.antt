-- The code is that of the instruction.
use Rattle.std.proofs.Common.{◌∙◌, sym, ap}
use Rattle.rule_lookup.specs.Codes.{code_of}
use Rattle.rule_lookup.specs.Pairs.{Rule}
use Rattle.rule_lines.proofs.RowLemmas.{code_of-the_instr}
use Rattle.rule_lines.proofs.list.Pair.code.Goals as goal

pub returns : goal.returns
returns c =
    sym (code_of-the_instr c.self.inside.line.code.now c.self.invariant.0) ∙ ap (λ (rule : Rule). code_of rule.instr) c.self.view_is
