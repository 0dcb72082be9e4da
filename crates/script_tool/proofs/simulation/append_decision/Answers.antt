use Rattle.std.proofs.Common.{◌++◌, ap, ◌∙◌}
use Rattle.std.proofs.lemmas.Result.{on_ok_weaker}
use Rattle.rule_lookup.specs.Answers.{answer_lines}
use Rattle.rule_lookup.specs.declared.decision.Decision.{Decision}
use Rattle.script_tool.proofs.simulation.append_decision.Goals as goal

pub returns : goal.returns
returns c = λ text file.
    on_ok_weaker c.append_answer.result (λ e. e ∙ ap (λ (decision : Decision). c.args.out.now.items ++ answer_lines decision) (c.in_ok-decision.ensures text file)) c.append_answer.ensures
