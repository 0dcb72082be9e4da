use Rattle.stream_tools.proofs.LaneLemmas.{ok_then}
use Rattle.stream_tools.proofs.fixcrio.fix_between.Goals as goal

pub returns-clause-input : goal.returns-clause-input
returns-clause-input g c =
    ok_then c.run_between.result c.run_between.ensures.input (λ end fed. (c.in_ok-input.input, c.in_ok-input.ensures, fed))

pub returns-clause-output : goal.returns-clause-output
returns-clause-output g c =
    ok_then c.run_between.result c.run_between.ensures.output (λ end drained. (c.in_ok-output.output, c.in_ok-output.ensures, drained))
