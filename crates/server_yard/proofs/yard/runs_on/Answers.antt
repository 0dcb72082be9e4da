use Rattle.server_yard.proofs.Running.{run_with}
use Rattle.server_yard.proofs.yard.runs_on.Goals as goal

pub returns : goal.returns
returns c = λ old new event events own noted run. run_with old new event events own noted run
