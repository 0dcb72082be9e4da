use Rattle.rules_install.proofs.BesideLemmas.{beside_own, step_puts}
use Rattle.rules_install.proofs.laws.puts_its_own.Goals as goal

pub returns : goal.returns
returns c name u w v i number begun beside steps stood = step_puts name i w v (beside_own name u w begun beside i) steps number stood
