use Rattle.rules_install.proofs.BesideLemmas.{whole_now, whole_stopped}
use Rattle.rules_install.proofs.laws.whole_beside.Goals as goal

pub returns-clause-now : goal.returns-clause-now
returns-clause-now c name olds u w i begun lasts beside = whole_now name olds u w i begun lasts beside

pub returns-clause-stopped : goal.returns-clause-stopped
returns-clause-stopped c name olds u w i image begun lasts beside is_image = whole_stopped name olds u w i image begun lasts beside is_image
