use Rattle.std.proofs.Common.{refl}
use Rattle.whole_yard.proofs.install_laws.begins.Goals as goal

pub returns : goal.returns
returns c w rules names missing named = record { directory = refl; missing = missing; rules = named; reached = λ is_open. tt }
