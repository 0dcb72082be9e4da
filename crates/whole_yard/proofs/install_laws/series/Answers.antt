use Rattle.std.proofs.Common.{refl}
use Rattle.rules_install.specs.Installing.{begun}
use Rattle.whole_yard.proofs.Along.{leads_along}
use Rattle.whole_yard.proofs.install_laws.series.Goals as goal

pub returns-clause-from_there : goal.returns-clause-from_there
returns-clause-from_there c s t d e result w series at = leads_along s t d e result series w at

pub returns-clause-from_begin : goal.returns-clause-from_begin
returns-clause-from_begin c w rules names missing t e result named series =
    leads_along (begun rules names) t w.directory e result series w (record { directory = refl; missing = missing; rules = named; reached = λ is_open. tt })
