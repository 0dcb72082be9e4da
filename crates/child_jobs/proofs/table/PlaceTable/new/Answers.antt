use Rattle.std.proofs.Common.{ap}
use Rattle.child_jobs.proofs.PlaceLemmas.{places-empty}
use Rattle.child_jobs.proofs.table.PlaceTable.new.Goals as goal

pub returns-clause-made : goal.returns-clause-made
returns-clause-made g c = ap (λ m. record { limit = c.args.limit; retired = 0; places = m }) (places-empty c.in_ok-indices.indices c.in_ok-indices.ensures.empty)
