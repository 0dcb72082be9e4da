use Rattle.std.proofs.Common.{arith}
use Rattle.child_jobs.proofs.PlaceLemmas.{len-places}
use Rattle.child_jobs.proofs.table.PlaceTable.retire.Goals as goal

pub returns-clause-within : goal.returns-clause-within
returns-clause-within g c = omega (arith, len-places c.self.inside.indices)
