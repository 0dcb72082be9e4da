use Rattle.std.proofs.Common.{sym, ap, ◌∙◌}
use Rattle.child_jobs.specs.PlacesOut.{PlacesOut}
use Rattle.child_jobs.proofs.PlaceLemmas.{live_of-placed}
use Rattle.child_jobs.proofs.table.PlaceTable.live.Goals as goal

pub returns-clause-value : goal.returns-clause-value
returns-clause-value g c = c.len.ensures ∙ sym (live_of-placed c.self.inside.indices c.args.self.now (ap (λ (t : PlacesOut). t.places) c.self.view_is))
