use Rattle.std.proofs.Common.{is_some, ap, ◌∙◌, arith}
use Rattle.std.specs.FinMap as map
use Rattle.child_jobs.specs.PlacesOut.{PlacesOut}
use Rattle.child_jobs.proofs.PlaceLemmas.{live_of-placed, places-insert, used-placed}
use Rattle.child_jobs.proofs.table.PlaceTable.admit.Goals as goal

pub insert_reserved-index-requires : goal.insert_reserved-index-requires
insert_reserved-index-requires g c =
    omega (arith, live_of-placed c.self.inside.indices c.args.self.now (ap (λ (t : PlacesOut). t.places) c.self.view_is))

pub split_off-share-requires-clause-has_parts : goal.split_off-share-requires-clause-has_parts
split_off-share-requires-clause-has_parts g c =
    omega (arith, live_of-placed c.self.inside.indices c.args.self.now (ap (λ (t : PlacesOut). t.places) c.self.view_is))

pub invariant_of-self : goal.invariant_of-self
invariant_of-self g c =
    let held = c.self.invariant in
    let live = live_of-placed c.self.inside.indices c.args.self.now (ap (λ (t : PlacesOut). t.places) c.self.view_is) in
    record { counted = omega arith; parts = omega arith; idle = omega arith; kept = held.kept; room = omega arith; fits = held.fits }

pub returns-clause-vacant : goal.returns-clause-vacant
returns-clause-vacant g c =
    used-placed c.self.inside.indices c.args.self.now (ap (λ (t : PlacesOut). t.places) c.self.view_is) c.insert_reserved-index.result
    ∙ ap is_some c.insert_reserved-index.ensures.was_vacant

pub returns-clause-admitted : goal.returns-clause-admitted
returns-clause-admitted g c =
    let fields = c.self.inside in
    let index = c.insert_reserved-index.result in
    ap (λ m. record { limit = fields.limit; retired = fields.retired; places = m }) (places-insert fields.indices c.insert_reserved-index.new.self index c.insert_reserved-index.ensures.updates)
    ∙ ap (λ (t : PlacesOut). record t { places = map.insert t.places index tt }) c.self.view_is
