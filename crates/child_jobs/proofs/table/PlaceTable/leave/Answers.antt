use Rattle.std.proofs.Common.{sym, ap, ◌∙◌, arith}
use Rattle.std.specs.FinMap as map
use Rattle.child_jobs.specs.PlacesOut.{PlacesOut, is_used}
use Rattle.child_jobs.proofs.PlaceLemmas.{places_of, places-remove, used-placed}
use Rattle.child_jobs.proofs.table.PlaceTable.leave.Goals as goal

pub remove-requires : goal.remove-requires
remove-requires g c =
    sym (used-placed c.self.inside.indices c.args.self.now (ap (λ (t : PlacesOut). t.places) c.self.view_is) c.place.inside.index)
    ∙ ap (λ k. is_used c.args.self.now k) c.place.view_is ∙ c.requires

pub invariant_of-self : goal.invariant_of-self
invariant_of-self g c =
    let held = c.self.invariant in
    record { counted = omega arith; parts = omega arith; idle = omega arith; kept = held.kept; room = omega arith; fits = held.fits }

pub returns : goal.returns
returns g c =
    let fields = c.self.inside in
    ap (λ m. record { limit = fields.limit; retired = fields.retired; places = m }) (places-remove fields.indices c.remove.new.self c.place.inside.index c.remove.ensures.updates)
    ∙ ap (λ k. record { limit = fields.limit; retired = fields.retired; places = map.remove (places_of fields.indices) k }) c.place.view_is
    ∙ ap (λ (t : PlacesOut). record t { places = map.remove t.places c.args.place }) c.self.view_is
