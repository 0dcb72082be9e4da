use Rattle.std.proofs.Common.{refl, ap, ◌∙◌}
use Rattle.child_jobs.specs.PlacesOut.{PlacesOut, is_used, without_place}
use Rattle.server_yard.proofs.Seating.{place_back, used_placed}
use Rattle.server_yard.proofs.yard.give_place.Goals as goal

pub leave-requires : goal.leave-requires
leave-requires g c =
    ap (λ (t : PlacesOut). is_used t c.in-Some.place) c.in-Some.ensures.admitted ∙ used_placed c.args.table.now c.in-Some.place

pub returns-then-is_err-clause-err : goal.returns-then-is_err-clause-err
returns-then-is_err-clause-err g c =
    (c.leave.ensures ∙ ap (λ (t : PlacesOut). without_place c.in-Some.place t) c.in-Some.ensures.admitted ∙ place_back c.args.table.now c.in-Some.place c.in-Some.ensures.vacant, refl)

pub leave-requires-in-Err : goal.leave-requires-in-Err
leave-requires-in-Err g c =
    ap (λ (t : PlacesOut). is_used t c.in-Some.place) c.in-Some.ensures.admitted ∙ used_placed c.args.table.now c.in-Some.place

pub returns-in-Err-clause-err : goal.returns-in-Err-clause-err
returns-in-Err-clause-err g c =
    (c.leave-in-Err.ensures ∙ ap (λ (t : PlacesOut). without_place c.in-Some.place t) c.in-Some.ensures.admitted ∙ place_back c.args.table.now c.in-Some.place c.in-Some.ensures.vacant, c.in-Err.ensures.unchanged)
