use Rattle.std.proofs.Common.{◌++◌, ◌∷◌, [], Option, inr, refl, sym, ap, subst, ◌∙◌}
use Rattle.std.proofs.lemmas.Option.{none-some}
use Rattle.std.proofs.lemmas.Result.{err_from_is_err_and}
use Rattle.std.specs.Prelude.{option_map}
use Rattle.rules_install.specs.Installing.{FitsPhase}
use Rattle.rules_install.specs.Installs.{installing}
use Rattle.dir_calls.specs.declared.phase.Phase.{Phase}
use Rattle.dir_calls.specs.declared.phase.Phase.TheVariants.{Done}
use Rattle.server_events.specs.declared.event.Event.TheVariants as event
use Rattle.whole_yard.specs.Kept.{lists_of}
use Rattle.whole_yard.specs.Stepping.{without_last}
use Rattle.whole_yard.proofs.Noting.{forgotten}
use Rattle.whole_yard.proofs.stepping.begin_noted.Goals as goal

pub returns-in_err-keep_list-clause-stops : goal.returns-in_err-keep_list-clause-stops
returns-in_err-keep_list-clause-stops g c = λ honest w image at left. inr (g.met.D.Dir.only_now c.args.dir.now image honest left)

pub returns-in-Ok-clause-noted : goal.returns-in-Ok-clause-noted
returns-in-Ok-clause-noted g c = c.in-Ok.ensures.noted

pub returns-in-Ok-clause-kept : goal.returns-in-Ok-clause-kept
returns-in-Ok-clause-kept g c =
    c.in_ok-keep_list.ensures.kept ∙ ap (λ rules. option_map (λ all. all ++ rules ∷ []) (lists_of c.args.lists.now)) c.list.ensures

pub returns-in-Ok-clause-seats : goal.returns-in-Ok-clause-seats
returns-in-Ok-clause-seats g c = c.in-Ok.ensures.seats

pub returns-in-Err-clause-noted : goal.returns-in-Err-clause-noted
returns-in-Err-clause-noted g c = c.in-Err.ensures.noted

pub returns-in-Err-clause-err : goal.returns-in-Err-clause-err
returns-in-Err-clause-err g c =
    c.forget_list.ensures ∙ ap (λ o. option_map without_last o) c.in_ok-keep_list.ensures.kept ∙ forgotten (lists_of c.args.lists.now) c.list.result.now

pub returns-in-Err-clause-seats : goal.returns-in-Err-clause-seats
returns-in-Err-clause-seats g c = c.in-Err.ensures.seats

pub returns-in-Ok-clause-goes : goal.returns-in-Ok-clause-goes
returns-in-Ok-clause-goes g c = c.in-Ok.ensures.goes

pub returns-in-Ok-clause-same : goal.returns-in-Ok-clause-same
returns-in-Ok-clause-same g c = c.in-Ok.ensures.same

pub returns-in-Ok-clause-leads : goal.returns-in-Ok-clause-leads
returns-in-Ok-clause-leads g c = c.in-Ok.ensures.leads

pub returns-in-Ok-clause-stops : goal.returns-in-Ok-clause-stops
returns-in-Ok-clause-stops g c = c.in-Ok.ensures.stops

pub returns-in-Ok-clause-fits : goal.returns-in-Ok-clause-fits
returns-in-Ok-clause-fits g c = c.in-Ok.ensures.fits

pub returns-in-Err-clause-goes : goal.returns-in-Err-clause-goes
returns-in-Err-clause-goes g c = c.in-Err.ensures.goes

pub returns-in-Err-clause-same : goal.returns-in-Err-clause-same
returns-in-Err-clause-same g c = c.in-Err.ensures.same

pub returns-in-Err-clause-leads : goal.returns-in-Err-clause-leads
returns-in-Err-clause-leads g c = c.in-Err.ensures.leads

pub returns-in-Err-clause-stops : goal.returns-in-Err-clause-stops
returns-in-Err-clause-stops g c = c.in-Err.ensures.stops

pub returns-in-Err-clause-fits : goal.returns-in-Err-clause-fits
returns-in-Err-clause-fits g c = c.in-Err.ensures.fits

pub returns-in-Err-clause-still : goal.returns-in-Err-clause-still
returns-in-Err-clause-still g c = c.in-Err.ensures.still

pub returns-in-Err-clause-device : goal.returns-in-Err-clause-device
returns-in-Err-clause-device g c = c.in-Err.ensures.device

pub returns-in_err-keep_list-clause-seats : goal.returns-in_err-keep_list-clause-seats
returns-in_err-keep_list-clause-seats g c = λ i. refl

pub returns-in_err-keep_list-clause-same : goal.returns-in_err-keep_list-clause-same
returns-in_err-keep_list-clause-same g c = record { rules = refl; names = refl }

pub returns-in_err-keep_list-clause-still : goal.returns-in_err-keep_list-clause-still
returns-in_err-keep_list-clause-still g c = λ honest none. refl

pub step_noted-requires-clause-is_open : goal.step_noted-requires-clause-is_open
step_noted-requires-clause-is_open g c = c.requires.is_open

pub returns-in_err-keep_list-clause-noted : goal.returns-in_err-keep_list-clause-noted
returns-in_err-keep_list-clause-noted g c =
    let p = err_from_is_err_and c.from_residual.result c.from_residual.ensures.1 in
    rw (p.1, p.2) (record { stays = refl; speaks = refl; tells = refl; counts = refl; stores = refl })

pub returns-in_err-keep_list-clause-kept : goal.returns-in_err-keep_list-clause-kept
returns-in_err-keep_list-clause-kept g c =
    let p = err_from_is_err_and c.from_residual.result c.from_residual.ensures.1 in
    rw p.1 tt

pub returns-in_err-keep_list-clause-err : goal.returns-in_err-keep_list-clause-err
returns-in_err-keep_list-clause-err g c =
    let p = err_from_is_err_and c.from_residual.result c.from_residual.ensures.1 in
    rw p.1 c.in_err-keep_list.ensures.err

pub returns-in_err-keep_list-clause-goes : goal.returns-in_err-keep_list-clause-goes
returns-in_err-keep_list-clause-goes g c =
    let p = err_from_is_err_and c.from_residual.result c.from_residual.ensures.1 in
    rw (p.1, p.2) refl

pub returns-in_err-keep_list-clause-leads : goal.returns-in_err-keep_list-clause-leads
returns-in_err-keep_list-clause-leads g c = λ honest w under.
    let p = err_from_is_err_and c.from_residual.result c.from_residual.ensures.1 in
    rw (p.1, p.2) under

pub returns-in_err-keep_list-clause-device : goal.returns-in_err-keep_list-clause-device
returns-in_err-keep_list-clause-device g c = λ honest.
    let p = err_from_is_err_and c.from_residual.result c.from_residual.ensures.1 in
    rw (p.1, p.2) tt

pub returns-in_err-keep_list-clause-fits : goal.returns-in_err-keep_list-clause-fits
returns-in_err-keep_list-clause-fits g c = λ honest is_open. subst (λ (o : Option Phase). FitsPhase (installing c.args.install.now) (g.D.Dir.state c.args.dir.now) o) (sym c.requires.unbegun) tt

pub step_noted-requires-clause-undone : goal.step_noted-requires-clause-undone
step_noted-requires-clause-undone g c = λ done. none-some Done (sym c.requires.unbegun ∙ done)

pub step_noted-requires-clause-phase : goal.step_noted-requires-clause-phase
step_noted-requires-clause-phase g c = λ begun. absurd (begun c.requires.unbegun)

pub step_noted-requires-clause-fits : goal.step_noted-requires-clause-fits
step_noted-requires-clause-fits g c = λ honest is_open. subst (λ (o : Option Phase). FitsPhase (installing c.args.install.now) (g.D.Dir.state c.args.dir.now) o) (sym c.requires.unbegun) tt

pub returns-in-Ok-clause-err : goal.returns-in-Ok-clause-err
returns-in-Ok-clause-err g c = tt

pub returns-in-Ok-clause-still : goal.returns-in-Ok-clause-still
returns-in-Ok-clause-still g c = λ honest none. absurd (none-some (event.Stepped c.in-Ok.phase) (sym none))

pub returns-in-Ok-clause-device : goal.returns-in-Ok-clause-device
returns-in-Ok-clause-device g c = c.in-Ok.ensures.device

pub returns-in-Err-clause-kept : goal.returns-in-Err-clause-kept
returns-in-Err-clause-kept g c = tt

pub returns-in-Ok-clause-room : goal.returns-in-Ok-clause-room
returns-in-Ok-clause-room g c = c.in-Ok.ensures.room

pub returns-in-Err-clause-room : goal.returns-in-Err-clause-room
returns-in-Err-clause-room g c = c.in-Err.ensures.room

pub returns-in_err-keep_list-clause-room : goal.returns-in_err-keep_list-clause-room
returns-in_err-keep_list-clause-room g c = λ n. refl

pub returns-in_err-keep_list-clause-blames : goal.returns-in_err-keep_list-clause-blames
returns-in_err-keep_list-clause-blames g c =
    let p = err_from_is_err_and c.from_residual.result c.from_residual.ensures.1 in
    rw (p.1, p.2) tt
