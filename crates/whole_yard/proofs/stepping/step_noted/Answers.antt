use Rattle.std.proofs.Common.{inr, refl, sym, ap, ◌∙◌}
use Rattle.std.proofs.lemmas.Option.{none-some}
use Rattle.std.proofs.lemmas.Result.{err_from_is_err_and}
use Rattle.rules_install.specs.Installs.{installing}
use Rattle.rules_install.specs.Installing.{next_phase}
use Rattle.dir_calls.specs.declared.phase.Phase.{Phase}
use Rattle.server_events.specs.ServerState.{ServerState, may_come}
use Rattle.server_events.specs.declared.event.Event.TheVariants as event
use Rattle.server_yard.specs.Yards.{yard_roll, yard_server}
use Rattle.whole_yard.specs.Stepping.{fault_event}
use Rattle.whole_yard.proofs.Noting.{may_fail, may_next, quiet_then, quiet_then_some, still_then}
use Rattle.whole_yard.proofs.stepping.step_noted.Goals as goal

pub returns-in_err-reserve-clause-stops : goal.returns-in_err-reserve-clause-stops
returns-in_err-reserve-clause-stops g c = λ honest w image at left. inr (g.met.D.Dir.only_now c.args.dir.now image honest left)

pub note_step-requires-clause-may : goal.note_step-requires-clause-may
note_step-requires-clause-may g c =
    let s = installing c.args.install.now in
    let server = yard_server c.args.yard.now in
    let may = may_next s server.phase c.consistent.ensures c.requires.undone c.requires.phase in
    ap (λ (u : ServerState). may_come u.phase c.in-Ok.phase) c.in_ok-reserve.ensures.quiet.stays ∙ ap (λ (p : Phase). may_come server.phase p) c.in-Ok.ensures.goes.0 ∙ may

pub note_fault-requires-clause-may : goal.note_fault-requires-clause-may
note_fault-requires-clause-may g c =
    let s = installing c.args.install.now in
    let server = yard_server c.args.yard.now in
    let may = may_next s server.phase c.consistent.ensures c.requires.undone c.requires.phase in
    may_fail c.in-Err.fault s (installing c.make_step.new.install) (next_phase s) c.reserve.new.self.state c.in-Err.ensures.goes (ap (λ (u : ServerState). may_come u.phase (next_phase s)) c.in_ok-reserve.ensures.quiet.stays ∙ may)

pub returns-in-Ok-clause-noted : goal.returns-in-Ok-clause-noted
returns-in-Ok-clause-noted g c =
    quiet_then (event.Stepped c.in-Ok.phase) (yard_roll c.args.yard.now) (yard_roll c.reserve.new.self) (yard_roll c.note_step.new.self) c.in_ok-reserve.ensures.quiet c.note_step.ensures.noted

pub returns-in-Ok-clause-seats : goal.returns-in-Ok-clause-seats
returns-in-Ok-clause-seats g c = λ i. c.note_step.ensures.seats i ∙ c.in_ok-reserve.ensures.seats i

pub returns-in-Err-clause-noted : goal.returns-in-Err-clause-noted
returns-in-Err-clause-noted g c =
    quiet_then_some (fault_event c.in-Err.fault) (yard_roll c.args.yard.now) (yard_roll c.reserve.new.self) (yard_roll c.note_fault.new.yard) c.in_ok-reserve.ensures.quiet c.note_fault.ensures.noted

pub returns-in-Err-clause-seats : goal.returns-in-Err-clause-seats
returns-in-Err-clause-seats g c = λ i. c.note_fault.ensures.seats i ∙ c.in_ok-reserve.ensures.seats i

pub returns-in-Err-clause-still : goal.returns-in-Err-clause-still
returns-in-Err-clause-still g c = λ honest none.
    let s = installing c.args.install.now in
    still_then s (next_phase s) (g.D.Dir.state c.args.dir.now) (g.D.Dir.state c.make_step.new.dir) c.in-Err.fault (c.in-Err.ensures.changes honest) none

pub returns-in-Ok-clause-goes : goal.returns-in-Ok-clause-goes
returns-in-Ok-clause-goes g c = c.in-Ok.ensures.goes

pub returns-in-Ok-clause-same : goal.returns-in-Ok-clause-same
returns-in-Ok-clause-same g c = c.in-Ok.ensures.same

pub returns-in-Ok-clause-leads : goal.returns-in-Ok-clause-leads
returns-in-Ok-clause-leads g c = c.in-Ok.ensures.leads

pub returns-in-Ok-clause-stops : goal.returns-in-Ok-clause-stops
returns-in-Ok-clause-stops g c = c.in-Ok.ensures.stops

pub returns-in-Ok-clause-fits : goal.returns-in-Ok-clause-fits
returns-in-Ok-clause-fits g c = c.in-Ok.ensures.fits

pub returns-in-Err-clause-goes : goal.returns-in-Err-clause-goes
returns-in-Err-clause-goes g c = c.in-Err.ensures.goes

pub returns-in-Err-clause-same : goal.returns-in-Err-clause-same
returns-in-Err-clause-same g c = c.in-Err.ensures.same

pub returns-in-Err-clause-leads : goal.returns-in-Err-clause-leads
returns-in-Err-clause-leads g c = c.in-Err.ensures.leads

pub returns-in-Err-clause-stops : goal.returns-in-Err-clause-stops
returns-in-Err-clause-stops g c = c.in-Err.ensures.stops

pub returns-in-Err-clause-fits : goal.returns-in-Err-clause-fits
returns-in-Err-clause-fits g c = c.in-Err.ensures.fits

pub returns-in-Err-clause-device : goal.returns-in-Err-clause-device
returns-in-Err-clause-device g c = c.in-Err.ensures.device

pub returns-in_err-reserve-clause-seats : goal.returns-in_err-reserve-clause-seats
returns-in_err-reserve-clause-seats g c = c.in_err-reserve.ensures.seats

pub returns-in_err-reserve-clause-same : goal.returns-in_err-reserve-clause-same
returns-in_err-reserve-clause-same g c = record { rules = refl; names = refl }

pub returns-in_err-reserve-clause-fits : goal.returns-in_err-reserve-clause-fits
returns-in_err-reserve-clause-fits g c = c.requires.fits

pub returns-in_err-reserve-clause-still : goal.returns-in_err-reserve-clause-still
returns-in_err-reserve-clause-still g c = λ honest none. refl

pub make_step-requires-clause-is_open : goal.make_step-requires-clause-is_open
make_step-requires-clause-is_open g c = c.requires.is_open

pub make_step-requires-clause-undone : goal.make_step-requires-clause-undone
make_step-requires-clause-undone g c = c.requires.undone

pub make_step-requires-clause-fits : goal.make_step-requires-clause-fits
make_step-requires-clause-fits g c = c.requires.fits

pub returns-in_err-reserve-clause-noted : goal.returns-in_err-reserve-clause-noted
returns-in_err-reserve-clause-noted g c =
    let p = err_from_is_err_and c.from_residual.result c.from_residual.ensures.1 in
    rw (p.1, p.2) c.in_err-reserve.ensures.quiet

pub returns-in_err-reserve-clause-goes : goal.returns-in_err-reserve-clause-goes
returns-in_err-reserve-clause-goes g c =
    let p = err_from_is_err_and c.from_residual.result c.from_residual.ensures.1 in
    rw (p.1, p.2) refl

pub returns-in_err-reserve-clause-leads : goal.returns-in_err-reserve-clause-leads
returns-in_err-reserve-clause-leads g c = λ honest w under.
    let p = err_from_is_err_and c.from_residual.result c.from_residual.ensures.1 in
    rw (p.1, p.2) under

pub returns-in_err-reserve-clause-device : goal.returns-in_err-reserve-clause-device
returns-in_err-reserve-clause-device g c = λ honest.
    let p = err_from_is_err_and c.from_residual.result c.from_residual.ensures.1 in
    rw (p.1, p.2) tt

pub note_step-requires-clause-kind : goal.note_step-requires-clause-kind
note_step-requires-clause-kind g c = refl

pub note_step-requires-clause-room : goal.note_step-requires-clause-room
note_step-requires-clause-room g c = c.in_ok-reserve.ensures.room

pub note_fault-requires-clause-room : goal.note_fault-requires-clause-room
note_fault-requires-clause-room g c = c.in_ok-reserve.ensures.room

pub returns-in-Ok-clause-still : goal.returns-in-Ok-clause-still
returns-in-Ok-clause-still g c = λ honest none. absurd (none-some (event.Stepped c.in-Ok.phase) (sym none))

pub returns-in-Ok-clause-device : goal.returns-in-Ok-clause-device
returns-in-Ok-clause-device g c = c.in-Ok.ensures.device

pub returns-in-Ok-clause-room : goal.returns-in-Ok-clause-room
returns-in-Ok-clause-room g c = λ n. sym (c.note_step.ensures.one_less n) ∙ c.in_ok-reserve.ensures.one_more n

pub returns-in-Err-clause-room : goal.returns-in-Err-clause-room
returns-in-Err-clause-room g c = λ n. sym (c.note_fault.ensures.one_less n) ∙ c.in_ok-reserve.ensures.one_more n

pub returns-in_err-reserve-clause-room : goal.returns-in_err-reserve-clause-room
returns-in_err-reserve-clause-room g c = c.in_err-reserve.ensures.none

pub returns-in_err-reserve-clause-blames : goal.returns-in_err-reserve-clause-blames
returns-in_err-reserve-clause-blames g c =
    let p = err_from_is_err_and c.from_residual.result c.from_residual.ensures.1 in
    rw (p.1, p.2) tt
