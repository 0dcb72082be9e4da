use Rattle.std.proofs.Common.{◌≡◌, ◌⊎◌, inl, inr, ⊎_elim, refl}
use Rattle.std.specs.Prelude.{None}
use Rattle.dir_calls.specs.Images.{IsImage}
use Rattle.dir_calls.specs.Calls.{makes, closed, without}
use Rattle.dir_calls.specs.Outcomes.{LeftBy, Fails}
use Rattle.dir_disk.specs.DiskSteps.{AllOrNone, created}
use Rattle.dir_disk.proofs.Steps.{elapses_join}
use Rattle.dir_disk.proofs.KeptWrites.{created_closed, without_closed, fails_named, fails_made, made_handle}
use Rattle.dir_disk.proofs.Told.{on_err_then, on_err_give}
use Rattle.dir_disk.proofs.scratch.make_file.Goals as goal

pub returns-in_err-unlink-clause-failed : goal.returns-in_err-unlink-clause-failed
returns-in_err-unlink-clause-failed g c = λ honest.
    let name = c.args.name.now in
    let d = g.D.Disk.state c.args.disk.now in
    let e = g.D.Disk.state c.unlink.new.self in
    on_err_give c.from_residual.result (Fails (makes name) d e) (fails_named name d e (c.in_err-unlink.ensures.failed honest))

pub returns-clause-writable : goal.returns-clause-writable
returns-clause-writable g c = λ honest.
    made_handle g.D.Disk.number (g.D.Disk.state c.unlink.new.self) (g.D.Disk.state c.create.new.self) c.args.name.now c.create.result (c.create.ensures.done honest) (c.create.ensures.handle honest)

pub returns-clause-failed : goal.returns-clause-failed
returns-clause-failed g c = λ honest.
    let name = c.args.name.now in
    let d = g.D.Disk.state c.args.disk.now in
    let e = g.D.Disk.state c.unlink.new.self in
    let f = g.D.Disk.state c.create.new.self in
    on_err_then c.create.result (AllOrNone e (closed (created e name)) f) (Fails (makes name) d f) (λ left. fails_made name d e f (c.in_ok-unlink.ensures.done honest) left) (c.create.ensures.failed honest)

pub returns-clause-time : goal.returns-clause-time
returns-clause-time g c = λ honest.
    let d = g.D.Disk.state c.args.disk.now in
    let e = g.D.Disk.state c.unlink.new.self in
    let f = g.D.Disk.state c.create.new.self in
    let name = c.args.name.now in
    let gone : e ≡ without d name = c.in_ok-unlink.ensures.done honest in
    elapses_join (g.D.Disk.moment c.args.disk.now) (g.D.Disk.moment c.unlink.new.self) (g.D.Disk.moment c.create.new.self) (g.D.Disk.left_since c.args.disk.now) (g.D.Disk.left_since c.unlink.new.self) (g.D.Disk.left_since c.create.new.self)
    (λ image. IsImage d image ⊎ IsImage e image) (λ image. IsImage e image ⊎ IsImage f image) (LeftBy (makes name) d f) (c.unlink.ensures.time honest) (c.create.ensures.time honest)
    (λ image. λ is. ⊎_elim (λ first. inl (d, inl refl, first)) (λ mid. inl (e, inr (inl gone), mid)) is)
    (λ image. λ is. ⊎_elim (λ mid. inl (e, inr (inl gone), mid)) (λ last. inr last) is)

pub returns-in_err-unlink-clause-closed : goal.returns-in_err-unlink-clause-closed
returns-in_err-unlink-clause-closed g c = λ honest.
    let name = c.args.name.now in
    let e = g.D.Disk.state c.unlink.new.self in
    on_err_give c.from_residual.result (e.scratch ≡ None) (without_closed name (g.D.Disk.state c.args.disk.now) e (c.requires honest) (c.in_err-unlink.ensures.failed honest))

pub returns-clause-closed : goal.returns-clause-closed
returns-clause-closed g c = λ honest.
    let name = c.args.name.now in
    let e = g.D.Disk.state c.unlink.new.self in
    let f = g.D.Disk.state c.create.new.self in
    on_err_then c.create.result (AllOrNone e (closed (created e name)) f) (f.scratch ≡ None) (λ left. created_closed name (g.D.Disk.state c.args.disk.now) e f (c.requires honest) (c.in_ok-unlink.ensures.done honest) left) (c.create.ensures.failed honest)
