use Rattle.std.proofs.Common.{◌≡◌, ◌∙◌, ap}
use Rattle.dir_calls.specs.Calls.{syncs, after, closed}
use Rattle.dir_disk.specs.DiskSteps.{Spoils, after_sync}
use Rattle.dir_disk.specs.OsDir.{GivesUp, kept_back}
use Rattle.dir_disk.proofs.Steps.{step_after, step_before}
use Rattle.dir_disk.proofs.DiskWrites.{spoils_more}
use Rattle.dir_disk.proofs.KeptWrites.{kept_synced, gives_up, is_closed, written_image}
use Rattle.dir_disk.proofs.Told.{on_ok_then, on_err_then}
use Rattle.dir_disk.proofs.scratch.sync_kept.Goals as goal

pub returns-clause-done : goal.returns-clause-done
returns-clause-done g c = λ honest.
    let d = g.D.Disk.state c.args.disk.now in
    let e = g.D.Disk.state c.write_kept.new.disk in
    let s = g.D.Disk.state c.sync-outcome.new.self in
    on_ok_then c.sync-outcome.result (s ≡ after_sync e) (g.D.Disk.state c.close.new.self ≡ after syncs (kept_back c.args.pending.now.items d))
    (λ done. c.close.ensures.done honest ∙ ap closed done ∙ kept_synced d e c.args.pending.now.items (c.in_ok-file.ensures.kept honest)) (c.sync-outcome.ensures.done honest)

pub returns-clause-failed : goal.returns-clause-failed
returns-clause-failed g c = λ honest.
    let d = g.D.Disk.state c.args.disk.now in
    let e = g.D.Disk.state c.write_kept.new.disk in
    let s = g.D.Disk.state c.sync-outcome.new.self in
    on_err_then c.sync-outcome.result (Spoils e s) (GivesUp d (g.D.Disk.state c.close.new.self))
    (λ spoils. gives_up d s (g.D.Disk.state c.close.new.self) (spoils_more d e s (c.in_ok-file.ensures.spares honest) spoils) (c.close.ensures.done honest)) (c.sync-outcome.ensures.failed honest)

pub returns-clause-time : goal.returns-clause-time
returns-clause-time g c = λ honest.
    let d = g.D.Disk.state c.args.disk.now in
    let e = g.D.Disk.state c.write_kept.new.disk in
    let s = g.D.Disk.state c.sync-outcome.new.self in
    step_before g.D.Disk.state g.D.Disk.moment g.D.Disk.left_since c.args.disk.now c.sync-outcome.new.self c.close.new.self
    (step_after g.D.Disk.state g.D.Disk.moment g.D.Disk.left_since c.args.disk.now c.write_kept.new.disk c.sync-outcome.new.self (c.in_ok-file.ensures.time honest)
    (written_image d e (g.D.Disk.number c.args.file) (g.D.Disk.number c.in_ok-file.file) c.args.written c.in_ok-file._written c.args.pending.now.items (c.requires.writable honest)
    (c.in_ok-file.ensures.writable honest) (c.in_ok-file.ensures.kept honest))
    (c.sync-outcome.ensures.time honest))
    (c.close.ensures.time honest) (λ image is. is_closed s (g.D.Disk.state c.close.new.self) image (c.close.ensures.done honest) is)
