use Rattle.std.proofs.Common.{◌∙◌}
use Rattle.dir_disk.proofs.KeptWrites.{is_closed, kept_closed}
use Rattle.dir_disk.proofs.Steps.{step_before}
use Rattle.dir_disk.proofs.scratch.let_go.Goals as goal

pub returns-clause-done : goal.returns-clause-done
returns-clause-done g c = λ honest.
    c.close.ensures.done honest ∙ kept_closed (g.D.Disk.state c.args.disk.now) (g.D.Disk.state c.write_kept.new.disk) c.args.pending.now.items (c.in_ok-file.ensures.kept honest)

pub returns-clause-time : goal.returns-clause-time
returns-clause-time g c = λ honest.
    let written = c.write_kept.new.disk in
    let last = c.close.new.self in
    step_before g.D.Disk.state g.D.Disk.moment g.D.Disk.left_since c.args.disk.now written last (c.write_kept.ensures.time honest) (c.close.ensures.time honest)
    (λ image is. is_closed (g.D.Disk.state written) (g.D.Disk.state last) image (c.close.ensures.done honest) is)
