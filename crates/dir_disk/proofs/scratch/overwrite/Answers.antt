use Rattle.std.proofs.Common.{◌≤◌, ◌+◌, length, sym, ◌∙◌, subst, ap, [], arith}
use Rattle.dir_calls.specs.Directory.{Directory}
use Rattle.dir_disk.specs.OsDir.{IsWritable, kept_back}
use Rattle.dir_disk.proofs.Steps.{step_after, step_before}
use Rattle.dir_disk.proofs.KeptWrites.{gives_up, may_write, kept_patched, writable_inside, is_closed, written_image}
use Rattle.dir_disk.proofs.DiskWrites.{spoils_more}
use Rattle.dir_disk.proofs.scratch.overwrite.Goals as goal

pub write_all_at-requires : goal.write_all_at-requires
write_all_at-requires g c = record {
  may = λ honest.
      let inside : c.args.position ≤ c.in_ok-file.written = omega (arith, c.requires.inside honest, c.in_ok-file.ensures.end honest) in
      may_write (g.D.Disk.state c.write_kept.new.disk) (g.D.Disk.number c.in_ok-file.file) c.in_ok-file.written c.args.position (c.in_ok-file.ensures.writable honest) inside;
}

pub returns-in-Err-clause-failed : goal.returns-in-Err-clause-failed
returns-in-Err-clause-failed g c = λ honest.
    let d = g.D.Disk.state c.args.disk.now in
    let e = g.D.Disk.state c.write_kept.new.disk in
    let s = g.D.Disk.state c.write_all_at.new.self in
    gives_up d s (g.D.Disk.state c.close.new.self) (spoils_more d e s (c.in_ok-file.ensures.spares honest) (c.in-Err.ensures.failed honest)) (c.close.ensures.done honest)

pub returns-in-Ok-clause-done : goal.returns-in-Ok-clause-done
returns-in-Ok-clause-done g c = λ honest.
    ap (kept_back []) (c.in-Ok.ensures.done honest)
    ∙ kept_patched (g.D.Disk.state c.args.disk.now) (g.D.Disk.state c.write_kept.new.disk) (g.D.Disk.number c.in_ok-file.file) c.in_ok-file.written c.args.position c.args.pending.now.items c.args.bytes.now
    (c.in_ok-file.ensures.writable honest) (c.in_ok-file.ensures.kept honest)

pub returns-in-Ok-clause-writable : goal.returns-in-Ok-clause-writable
returns-in-Ok-clause-writable g c = λ honest.
    let inside : c.args.position + length c.args.bytes.now ≤ c.in_ok-file.written = omega (arith, c.requires.inside honest, c.in_ok-file.ensures.end honest) in
    subst (λ (x : Directory). IsWritable x (g.D.Disk.number c.in_ok-file.file) c.in_ok-file.written) (sym (c.in-Ok.ensures.done honest))
    (writable_inside (g.D.Disk.state c.write_kept.new.disk) (g.D.Disk.number c.in_ok-file.file) c.in_ok-file.written c.args.position c.args.bytes.now (c.in_ok-file.ensures.writable honest) inside)

pub returns-in-Ok-clause-time : goal.returns-in-Ok-clause-time
returns-in-Ok-clause-time g c = λ honest.
    step_after g.D.Disk.state g.D.Disk.moment g.D.Disk.left_since c.args.disk.now c.write_kept.new.disk c.write_all_at.new.self (c.in_ok-file.ensures.time honest)
    (written_image (g.D.Disk.state c.args.disk.now) (g.D.Disk.state c.write_kept.new.disk) (g.D.Disk.number c.args.file) (g.D.Disk.number c.in_ok-file.file) c.args.written c.in_ok-file.written c.args.pending.now.items (c.requires.writable honest)
    (c.in_ok-file.ensures.writable honest) (c.in_ok-file.ensures.kept honest))
    (c.write_all_at.ensures.time honest)

pub returns-in-Err-clause-time : goal.returns-in-Err-clause-time
returns-in-Err-clause-time g c = λ honest.
    step_before g.D.Disk.state g.D.Disk.moment g.D.Disk.left_since c.args.disk.now c.write_all_at.new.self c.close.new.self
    (step_after g.D.Disk.state g.D.Disk.moment g.D.Disk.left_since c.args.disk.now c.write_kept.new.disk c.write_all_at.new.self (c.in_ok-file.ensures.time honest)
    (written_image (g.D.Disk.state c.args.disk.now) (g.D.Disk.state c.write_kept.new.disk) (g.D.Disk.number c.args.file) (g.D.Disk.number c.in_ok-file.file) c.args.written c.in_ok-file.written c.args.pending.now.items (c.requires.writable honest)
    (c.in_ok-file.ensures.writable honest) (c.in_ok-file.ensures.kept honest))
    (c.write_all_at.ensures.time honest))
    (c.close.ensures.time honest) (λ image is. is_closed (g.D.Disk.state c.write_all_at.new.self) (g.D.Disk.state c.close.new.self) image (c.close.ensures.done honest) is)
