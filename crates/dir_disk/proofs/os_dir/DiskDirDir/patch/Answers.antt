use Rattle.std.proofs.Common.{rules, ◌≡◌, inl, inr, ⊎_elim, ◌+◌, List, [], ℕ, length, sym, ◌∙◌, ap}
use Rattle.std.specs.Prelude.{IfErr, IsErr}
use Rattle.dir_calls.specs.Calls.{patches, after}
use Rattle.dir_disk.specs.OsDir.{GivesUp, IsWritable, kept_back}
use Rattle.dir_disk.specs.KeptImages.{kept_image, disk_image}
use Rattle.dir_calls.specs.declared.fault.DirFault.TheVariants.{Device}
use Rattle.dir_disk.proofs.KeptWrites.{writable_image, writable_disk}
use Rattle.dir_disk.proofs.OsCalls.{fails_given, kept_room}
use Rattle.dir_disk.proofs.Told.{on_ok_take, on_err_take, if_ok_take, does_residual, among_writes, call_elapses, call_includes}
use Rattle.dir_disk.proofs.os_dir.DiskDirDir.patch.Goals as goal

pub overwrite-outcome-requires-clause-inside : goal.overwrite-outcome-requires-clause-inside
overwrite-outcome-requires-clause-inside g c = λ honest.
    let s = c.args.self.now in
    let is : IsWritable (g.D.Disk.state s.disk) (g.D.Disk.number c.in-Some.file) s.written = (s.holds honest).1 c.in-Some.file (sym c.take.ensures.value ∙ c.in-Some.is) in
    kept_room (g.D.Disk.state s.disk) (g.D.Disk.number c.in-Some.file) s.written (c.args.position + length c.args.bytes.now) s.pending.items is (c.requires.inside honest)

pub returns-in_err-file-clause-does : goal.returns-in_err-file-clause-does
returns-in_err-file-clause-does g c = λ honest.
    let s = c.args.self.now in
    let d = g.D.Disk.state s.disk in
    let e = g.D.Disk.state c.overwrite-outcome.new.disk in
    let q = c.overwrite-outcome.new.pending.items in
    let call = patches c.args.position c.args.bytes.now in
    let device : IfErr c.from_residual.result (λ f. f ≡ Device) = search rules in
    let is : IsErr c.from_residual.result = search rules in
    does_residual (λ _. call) call (kept_back s.pending.items d) (kept_back q e) c.from_residual.result is device
    (fails_given g.D.Disk.number call d e s.scratch s.written s.pending.items q (s.holds honest) (on_err_take c.overwrite-outcome.result (GivesUp d e) c.in_err-file.ensures.failed (c.overwrite-outcome.ensures.failed honest)))

pub returns-in_err-file-clause-faults : goal.returns-in_err-file-clause-faults
returns-in_err-file-clause-faults g c =
    let device : IfErr c.from_residual.result (λ f. f ≡ Device) = search rules in
    among_writes c.from_residual.result device

pub returns-clause-time : goal.returns-clause-time
returns-clause-time g c = λ honest.
    let s = c.args.self.now in
    let d = g.D.Disk.state s.disk in
    let e = g.D.Disk.state c.overwrite-outcome.new.disk in
    let p = s.pending.items in
    let q = c.overwrite-outcome.new.pending.items in
    let now : IsWritable e (g.D.Disk.number c.in_ok-file.file) c.in_ok-file.written = if_ok_take c.overwrite-outcome.result (c.in_ok-file.file, c.in_ok-file.written) (λ w. IsWritable e (g.D.Disk.number w.0) w.1) c.in_ok-file.ensures.passed (c.overwrite-outcome.ensures.writable honest) in
    call_elapses g.D.Disk.state g.D.Disk.moment g.D.Disk.left_since s.disk c.overwrite-outcome.new.disk (patches c.args.position c.args.bytes.now) (kept_back p d) (kept_back q e) (c.overwrite-outcome.ensures.time honest)
    (λ image is. kept_image g.D.Disk.number d s.scratch s.written p image (s.holds honest) is) (λ image is. writable_image e (g.D.Disk.number c.in_ok-file.file) c.in_ok-file.written q image now is)

pub returns-clause-within : goal.returns-clause-within
returns-clause-within g c = λ honest.
    let s = c.args.self.now in
    let d = g.D.Disk.state s.disk in
    let e = g.D.Disk.state c.overwrite-outcome.new.disk in
    let p = s.pending.items in
    let q = c.overwrite-outcome.new.pending.items in
    let call = patches c.args.position c.args.bytes.now in
    let now : IsWritable e (g.D.Disk.number c.in_ok-file.file) c.in_ok-file.written = if_ok_take c.overwrite-outcome.result (c.in_ok-file.file, c.in_ok-file.written) (λ w. IsWritable e (g.D.Disk.number w.0) w.1) c.in_ok-file.ensures.passed (c.overwrite-outcome.ensures.writable honest) in
    let none : q ≡ [] = on_ok_take c.overwrite-outcome.result (c.in_ok-file.file, c.in_ok-file.written) (q ≡ []) c.in_ok-file.ensures.passed c.overwrite-outcome.ensures.empty in
    let done : kept_back [] e ≡ after call (kept_back p d) = on_ok_take c.overwrite-outcome.result (c.in_ok-file.file, c.in_ok-file.written) (kept_back [] e ≡ after call (kept_back p d)) c.in_ok-file.ensures.passed (c.overwrite-outcome.ensures.done honest) in
    call_includes g.D.Disk.state g.D.Disk.moment g.D.Disk.left_since (λ disk earlier image le now. g.met.D.Disk.counts_now disk earlier image honest le now) s.disk c.overwrite-outcome.new.disk call (kept_back p d) (kept_back q e) (c.overwrite-outcome.ensures.time honest)
    (λ image is. disk_image g.D.Disk.number d s.scratch s.written p image (s.holds honest) is) (λ image is. writable_disk e (g.D.Disk.number c.in_ok-file.file) c.in_ok-file.written q image now is)
    (λ at passes. ⊎_elim (λ first. inl first) (λ last. inr (last ∙ sym (ap (λ (l : List ℕ). kept_back l e) none ∙ done))) passes)
