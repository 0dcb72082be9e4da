use Rattle.std.proofs.Common.{rules, ◌≡◌, inl, ⊎_elim, ◌++◌, List, ℕ, take, sym, ◌∙◌, subst, ap, arith}
use Rattle.std.specs.Prelude.{IfErr, IsErr, ◌<◌, vec_len}
use Rattle.dir_calls.specs.Directory.{Directory}
use Rattle.dir_calls.specs.Images.{IsImage}
use Rattle.dir_calls.specs.Calls.{appends, after}
use Rattle.dir_disk.specs.OsDir.{GivesUp, IsWritable, kept_back}
use Rattle.dir_disk.specs.KeptImages.{kept_image, disk_image}
use Rattle.dir_calls.specs.declared.fault.DirFault.TheVariants.{Device, OutOfMemory}
use Rattle.dir_disk.proofs.KeptWrites.{writable_image, writable_disk}
use Rattle.dir_disk.proofs.OsCalls.{fails_given, kept_appended}
use Rattle.dir_disk.proofs.Told.{on_ok_take, on_err_take, if_ok_take, does_residual, among_writes, among_memory, call_elapses, call_includes_by}
use Rattle.dir_disk.proofs.os_dir.DiskDirDir.append.Goals as goal

pub returns-in_err-file-clause-does : goal.returns-in_err-file-clause-does
returns-in_err-file-clause-does g c = λ honest.
    let s = c.args.self.now in
    let d = g.D.Disk.state s.disk in
    let e = g.D.Disk.state c.make_room-outcome.new.disk in
    let q = c.make_room-outcome.new.pending.items in
    let call = appends c.args.piece.now in
    let device : IfErr c.from_residual.result (λ f. f ≡ Device) = search rules in
    let is : IsErr c.from_residual.result = search rules in
    does_residual (λ count. appends (take count c.args.piece.now)) call (kept_back s.pending.items d) (kept_back q e) c.from_residual.result is device
    (fails_given g.D.Disk.number call d e s.scratch s.written s.pending.items q (s.holds honest) (on_err_take c.make_room-outcome.result (GivesUp d e) c.in_err-file.ensures.failed (c.make_room-outcome.ensures.failed honest)))

pub returns-in_err-file-clause-faults : goal.returns-in_err-file-clause-faults
returns-in_err-file-clause-faults g c =
    let device : IfErr c.from_residual.result (λ f. f ≡ Device) = search rules in
    among_writes c.from_residual.result device

pub returns-in_err-extend_from_slice-clause-faults : goal.returns-in_err-extend_from_slice-clause-faults
returns-in_err-extend_from_slice-clause-faults g c =
    let memory : IfErr c.from_residual-in_err-extend_from_slice.result (λ f. f ≡ OutOfMemory) = search rules in
    among_memory c.from_residual-in_err-extend_from_slice.result memory

pub returns-in_err-extend_from_slice-clause-time : goal.returns-in_err-extend_from_slice-clause-time
returns-in_err-extend_from_slice-clause-time g c = λ honest.
    let s = c.args.self.now in
    let d = g.D.Disk.state s.disk in
    let e = g.D.Disk.state c.make_room-outcome.new.disk in
    let p = s.pending.items in
    let q = c.extend_from_slice.new.self.items in
    let now : IsWritable e (g.D.Disk.number c.in_ok-file.file) c.in_ok-file.written = if_ok_take c.make_room-outcome.result (c.in_ok-file.file, c.in_ok-file.written) (λ w. IsWritable e (g.D.Disk.number w.0) w.1) c.in_ok-file.ensures.passed (c.make_room-outcome.ensures.writable honest) in
    call_elapses g.D.Disk.state g.D.Disk.moment g.D.Disk.left_since s.disk c.make_room-outcome.new.disk (appends c.args.piece.now) (kept_back p d) (kept_back q e) (c.make_room-outcome.ensures.time honest)
    (λ image is. kept_image g.D.Disk.number d s.scratch s.written p image (s.holds honest) is) (λ image is. writable_image e (g.D.Disk.number c.in_ok-file.file) c.in_ok-file.written q image now is)

pub returns-clause-does : goal.returns-clause-does
returns-clause-does g c = λ honest.
    let s = c.args.self.now in
    let d = g.D.Disk.state s.disk in
    let e = g.D.Disk.state c.make_room-outcome.new.disk in
    let q = c.make_room-outcome.new.pending.items in
    let t = take c.min-count.result c.args.piece.now in
    let longer_now : c.extend_from_slice.new.self.items ≡ q ++ t = search rules in
    let kept : kept_back q e ≡ kept_back s.pending.items d = on_ok_take c.make_room-outcome.result (c.in_ok-file.file, c.in_ok-file.written) (kept_back q e ≡ kept_back s.pending.items d) c.in_ok-file.ensures.passed (c.make_room-outcome.ensures.kept honest) in
    ap (λ (l : List ℕ). kept_back l e) longer_now ∙ sym (kept_appended e q t) ∙ ap (after (appends t)) kept

pub returns-clause-time : goal.returns-clause-time
returns-clause-time g c = λ honest.
    let s = c.args.self.now in
    let d = g.D.Disk.state s.disk in
    let e = g.D.Disk.state c.make_room-outcome.new.disk in
    let p = s.pending.items in
    let q = c.extend_from_slice.new.self.items in
    let now : IsWritable e (g.D.Disk.number c.in_ok-file.file) c.in_ok-file.written = if_ok_take c.make_room-outcome.result (c.in_ok-file.file, c.in_ok-file.written) (λ w. IsWritable e (g.D.Disk.number w.0) w.1) c.in_ok-file.ensures.passed (c.make_room-outcome.ensures.writable honest) in
    call_elapses g.D.Disk.state g.D.Disk.moment g.D.Disk.left_since s.disk c.make_room-outcome.new.disk (appends c.args.piece.now) (kept_back p d) (kept_back q e) (c.make_room-outcome.ensures.time honest)
    (λ image is. kept_image g.D.Disk.number d s.scratch s.written p image (s.holds honest) is) (λ image is. writable_image e (g.D.Disk.number c.in_ok-file.file) c.in_ok-file.written q image now is)

pub returns-clause-within : goal.returns-clause-within
returns-clause-within g c = λ honest.
    let s = c.args.self.now in
    let d = g.D.Disk.state s.disk in
    let e = g.D.Disk.state c.make_room-outcome.new.disk in
    let p = s.pending.items in
    let q = c.extend_from_slice.new.self.items in
    let piece = c.args.piece.now in
    let now : IsWritable e (g.D.Disk.number c.in_ok-file.file) c.in_ok-file.written = if_ok_take c.make_room-outcome.result (c.in_ok-file.file, c.in_ok-file.written) (λ w. IsWritable e (g.D.Disk.number w.0) w.1) c.in_ok-file.ensures.passed (c.make_room-outcome.ensures.writable honest) in
    call_includes_by g.D.Disk.state g.D.Disk.moment g.D.Disk.left_since (λ disk earlier image le now. g.met.D.Disk.counts_now disk earlier image honest le now) s.disk c.make_room-outcome.new.disk (appends piece) (kept_back p d) (kept_back q e) (c.make_room-outcome.ensures.time honest)
    (λ at image passes is. inl (⊎_elim
    (λ first. disk_image g.D.Disk.number d s.scratch s.written p image (s.holds honest) (subst (λ (x : Directory). IsImage x image) first is))
    (λ last. disk_image g.D.Disk.number d s.scratch s.written (p ++ piece) image (s.holds honest) (subst (λ (x : Directory). IsImage x image) (last ∙ kept_appended d p piece) is)) passes))
    (λ image is. writable_disk e (g.D.Disk.number c.in_ok-file.file) c.in_ok-file.written q image now is)

pub returns-clause-some : goal.returns-clause-some
returns-clause-some g c = λ more.
    let room : vec_len c.make_room-outcome.new.pending < 65536 = on_ok_take c.make_room-outcome.result (c.in_ok-file.file, c.in_ok-file.written) (vec_len c.make_room-outcome.new.pending < 65536) c.in_ok-file.ensures.passed c.make_room-outcome.ensures.room in
    omega arith
