use Rattle.std.proofs.Common.{⊎_elim, subst}
use Rattle.dir_calls.specs.Directory.{Directory}
use Rattle.dir_calls.specs.Images.{IsImage}
use Rattle.dir_disk.specs.OsDir.{kept_back}
use Rattle.dir_disk.specs.KeptImages.{kept_image}
use Rattle.dir_disk.proofs.Steps.{elapses_widen}
use Rattle.dir_disk.proofs.Told.{among_opens}
use Rattle.dir_disk.proofs.os_dir.DiskDirDir.open.Goals as goal

pub returns-clause-faults : goal.returns-clause-faults
returns-clause-faults g c = among_opens c.told.result c.told.ensures.fault

pub returns-clause-time : goal.returns-clause-time
returns-clause-time g c = λ honest.
    let s = c.args.self.now in
    let d = g.D.Disk.state s.disk in
    let e = g.D.Disk.state c.open_file-outcome.new.disk in
    let p = s.pending.items in
    elapses_widen (g.D.Disk.moment s.disk) (g.D.Disk.moment c.open_file-outcome.new.disk) (g.D.Disk.left_since s.disk) (g.D.Disk.left_since c.open_file-outcome.new.disk) _ (IsImage (kept_back p d)) (c.open_file-outcome.ensures.time honest)
    (λ image is. kept_image g.D.Disk.number d s.scratch s.written p image (s.holds honest) (⊎_elim (λ was. was) (λ now. subst (λ (x : Directory). IsImage x image) (c.open_file-outcome.ensures.same honest) now) is))
