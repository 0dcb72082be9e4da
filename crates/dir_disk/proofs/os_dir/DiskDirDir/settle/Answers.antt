use Rattle.std.proofs.Common.{rules, ◌≡◌, inl, inr, ⊎_elim, sym, ◌∙◌, ap}
use Rattle.dir_calls.specs.Calls.{settles, after}
use Rattle.dir_calls.specs.Outcomes.{LeftBy}
use Rattle.dir_calls.specs.Moments.{Includes}
use Rattle.dir_disk.specs.OsDir.{Holds, kept_back}
use Rattle.dir_disk.specs.KeptImages.{kept_image, disk_image}
use Rattle.dir_disk.proofs.OsCalls.{kept_settled}
use Rattle.dir_disk.proofs.Told.{on_ok_then, told_ok, call_elapses, call_includes}
use Rattle.dir_disk.proofs.os_dir.DiskDirDir.settle.Goals as goal

-- the disk after it holds the same scratch file
pub returns-clause-time : goal.returns-clause-time
returns-clause-time g c = λ honest.
    let s = c.args.self.now in
    let d = g.D.Disk.state s.disk in
    let e = g.D.Disk.state c.sync_folder-outcome.new.self in
    let p = s.pending.items in
    let holds : Holds g.D.Disk.number e s.scratch s.written = search rules in
    call_elapses g.D.Disk.state g.D.Disk.moment g.D.Disk.left_since s.disk c.sync_folder-outcome.new.self settles (kept_back p d) (kept_back p e) (c.sync_folder-outcome.ensures.time honest)
    (λ image is. kept_image g.D.Disk.number d s.scratch s.written p image (s.holds honest) is) (λ image is. kept_image g.D.Disk.number e s.scratch s.written p image holds is)

pub returns-clause-within : goal.returns-clause-within
returns-clause-within g c = λ honest.
    let s = c.args.self.now in
    let d = g.D.Disk.state s.disk in
    let e = g.D.Disk.state c.sync_folder-outcome.new.self in
    let p = s.pending.items in
    let holds : Holds g.D.Disk.number e s.scratch s.written = search rules in
    on_ok_then c.told.result (e ≡ after settles d) (Includes (g.D.Disk.moment s.disk) (g.D.Disk.left_since c.sync_folder-outcome.new.self) (LeftBy settles (kept_back p d) (kept_back p e)))
    (λ done. call_includes g.D.Disk.state g.D.Disk.moment g.D.Disk.left_since (λ disk earlier image le now. g.met.D.Disk.counts_now disk earlier image honest le now) s.disk c.sync_folder-outcome.new.self settles (kept_back p d) (kept_back p e) (c.sync_folder-outcome.ensures.time honest)
    (λ image is. disk_image g.D.Disk.number d s.scratch s.written p image (s.holds honest) is) (λ image is. disk_image g.D.Disk.number e s.scratch s.written p image holds is)
    (λ at passes. ⊎_elim (λ first. inl first) (λ last. inr (last ∙ sym (ap (kept_back p) done ∙ kept_settled d p))) passes))
    (told_ok c.sync_folder-outcome.result c.told.result (e ≡ after settles d) c.told.ensures.passed (c.sync_folder-outcome.ensures.done honest))
