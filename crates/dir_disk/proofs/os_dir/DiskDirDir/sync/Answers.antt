use Rattle.std.proofs.Common.{◌≡◌, inl, inr, ⊎_elim, sym, ◌∙◌, subst}
use Rattle.dir_calls.specs.Directory.{Directory}
use Rattle.dir_calls.specs.Images.{IsImage}
use Rattle.dir_calls.specs.Calls.{syncs, after}
use Rattle.dir_calls.specs.Outcomes.{Fails, LeftBy}
use Rattle.dir_calls.specs.Moments.{Includes}
use Rattle.dir_disk.specs.OsDir.{GivesUp, kept_back}
use Rattle.dir_disk.specs.KeptImages.{disk_image}
use Rattle.dir_disk.proofs.KeptWrites.{kept_nowhere}
use Rattle.dir_disk.proofs.OsCalls.{fails_given}
use Rattle.dir_disk.proofs.Told.{among_writes, on_ok_then, on_err_then, told_ok, told_err, does_told, call_includes}
use Rattle.dir_disk.proofs.os_dir.DiskDirDir.sync.Goals as goal

pub returns-clause-does : goal.returns-clause-does
returns-clause-does g c = λ honest.
    let s = c.args.self.now in
    let d = g.D.Disk.state s.disk in
    let e = g.D.Disk.state c.sync_kept-outcome.new.disk in
    let p = s.pending.items in
    let q = c.sync_kept-outcome.new.pending.items in
    does_told (λ _. syncs) syncs (kept_back p d) (kept_back q e) c.told.result
    (told_ok c.sync_kept-outcome.result c.told.result (kept_back q e ≡ after syncs (kept_back p d)) c.told.ensures.passed
    (on_ok_then c.sync_kept-outcome.result (e ≡ after syncs (kept_back p d)) (kept_back q e ≡ after syncs (kept_back p d))
    (λ done. kept_nowhere e q (c.sync_kept-outcome.ensures.closed honest) ∙ done) (c.sync_kept-outcome.ensures.done honest)))
    c.told.ensures.fault
    (told_err c.sync_kept-outcome.result c.told.result (Fails syncs (kept_back p d) (kept_back q e)) c.told.ensures.failed
    (on_err_then c.sync_kept-outcome.result (GivesUp d e) (Fails syncs (kept_back p d) (kept_back q e))
    (λ gives. fails_given g.D.Disk.number syncs d e s.scratch s.written p q (s.holds honest) gives) (c.sync_kept-outcome.ensures.failed honest)))

pub returns-clause-within : goal.returns-clause-within
returns-clause-within g c = λ honest.
    let s = c.args.self.now in
    let d = g.D.Disk.state s.disk in
    let e = g.D.Disk.state c.sync_kept-outcome.new.disk in
    let p = s.pending.items in
    let q = c.sync_kept-outcome.new.pending.items in
    let nowhere = kept_nowhere e q (c.sync_kept-outcome.ensures.closed honest) in
    on_ok_then c.told.result (e ≡ after syncs (kept_back p d)) (Includes (g.D.Disk.moment s.disk) (g.D.Disk.left_since c.sync_kept-outcome.new.disk) (LeftBy syncs (kept_back p d) (kept_back q e)))
    (λ done. call_includes g.D.Disk.state g.D.Disk.moment g.D.Disk.left_since (λ disk earlier image le now. g.met.D.Disk.counts_now disk earlier image honest le now) s.disk c.sync_kept-outcome.new.disk syncs (kept_back p d) (kept_back q e)
    (c.sync_kept-outcome.ensures.time honest) (λ image is. disk_image g.D.Disk.number d s.scratch s.written p image (s.holds honest) is)
    (λ image is. subst (λ (x : Directory). IsImage x image) nowhere is) (λ at passes. ⊎_elim (λ first. inl first) (λ last. inr (last ∙ sym (nowhere ∙ done))) passes))
    (told_ok c.sync_kept-outcome.result c.told.result (e ≡ after syncs (kept_back p d)) c.told.ensures.passed (c.sync_kept-outcome.ensures.done honest))

pub returns-clause-faults : goal.returns-clause-faults
returns-clause-faults g c = among_writes c.told.result c.told.ensures.fault
