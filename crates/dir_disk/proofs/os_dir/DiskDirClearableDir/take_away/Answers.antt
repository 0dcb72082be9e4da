use Rattle.std.proofs.Common.{◌≡◌, sym, ◌∙◌, subst, ap}
use Rattle.std.specs.Prelude.{None}
use Rattle.dir_calls.specs.Directory.{Directory, number_of}
use Rattle.dir_calls.specs.Images.{IsImage}
use Rattle.dir_calls.specs.Calls.{makes, closed, without}
use Rattle.dir_calls.specs.Outcomes.{Fails}
use Rattle.dir_disk.specs.OsDir.{kept_back}
use Rattle.dir_disk.specs.DiskSteps.{AllOrNone, StepElapses}
use Rattle.dir_disk.specs.KeptImages.{kept_image}
use Rattle.dir_calls.proofs.Clearing.{fails_spares}
use Rattle.dir_calls.proofs.Removals.{gone, removal_stays}
use Rattle.dir_disk.proofs.KeptWrites.{closed_from, kept_nowhere}
use Rattle.dir_disk.proofs.Removals.{removal_closed, removal_fails, unlinked}
use Rattle.dir_disk.proofs.Steps.{step_after}
use Rattle.dir_disk.proofs.Told.{among_opens, on_ok_then, told_ok, call_elapses}
use Rattle.dir_disk.proofs.os_dir.DiskDirClearableDir.take_away.Goals as goal

pub returns-clause-gone : goal.returns-clause-gone
returns-clause-gone g c = λ honest.
    let s = c.args.self.now in
    let d = g.D.Disk.state s.disk in
    let m = g.D.Disk.state c.give_up.new.disk in
    let f = g.D.Disk.state c.unlink-outcome.new.self in
    let p = s.pending.items in
    let q = c.clear.new.self.items in
    let name = c.args.name.now in
    let how : AllOrNone (closed d) (without (closed d) name) f =
    unlinked c.unlink-outcome.result m (closed d) f name (c.give_up.ensures.done honest) (c.unlink-outcome.ensures.done honest) (c.unlink-outcome.ensures.failed honest) in
    let nowhere : kept_back q f ≡ f = kept_nowhere f q (removal_closed g.D.Disk.number d f s.scratch s.written p name (s.holds honest) how) in
    told_ok c.unlink-outcome.result c.told.result (number_of (kept_back q f) name ≡ None) c.told.ensures.passed
    (on_ok_then c.unlink-outcome.result (f ≡ without m name) (number_of (kept_back q f) name ≡ None)
    (λ done. ap (λ (x : Directory). number_of x name) (nowhere ∙ done) ∙ gone m name) (c.unlink-outcome.ensures.done honest))

pub returns-clause-others : goal.returns-clause-others
returns-clause-others g c = λ honest.
    let s = c.args.self.now in
    let d = g.D.Disk.state s.disk in
    let m = g.D.Disk.state c.give_up.new.disk in
    let f = g.D.Disk.state c.unlink-outcome.new.self in
    let p = s.pending.items in
    let q = c.clear.new.self.items in
    let name = c.args.name.now in
    let how : AllOrNone (closed d) (without (closed d) name) f =
    unlinked c.unlink-outcome.result m (closed d) f name (c.give_up.ensures.done honest) (c.unlink-outcome.ensures.done honest) (c.unlink-outcome.ensures.failed honest) in
    fails_spares name (kept_back p d) (kept_back q f)
    (subst (λ (x : Directory). Fails (makes name) (kept_back p d) x)
    (sym (kept_nowhere f q (removal_closed g.D.Disk.number d f s.scratch s.written p name (s.holds honest) how)))
    (removal_fails g.D.Disk.number d f s.scratch s.written p name (s.holds honest) how))

pub returns-clause-closed : goal.returns-clause-closed
returns-clause-closed g c = λ honest.
    let s = c.args.self.now in
    let d = g.D.Disk.state s.disk in
    let m = g.D.Disk.state c.give_up.new.disk in
    let f = g.D.Disk.state c.unlink-outcome.new.self in
    let p = s.pending.items in
    let q = c.clear.new.self.items in
    let name = c.args.name.now in
    let how : AllOrNone (closed d) (without (closed d) name) f =
    unlinked c.unlink-outcome.result m (closed d) f name (c.give_up.ensures.done honest) (c.unlink-outcome.ensures.done honest) (c.unlink-outcome.ensures.failed honest) in
    let shut = removal_closed g.D.Disk.number d f s.scratch s.written p name (s.holds honest) how in
    ap (λ (x : Directory). x.scratch) (kept_nowhere f q shut) ∙ shut

pub returns-clause-stays : goal.returns-clause-stays
returns-clause-stays g c = λ honest other differ contents lasts.
    let s = c.args.self.now in
    let d = g.D.Disk.state s.disk in
    let m = g.D.Disk.state c.give_up.new.disk in
    let f = g.D.Disk.state c.unlink-outcome.new.self in
    let p = s.pending.items in
    let q = c.clear.new.self.items in
    let name = c.args.name.now in
    let how : AllOrNone (closed d) (without (closed d) name) f =
    unlinked c.unlink-outcome.result m (closed d) f name (c.give_up.ensures.done honest) (c.unlink-outcome.ensures.done honest) (c.unlink-outcome.ensures.failed honest) in
    let nowhere : f ≡ kept_back q f = sym (kept_nowhere f q (removal_closed g.D.Disk.number d f s.scratch s.written p name (s.holds honest) how)) in
    let time : StepElapses g.D.Disk.state g.D.Disk.moment g.D.Disk.left_since s.disk c.unlink-outcome.new.self =
    step_after g.D.Disk.state g.D.Disk.moment g.D.Disk.left_since s.disk c.give_up.new.disk c.unlink-outcome.new.self (c.give_up.ensures.time honest)
    (λ image is. closed_from d image (subst (λ (x : Directory). IsImage x image) (c.give_up.ensures.done honest) is)) (c.unlink-outcome.ensures.time honest) in
    removal_stays _ name other contents s _ differ lasts
    (λ image left. kept_image g.D.Disk.number d s.scratch s.written p image (s.holds honest) (g.met.D.Disk.only_now s.disk image honest left))
    (call_elapses g.D.Disk.state g.D.Disk.moment g.D.Disk.left_since s.disk c.unlink-outcome.new.self (makes name) (kept_back p d) (kept_back q f) time
    (λ image is. kept_image g.D.Disk.number d s.scratch s.written p image (s.holds honest) is) (λ image is. subst (λ (x : Directory). IsImage x image) nowhere is))
    (subst (λ (x : Directory). Fails (makes name) (kept_back p d) x) nowhere (removal_fails g.D.Disk.number d f s.scratch s.written p name (s.holds honest) how))

pub returns-clause-faults : goal.returns-clause-faults
returns-clause-faults g c = among_opens c.told.result c.told.ensures.fault
