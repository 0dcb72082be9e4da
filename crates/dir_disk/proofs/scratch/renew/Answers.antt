use Rattle.std.proofs.Common.{◌≡◌, ◌⊎◌, inl, ⊎_elim, ◌≤◌, ap, refl, sym, subst, arith}
use Rattle.std.specs.Prelude.{None}
use Rattle.dir_calls.specs.Directory.{Directory}
use Rattle.dir_calls.specs.Images.{IsImage}
use Rattle.dir_calls.specs.Calls.{makes, closed}
use Rattle.dir_calls.specs.Outcomes.{Fails, LeftBy}
use Rattle.dir_calls.specs.Moments.{Includes}
use Rattle.dir_disk.specs.OsDir.{kept_back}
use Rattle.dir_disk.specs.KeptImages.{kept_image, disk_image}
use Rattle.dir_disk.proofs.Steps.{elapses_join}
use Rattle.dir_disk.proofs.KeptWrites.{closed_from}
use Rattle.dir_disk.proofs.OsCalls.{fails_gone, fails_closed, left_closed, closed_left}
use Rattle.dir_disk.proofs.Told.{call_elapses, on_ok_then, on_err_then, on_err_give}
use Rattle.dir_disk.proofs.scratch.renew.Goals as goal

pub returns-in_err-let_go-clause-failed : goal.returns-in_err-let_go-clause-failed
returns-in_err-let_go-clause-failed g c = λ honest.
    let name = c.args.name.now in
    let d = g.D.Disk.state c.args.disk.now in
    let m = g.D.Disk.state c.let_go.new.disk in
    let p = c.args.pending.now.items in
    on_err_give c.from_residual.result (Fails (makes name) (kept_back p d) m)
    (fails_gone g.D.Disk.number (makes name) d m c.args.scratch c.args.written p (c.requires.holds honest) (c.in_err-let_go.ensures.failed honest))

pub returns-clause-failed : goal.returns-clause-failed
returns-clause-failed g c = λ honest.
    let name = c.args.name.now in
    let d = g.D.Disk.state c.args.disk.now in
    let m = g.D.Disk.state c.let_go.new.disk in
    let f = g.D.Disk.state c.make_file.new.disk in
    let p = c.args.pending.now.items in
    let is : m ≡ closed (kept_back p d) = c.in_ok-let_go.ensures.done honest in
    on_err_then c.make_file.result (Fails (makes name) m f) (Fails (makes name) (kept_back p d) f)
    (λ fails. fails_closed name (kept_back p d) f (subst (λ (x : Directory). Fails (makes name) x f) is fails)) (c.make_file.ensures.failed honest)

pub returns-clause-time : goal.returns-clause-time
returns-clause-time g c = λ honest.
    let name = c.args.name.now in
    let d = g.D.Disk.state c.args.disk.now in
    let m = g.D.Disk.state c.let_go.new.disk in
    let f = g.D.Disk.state c.make_file.new.disk in
    let p = c.args.pending.now.items in
    let is : m ≡ closed (kept_back p d) = c.in_ok-let_go.ensures.done honest in
    elapses_join (g.D.Disk.moment c.args.disk.now) (g.D.Disk.moment c.let_go.new.disk) (g.D.Disk.moment c.make_file.new.disk)
    (g.D.Disk.left_since c.args.disk.now) (g.D.Disk.left_since c.let_go.new.disk) (g.D.Disk.left_since c.make_file.new.disk)
    (λ image. IsImage d image ⊎ IsImage m image) (LeftBy (makes name) m f) (LeftBy (makes name) (kept_back p d) f) (c.let_go.ensures.time honest) (c.make_file.ensures.time honest)
    (λ image. λ left. ⊎_elim (λ first. inl (kept_back p d, inl refl, kept_image g.D.Disk.number d c.args.scratch c.args.written p image (c.requires.holds honest) first))
    (λ mid. inl (kept_back p d, inl refl, closed_from (kept_back p d) image (subst (λ (x : Directory). IsImage x image) is mid))) left)
    (λ image left. left_closed name (kept_back p d) f image (subst (λ (x : Directory). LeftBy (makes name) x f image) is left))

pub returns-clause-within : goal.returns-clause-within
returns-clause-within g c = λ honest.
    let name = c.args.name.now in
    let d = g.D.Disk.state c.args.disk.now in
    let m = g.D.Disk.state c.let_go.new.disk in
    let f = g.D.Disk.state c.make_file.new.disk in
    let p = c.args.pending.now.items in
    let is : m ≡ closed (kept_back p d) = c.in_ok-let_go.ensures.done honest in
    let went = c.let_go.ensures.time honest in
    let made = c.make_file.ensures.time honest in
    on_ok_then c.make_file.result (Includes (g.D.Disk.moment c.let_go.new.disk) (g.D.Disk.left_since c.make_file.new.disk) (LeftBy (makes name) m f))
    (Includes (g.D.Disk.moment c.args.disk.now) (g.D.Disk.left_since c.make_file.new.disk) (LeftBy (makes name) (kept_back p d) f))
    (λ includes. λ earlier image le left.
    let later : earlier ≤ g.D.Disk.moment c.let_go.new.disk = omega (arith, le, went.later) in
    ⊎_elim
    (λ first. made.keeps earlier image later (went.keeps earlier image le (g.met.D.Disk.counts_now c.args.disk.now earlier image honest le (disk_image g.D.Disk.number d c.args.scratch c.args.written p image (c.requires.holds honest) first))))
    (λ other. includes earlier image later (subst (λ (x : Directory). LeftBy (makes name) x f image) (sym is) other))
    (closed_left name (kept_back p d) f image left))
    (c.make_file.ensures.within honest)

pub make_file-requires : goal.make_file-requires
make_file-requires g c = λ honest. ap (λ (x : Directory). x.scratch) (c.in_ok-let_go.ensures.done honest)

pub returns-in_err-let_go-clause-closed : goal.returns-in_err-let_go-clause-closed
returns-in_err-let_go-clause-closed g c = λ honest.
    on_err_give c.from_residual.result ((g.D.Disk.state c.let_go.new.disk).scratch ≡ None) (c.in_err-let_go.ensures.failed honest).scratch

pub returns-in_err-let_go-clause-time : goal.returns-in_err-let_go-clause-time
returns-in_err-let_go-clause-time g c = λ honest.
    let d = g.D.Disk.state c.args.disk.now in
    let p = c.args.pending.now.items in
    call_elapses g.D.Disk.state g.D.Disk.moment g.D.Disk.left_since c.args.disk.now c.let_go.new.disk (makes c.args.name.now) (kept_back p d) (g.D.Disk.state c.let_go.new.disk) (c.let_go.ensures.time honest)
    (λ image is. kept_image g.D.Disk.number d c.args.scratch c.args.written p image (c.requires.holds honest) is) (λ image is. is)
