use Rattle.std.proofs.Common.{rules, ◌≡◌, List, [], ℕ, sym, ◌∙◌, subst, ap}
use Rattle.std.specs.Prelude.{IfErr, IsErr, None}
use Rattle.dir_calls.specs.Directory.{Directory}
use Rattle.dir_calls.specs.Calls.{makes, after}
use Rattle.dir_calls.specs.Outcomes.{Fails, LeftBy}
use Rattle.dir_calls.specs.Moments.{Elapses, Includes}
use Rattle.dir_disk.specs.OsDir.{kept_back}
use Rattle.dir_calls.specs.declared.fault.DirFault.TheVariants.{Device}
use Rattle.dir_disk.proofs.KeptWrites.{kept_nowhere, kept_none}
use Rattle.dir_disk.proofs.Told.{among_opens, on_ok_take, on_err_take, does_residual}
use Rattle.dir_disk.proofs.os_dir.DiskDirDir.fresh.Given.{Over}
use Rattle.dir_disk.proofs.os_dir.DiskDirDir.fresh.Goals as goal

pub returns-in_err-file-clause-does : goal.returns-in_err-file-clause-does
returns-in_err-file-clause-does g c = λ honest.
    let s = c.args.self.now in
    let d = g.D.Disk.state s.disk in
    let e = g.D.Disk.state c.renew-outcome.new.disk in
    let p = s.pending.items in
    let r = c.try_reserve.new.self.items in
    let q = c.renew-outcome.new.pending.items in
    let call = makes c.args.name.now in
    let same : p ≡ r = search rules in
    let device : IfErr c.from_residual-in_err-file.result (λ f. f ≡ Device) = search rules in
    let is : IsErr c.from_residual-in_err-file.result = search rules in
    let fails : Fails (makes c.args.name.now) (kept_back r d) e = on_err_take c.renew-outcome.result (Fails (makes c.args.name.now) (kept_back r d) e) c.in_err-file.ensures.failed (c.renew-outcome.ensures.failed honest) in
    let none : e.scratch ≡ None = on_err_take c.renew-outcome.result (e.scratch ≡ None) c.in_err-file.ensures.failed (c.renew-outcome.ensures.closed honest) in
    does_residual (λ _. call) call (kept_back p d) (kept_back q e) c.from_residual-in_err-file.result is device
    (subst (λ (x : Directory). Fails call (kept_back p d) x) (sym (kept_nowhere e q none)) (subst (λ (l : List ℕ). Fails call (kept_back l d) e) (sym same) fails))

timed : (g : Over) (old new : _) (p r q name : List ℕ) → p ≡ r → kept_back q (g.D.Disk.state new) ≡ g.D.Disk.state new
    → Elapses (g.D.Disk.moment old) (g.D.Disk.moment new) (g.D.Disk.left_since old) (g.D.Disk.left_since new) (LeftBy (makes name) (kept_back r (g.D.Disk.state old)) (g.D.Disk.state new))
    → Elapses (g.D.Disk.moment old) (g.D.Disk.moment new) (g.D.Disk.left_since old) (g.D.Disk.left_since new) (LeftBy (makes name) (kept_back p (g.D.Disk.state old)) (kept_back q (g.D.Disk.state new)))
timed g old new p r q name same last time =
    subst (λ (x : Directory). Elapses (g.D.Disk.moment old) (g.D.Disk.moment new) (g.D.Disk.left_since old) (g.D.Disk.left_since new) (LeftBy (makes name) (kept_back p (g.D.Disk.state old)) x)) (sym last)
    (subst (λ (l : List ℕ). Elapses (g.D.Disk.moment old) (g.D.Disk.moment new) (g.D.Disk.left_since old) (g.D.Disk.left_since new) (LeftBy (makes name) (kept_back l (g.D.Disk.state old)) (g.D.Disk.state new))) (sym same) time)

pub returns-in_err-file-clause-time : goal.returns-in_err-file-clause-time
returns-in_err-file-clause-time g c = λ honest.
    let s = c.args.self.now in
    let d = g.D.Disk.state s.disk in
    let e = g.D.Disk.state c.renew-outcome.new.disk in
    let p = s.pending.items in
    let r = c.try_reserve.new.self.items in
    let q = c.renew-outcome.new.pending.items in
    let same : p ≡ r = search rules in
    let none : e.scratch ≡ None = on_err_take c.renew-outcome.result (e.scratch ≡ None) c.in_err-file.ensures.failed (c.renew-outcome.ensures.closed honest) in
    timed g s.disk c.renew-outcome.new.disk p r q c.args.name.now same (kept_nowhere e q none) (c.renew-outcome.ensures.time honest)

pub returns-clause-does : goal.returns-clause-does
returns-clause-does g c = λ honest.
    let s = c.args.self.now in
    let d = g.D.Disk.state s.disk in
    let e = g.D.Disk.state c.renew-outcome.new.disk in
    let p = s.pending.items in
    let r = c.try_reserve.new.self.items in
    let q = c.renew-outcome.new.pending.items in
    let same : p ≡ r = search rules in
    let none : q ≡ [] = on_ok_take c.renew-outcome.result c.in_ok-file.file (q ≡ []) c.in_ok-file.ensures.passed c.renew-outcome.ensures.empty in
    let done : e ≡ after (makes c.args.name.now) (kept_back r d) = on_ok_take c.renew-outcome.result c.in_ok-file.file (e ≡ after (makes c.args.name.now) (kept_back r d)) c.in_ok-file.ensures.passed (c.renew-outcome.ensures.done honest) in
    ap (λ (l : List ℕ). kept_back l e) none ∙ kept_none e ∙ done ∙ ap (λ (l : List ℕ). after (makes c.args.name.now) (kept_back l d)) (sym same)

pub returns-clause-time : goal.returns-clause-time
returns-clause-time g c = λ honest.
    let s = c.args.self.now in
    let e = g.D.Disk.state c.renew-outcome.new.disk in
    let p = s.pending.items in
    let r = c.try_reserve.new.self.items in
    let q = c.renew-outcome.new.pending.items in
    let same : p ≡ r = search rules in
    let none : q ≡ [] = on_ok_take c.renew-outcome.result c.in_ok-file.file (q ≡ []) c.in_ok-file.ensures.passed c.renew-outcome.ensures.empty in
    timed g s.disk c.renew-outcome.new.disk p r q c.args.name.now same (ap (λ (l : List ℕ). kept_back l e) none ∙ kept_none e) (c.renew-outcome.ensures.time honest)

pub returns-clause-within : goal.returns-clause-within
returns-clause-within g c = λ honest.
    let s = c.args.self.now in
    let d = g.D.Disk.state s.disk in
    let e = g.D.Disk.state c.renew-outcome.new.disk in
    let p = s.pending.items in
    let r = c.try_reserve.new.self.items in
    let q = c.renew-outcome.new.pending.items in
    let same : p ≡ r = search rules in
    let none : q ≡ [] = on_ok_take c.renew-outcome.result c.in_ok-file.file (q ≡ []) c.in_ok-file.ensures.passed c.renew-outcome.ensures.empty in
    let Holding = λ (l : List ℕ) (x : Directory). Includes (g.D.Disk.moment s.disk) (g.D.Disk.left_since c.renew-outcome.new.disk) (LeftBy (makes c.args.name.now) (kept_back l d) x) in
    let includes : Holding r e = on_ok_take c.renew-outcome.result c.in_ok-file.file (Holding r e) c.in_ok-file.ensures.passed (c.renew-outcome.ensures.within honest) in
    subst (λ (x : Directory). Holding p x) (sym (ap (λ (l : List ℕ). kept_back l e) none ∙ kept_none e))
    (subst (λ (l : List ℕ). Holding l e) (sym same) includes)

pub returns-in_err-file-clause-faults : goal.returns-in_err-file-clause-faults
returns-in_err-file-clause-faults g c =
    let device : IfErr c.from_residual-in_err-file.result (λ f. f ≡ Device) = search rules in
    among_opens c.from_residual-in_err-file.result device
