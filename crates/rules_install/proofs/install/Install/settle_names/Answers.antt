use Rattle.std.proofs.Common.{◌≡◌, inr, refl, subst}
use Rattle.dir_calls.specs.declared.fault.DirFault.TheVariants.{Device, OutOfMemory as NoMemory}
use Rattle.dir_calls.specs.Calls.{settles}
use Rattle.dir_calls.proofs.Lasting.{settles_keeps}
use Rattle.dir_calls.specs.declared.phase.Phase.TheVariants.{Done}
use Rattle.rules_install.specs.Installing.{FitsPhase, synced_file}
use Rattle.rules_install.specs.Installs.{installing}
use Rattle.rules_install.proofs.StepCalls.{call_steps}
use Rattle.rules_install.proofs.StepFaults.{of_err, not_device}
use Rattle.rules_install.proofs.StepFits.{settle_fits}
use Rattle.rules_install.proofs.install.Install.settle_names.Goals as goal

pub returns : goal.returns
returns g c =
    let s = installing c.args.self.now in
    let d = g.D.Dir.state c.args.dir.now in
    call_steps g.D.Dir Done s settles c.args.dir.now c.settle-outcome.new.self c.settle-outcome.result
    (record { only = λ honest image left. g.met.D.Dir.only_now c.args.dir.now image honest left; does = c.settle-outcome.ensures.does; time = c.settle-outcome.ensures.time; counted = c.settle-outcome.ensures.counted; sure = λ honest fault is. inr (of_err c.settle-outcome.result fault (λ f. f ≡ Device) c.settle-outcome.ensures.faults is) })
    (installing c.note.new.self) c.note.result c.requires.is_open refl (λ done is. absurd (not_device (of_err c.settle-outcome.result NoMemory (λ f. f ≡ Device) c.settle-outcome.ensures.faults is))) c.requires.fits
    (λ honest. settle_fits d s.names.cdb (synced_file s.rules) (subst (λ reached. FitsPhase s d reached) c.requires.reached (c.requires.fits honest c.requires.is_open)))
    (λ honest olds lasts. settles_keeps d s.names.cdb olds lasts)
    c.note.ensures.answer c.note.ensures.noted
