use Rattle.std.proofs.Common.{[], ◌∷◌, refl, ◌∙◌, ap}
use Rattle.std.specs.Prelude.{Err, Contains}
use Rattle.dir_calls.specs.declared.fault.DirFault.TheVariants.{NoScratch, Device, OutOfMemory as NoMemory}
use Rattle.dir_calls.specs.Calls.{syncs}
use Rattle.dir_calls.proofs.Lasting.{syncs_keeps}
use Rattle.dir_calls.specs.declared.phase.Phase.TheVariants.{Synced}
use Rattle.rules_install.specs.Installs.{installing}
use Rattle.rules_install.proofs.StepCalls.{call_steps}
use Rattle.rules_install.proofs.StepFaults.{of_err, among_three}
use Rattle.rules_install.proofs.StepFits.{sync_fits, has_scratch}
use Rattle.rules_install.proofs.install.Install.close.Goals as goal

pub returns : goal.returns
returns g c =
    let s = installing c.args.self.now in
    let d = g.D.Dir.state c.args.dir.now in
    call_steps g.D.Dir Synced s syncs c.args.dir.now c.sync-outcome.new.self c.sync-outcome.result
    (record {
      only = λ honest image left. g.met.D.Dir.only_now c.args.dir.now image honest left;
      does = c.sync-outcome.ensures.does;
      time = c.sync-outcome.ensures.time;
      counted = c.sync-outcome.ensures.counted;
      sure = λ honest fault is. among_three NoScratch fault (of_err c.sync-outcome.result fault (Contains (NoScratch ∷ Device ∷ NoMemory ∷ [])) c.sync-outcome.ensures.faults is)
          (λ none. has_scratch s d c.requires.next (c.requires.fits honest c.requires.is_open) (c.sync-outcome.ensures.no_scratch honest (is ∙ ap Err none)));
    })
    (installing c.note.new.self) c.note.result c.requires.is_open refl (λ is. absurd (cc)) c.requires.fits
    (λ honest. sync_fits s d c.requires.next (c.requires.fits honest c.requires.is_open))
    (λ honest olds lasts. syncs_keeps d s.names.cdb olds lasts)
    c.note.ensures.answer c.note.ensures.noted
