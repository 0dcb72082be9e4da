use Rattle.std.proofs.Common.{[], ◌∷◌, refl, subst}
use Rattle.std.specs.Prelude.{Contains}
use Rattle.dir_calls.specs.declared.fault.DirFault.TheVariants.{Device, OutOfMemory as NoMemory}
use Rattle.dir_calls.specs.Calls.{makes}
use Rattle.dir_calls.proofs.Lasting.{makes_keeps}
use Rattle.dir_calls.specs.declared.phase.Phase.TheVariants.{Fresh}
use Rattle.rules_install.specs.Installs.{installing}
use Rattle.rules_install.proofs.StepCalls.{OneCall, call_steps}
use Rattle.rules_install.proofs.StepFaults.{of_err, among_two}
use Rattle.rules_install.proofs.StepFits.{fresh_next, fresh_fits}
use Rattle.rules_install.proofs.install.Install.make_scratch.Goals as goal

pub note-requires : goal.note-requires
note-requires g c = record {
  unfilled = λ _. c.args.self.now.not_begun (fresh_next c.args.self.now.reached c.args.self.now.patched c.requires.next);
}

pub returns : goal.returns
returns g c =
    let s = installing c.args.self.now in
    let d = g.D.Dir.state c.args.dir.now in
    let blank = c.args.self.now.not_begun (fresh_next s.reached s.patched c.requires.next) in
    let one = subst (λ name. OneCall g.D.Dir (makes name) c.args.dir.now c.fresh-outcome.new.self c.fresh-outcome.result) c.tmp.ensures.name
    (record { only = λ honest image left. g.met.D.Dir.only_now c.args.dir.now image honest left; does = c.fresh-outcome.ensures.does; time = c.fresh-outcome.ensures.time; counted = c.fresh-outcome.ensures.counted; sure = λ honest fault is. among_two fault (of_err c.fresh-outcome.result fault (Contains (Device ∷ NoMemory ∷ [])) c.fresh-outcome.ensures.faults is) }) in
    call_steps g.D.Dir Fresh s (makes s.names.tmp) c.args.dir.now c.fresh-outcome.new.self c.fresh-outcome.result
    one (installing c.note.new.self) c.note.result c.requires.is_open refl (λ is. absurd (cc)) c.requires.fits
    (λ honest. fresh_fits s d blank.0 blank.1)
    (λ honest olds lasts. makes_keeps d s.names.cdb olds lasts s.names.tmp c.tmp.ensures.other)
    c.note.ensures.answer c.note.ensures.noted
