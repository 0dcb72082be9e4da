use Rattle.std.proofs.Common.{◌≡◌, [], ◌∷◌, refl, ◌∙◌, ap, subst}
use Rattle.std.specs.Prelude.{Err, None, Contains}
use Rattle.dir_calls.specs.declared.fault.DirFault.TheVariants.{NoName, Device, OutOfMemory as NoMemory}
use Rattle.dir_calls.specs.Directory.{number_of}
use Rattle.dir_calls.specs.Calls.{Call, renames}
use Rattle.dir_calls.specs.declared.phase.Phase.TheVariants.{Named}
use Rattle.rules_install.specs.Filled.{whole_file}
use Rattle.rules_install.specs.Installing.{synced_file}
use Rattle.rules_install.specs.Installs.{installing}
use Rattle.rules_install.proofs.StepCalls.{OneCall, call_steps}
use Rattle.rules_install.proofs.StepFaults.{of_err, among_three}
use Rattle.rules_install.proofs.StepFits.{synced_has, has_name, rename_fits}
use Rattle.rules_install.proofs.StepKeeps.{rename_keeps}
use Rattle.rules_install.proofs.install.Install.put_in_place.Goals as goal

pub returns : goal.returns
returns g c =
    let s = installing c.args.self.now in
    let d = g.D.Dir.state c.args.dir.now in
    let call = ap (λ name. renames name c.cdb.result.now) c.tmp.ensures.name ∙ ap (renames s.names.tmp) c.cdb.ensures.name in
    let one = subst (λ (call : Call). OneCall g.D.Dir call c.args.dir.now c.rename-outcome.new.self c.rename-outcome.result) call
    (record {
      only = λ honest image left. g.met.D.Dir.only_now c.args.dir.now image honest left;
      does = c.rename-outcome.ensures.does;
      time = c.rename-outcome.ensures.time;
      counted = c.rename-outcome.ensures.counted;
      sure = λ honest fault is. among_three NoName fault (of_err c.rename-outcome.result fault (Contains (NoName ∷ Device ∷ NoMemory ∷ [])) c.rename-outcome.ensures.faults is)
          (λ none. has_name s d c.requires.next (c.requires.fits honest c.requires.is_open) (subst (λ name. number_of d name ≡ None) c.tmp.ensures.name (c.rename-outcome.ensures.no_name honest (is ∙ ap Err none))));
    }) in
    call_steps g.D.Dir Named s (renames s.names.tmp s.names.cdb) c.args.dir.now c.rename-outcome.new.self c.rename-outcome.result
    one (installing c.note.new.self) c.note.result c.requires.is_open refl (λ is. absurd (cc)) c.requires.fits
    (λ honest. rename_fits d s.names.tmp s.names.cdb (synced_file s.rules) (synced_has s d c.requires.next (c.requires.fits honest c.requires.is_open)))
    (λ honest. rename_keeps d s.names.tmp s.names.cdb (whole_file s.rules) (synced_has s d c.requires.next (c.requires.fits honest c.requires.is_open)))
    c.note.ensures.answer c.note.ensures.noted
