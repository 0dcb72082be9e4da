use Rattle.std.proofs.Common.{refl, ap}
use Rattle.std.specs.Prelude.{Ok, Err}
use Rattle.std.proofs.lemmas.Result.{err_from_is_err_and}
use Rattle.rules_install.specs.Installing.{Installing}
use Rattle.rules_install.specs.Installs.{installing}
use Rattle.rules_tools.specs.FolderParts.{folder_dir}
use Rattle.rules_tools.proofs.InstalledLemmas.{disk_passes, disk_touches, fails_passes, installs, unchanged}
use Rattle.rules_tools.proofs.installing.install_named.Goals as goal

pub returns-in_err-install-clause-installs : goal.returns-in_err-install-clause-installs
returns-in_err-install-clause-installs g c =
    let p = err_from_is_err_and c.from_residual.result c.from_residual.ensures.1 in
    rw (p.1, p.2)
    (unchanged _ c.args.names c.in_err-install.field-0.0 refl
    (λ is image left. g.met.D.Dir.only_now (folder_dir c.args.folder.now) image is left) c.in_err-install.ensures.refused)

pub returns-in_err-install-clause-of_text : goal.returns-in_err-install-clause-of_text
returns-in_err-install-clause-of_text g c =
    let p = err_from_is_err_and c.from_residual.result c.from_residual.ensures.1 in
    rw (p.1, p.2) (fails_passes c.in_err-install.ensures.refused.text c.in_err-install.field-0.0 c.in_err-install.ensures.refused.fails)

pub install_begun-outcome-requires-clause-is_open : goal.install_begun-outcome-requires-clause-is_open
install_begun-outcome-requires-clause-is_open g c = ap (λ (s : Installing). s.over) c.in_ok-install.ensures.compiled.begun

pub install_begun-outcome-requires-clause-unbegun : goal.install_begun-outcome-requires-clause-unbegun
install_begun-outcome-requires-clause-unbegun g c = ap (λ (s : Installing). s.reached) c.in_ok-install.ensures.compiled.begun

pub returns-in_err-outcome-clause-installs : goal.returns-in_err-outcome-clause-installs
returns-in_err-outcome-clause-installs g c =
    let p = err_from_is_err_and c.from_residual-in_err-outcome.result c.from_residual-in_err-outcome.ensures.1 in
    let e = c.in_err-outcome.ensures in
    rw (p.1, p.2)
    (installs _ c.args.names c.decides.ensures (installing c.in_ok-install.install) (Err c.in_err-outcome.field-0.0) c.in_ok-install.ensures.compiled
    (record { ends = e.ends; series = e.series; any_moment = e.any_moment; lasts = e.lasts; done = e.done; written = e.written; device = e.device; blames = e.blames; removed = e.removed }))

pub returns-in_err-outcome-clause-untouched : goal.returns-in_err-outcome-clause-untouched
returns-in_err-outcome-clause-untouched g c = λ refusal.
    let p = err_from_is_err_and c.from_residual-in_err-outcome.result c.from_residual-in_err-outcome.ensures.1 in
    absurd (disk_touches c.in_err-outcome.field-0.0 c.in_err-outcome.ensures.ends (rw (p.1, p.2) at refusal))

pub returns-in_err-outcome-clause-of_text : goal.returns-in_err-outcome-clause-of_text
returns-in_err-outcome-clause-of_text g c =
    let p = err_from_is_err_and c.from_residual-in_err-outcome.result c.from_residual-in_err-outcome.ensures.1 in
    rw (p.1, p.2) (disk_passes c.in_err-outcome.field-0.0 c.in_err-outcome.ensures.ends)

pub returns-clause-installs : goal.returns-clause-installs
returns-clause-installs g c =
    let e = c.in_ok-outcome.ensures in
    installs _ c.args.names c.decides.ensures (installing c.in_ok-install.install) (Ok c.in_ok-outcome.field-0) c.in_ok-install.ensures.compiled
    (record { ends = e.ends; series = e.series; any_moment = e.any_moment; lasts = e.lasts; done = e.done; written = e.written; device = e.device; blames = e.blames; removed = e.removed })
