use Rattle.std.proofs.Common.{◌<◌, ◌≤◌, ⊎_elim, sym, subst, ap, ◌∙◌}
use Rattle.std.specs.Prelude.{Err}
use Rattle.std.proofs.lemmas.Result.{err_from_is_err_and}
use Rattle.cdb_files.specs.Image.{finished_length, limit_of}
use Rattle.cdb_files.specs.Compiled.{stored}
use Rattle.rules_install.specs.Installing.{begun}
use Rattle.rules_install.specs.Installs.{installing}
use Rattle.rules_install.specs.declared.fault.InstallFault.{InstallFault}
use Rattle.rules_tools.specs.Installed.{FailsInput}
use Rattle.rules_tools.specs.Rules.{told_fault}
use Rattle.rules_tools.proofs.InstalledLemmas.{compiles, memory_fails, read_fails, refused, too_large}
use Rattle.rules_tools.proofs.ReadLemmas.{limits_are}
use Rattle.rules_tools.proofs.installing.compile.Goals as goal

pub returns-in_err-text-clause-refused : goal.returns-in_err-text-clause-refused
returns-in_err-text-clause-refused g c =
    let p = err_from_is_err_and c.from_residual.result c.from_residual.ensures.1 in
    rw (p.1, p.2) (read_fails (g.R.Read.remaining c.args.reader.now) c.in_err-text.field-0.0 c.in_err-text.ensures.faults)

pub returns-in_err-list-clause-refused : goal.returns-in_err-list-clause-refused
returns-in_err-list-clause-refused g c =
    let p = err_from_is_err_and c.from_residual-in_err-list.result c.from_residual-in_err-list.ensures.1 in
    let limits = c.profile-limits.result in
    rw (p.1, p.2)
    (refused limits (g.R.Read.remaining c.args.reader.now) c.in_ok-text.text.items c.in_err-list.field-0.0
    (limits_are limits c.profile-limits.ensures.text c.profile-limits.ensures.line c.profile-limits.ensures.file) c.in_ok-text.ensures.text c.in_err-list.ensures.refused)

pub returns-in_err-begin-clause-refused : goal.returns-in_err-begin-clause-refused
returns-in_err-begin-clause-refused g c =
    let p = err_from_is_err_and c.from_residual-in_err-begin.result c.from_residual-in_err-begin.ensures.1 in
    let limits = c.profile-limits.result in
    let input = g.R.Read.remaining c.args.reader.now in
    rw (p.1, p.2)
    (⊎_elim
    (λ large. subst (λ (f : InstallFault). FailsInput input (told_fault f)) (sym large)
    (too_large limits input c.in_ok-text.text.items (limits_are limits c.profile-limits.ensures.text c.profile-limits.ensures.line c.profile-limits.ensures.file) c.in_ok-text.ensures.text c.in_ok-list.ensures.accepted
    (subst (λ rules. limit_of limits.file < finished_length (stored rules)) c.in_ok-list.ensures.pairs (c.in_err-begin.ensures.refused (ap Err large)))))
    (λ memory. subst (λ (f : InstallFault). FailsInput input (told_fault f)) (sym memory) (memory_fails input))
    c.in_err-begin.ensures.faults)

pub returns-clause-compiled : goal.returns-clause-compiled
returns-clause-compiled g c =
    let limits = c.profile-limits.result in
    compiles limits (g.R.Read.remaining c.args.reader.now) c.in_ok-text.text.items (limits_are limits c.profile-limits.ensures.text c.profile-limits.ensures.line c.profile-limits.ensures.file) c.in_ok-text.ensures.text
    c.args.names (installing c.in_ok-begin.field-0) c.in_ok-list.ensures.accepted
    (subst (λ rules. finished_length (stored rules) ≤ limit_of limits.file) c.in_ok-list.ensures.pairs c.in_ok-begin.ensures.fits)
    (c.in_ok-begin.ensures.begun ∙ ap (λ rules. begun rules c.args.names) c.in_ok-list.ensures.pairs)
