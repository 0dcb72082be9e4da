use Rattle.std.proofs.Common.{◌≡◌, List, ℕ, true, ap, sym, subst, ◌∙◌, arith}
use Rattle.dir_calls.specs.Clearing.{SparesOthers}
use Rattle.rules_install.specs.Installs.{installing}
use Rattle.rules_install.specs.NamePair.{NamePair}
use Rattle.rules_tools.specs.FolderParts.{folder_dir, folder_left}
use Rattle.rules_tools.specs.Disks.{fails_on_disk}
use Rattle.rules_tools.specs.Scratch.{AfterFault, HasFailedTwice, IsTakenAway}
use Rattle.rules_tools.proofs.RunLemmas.{blames_disk, no_fault, not_done, removed_after, then_keeps, then_lasts, then_series}
use Rattle.rules_tools.proofs.installing.install_begun.Goals as goal

pub returns-then-is_of_disk : goal.returns-then-is_of_disk
returns-then-is_of_disk g c =
    let s = installing c.args.install.now in
    let old = folder_dir c.args.folder.now in
    let mid = c.make_steps-outcome.new.dir in
    let new = folder_dir c.remove_scratch.new.self in
    let result = c.make_steps-outcome.result in
    let names = c.make_steps-outcome.ensures.same.names in
    let named : c.tmp.result.now ≡ s.names.tmp = c.tmp.ensures.name ∙ ap (λ (n : NamePair). n.tmp) names in
    let apart : c.tmp.result.now ≡ s.names.cdb → ⊥ = λ same. c.tmp.ensures.other (ap (λ (n : NamePair). n.cdb) names ∙ sym same ∙ c.tmp.ensures.name) in
    let failed : fails_on_disk result ≡ true = sym c.is_of_disk.ensures ∙ c.if-is_of_disk.true in
    record {
      ends = c.make_steps-outcome.ensures.ends;
      series = λ honest. then_series s (g.D.Dir.state old) (g.D.Dir.state mid) (g.D.Dir.state new)
          (subst (λ (name : List ℕ). SparesOthers name (g.D.Dir.state mid) (g.D.Dir.state new)) named (c.remove_scratch.ensures.others honest)) result failed
          (c.make_steps-outcome.ensures.series honest);
      any_moment = λ honest. then_keeps g.D.Dir s old mid new result (c.make_steps-outcome.ensures.any_moment honest) (c.make_steps-outcome.ensures.lasts honest)
          (c.remove_scratch.ensures.stays honest s.names.cdb apart);
      lasts = λ honest. then_lasts g.D.Dir s old mid new result (c.make_steps-outcome.ensures.lasts honest)
          (c.remove_scratch.ensures.stays honest s.names.cdb apart);
      done = λ honest. not_done _ result failed;
      written = c.make_steps-outcome.ensures.written;
      device = λ honest. c.make_steps-outcome.ensures.device honest;
      blames = blames_disk (g.D.Dir.failed old) (g.D.Dir.failed mid) (g.D.Dir.failed new) result c.remove_scratch.ensures.count c.make_steps-outcome.ensures.blames;
      removed = λ honest. subst (λ (name : List ℕ). AfterFault (IsTakenAway name (g.D.Dir.state new) (HasFailedTwice (g.D.Dir.failed old) (g.D.Dir.failed new)) (folder_left c.remove_scratch.new.self)) result) named
          (removed_after c.tmp.result.now (g.D.Dir.state new) (g.D.Dir.failed old) (g.D.Dir.failed mid) (g.D.Dir.failed new) (folder_left c.remove_scratch.new.self)
          result (c.make_steps-outcome.ensures.device honest) c.make_steps-outcome.ensures.blames (c.remove_scratch.ensures.gone honest));
    }

pub returns-else-is_of_disk-clause-blames : goal.returns-else-is_of_disk-clause-blames
returns-else-is_of_disk-clause-blames g c =
    let old = folder_dir c.args.folder.now in
    let mid = c.make_steps-outcome.new.dir in
    blames_disk (g.D.Dir.failed old) (g.D.Dir.failed mid) (g.D.Dir.failed mid) c.make_steps-outcome.result (omega arith) c.make_steps-outcome.ensures.blames

pub returns-else-is_of_disk-clause-removed : goal.returns-else-is_of_disk-clause-removed
returns-else-is_of_disk-clause-removed g c = λ honest. no_fault _ c.make_steps-outcome.result (sym c.is_of_disk.ensures ∙ c.if-is_of_disk.false)
