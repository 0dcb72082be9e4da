use Rattle.std.proofs.Common.{◌≡◌, ◌≢◌, IsTrue, false, ◌+◌, ◌≤◌}
use Rattle.std.specs.Prelude.{None, Some}
use Rattle.rules_install.specs.Filled.{fillings_left}
use Rattle.rules_install.specs.Installing.{Fits, IsConsistent}
use Rattle.rules_install.specs.Installs.{installing}
use Rattle.rules_install.specs.Series.{ComesTo}
use Rattle.rules_install.specs.Steps.{IsSame}
use Rattle.dir_calls.specs.declared.phase.Phase.TheVariants.{Done}
use Rattle.rules_install.proofs.WholeLemmas.{Progress, phases_left}
use Rattle.rules_install.proofs.whole.finish.Given as goal

abbrev pub invariant-loop : goal.invariant-loop
invariant-loop g l = record {
  is_open : (installing l.install).over ≡ false;
  consistent : IsConsistent (installing l.install);
  undone : (installing l.initial.install).reached ≢ Some Done → (installing l.install).reached ≢ Some Done;
  series : IsTrue g.D.Dir.honest → (installing l.initial.install).reached ≢ Some Done
      → ComesTo (installing l.initial.install) (g.D.Dir.state l.initial.dir) (installing l.install) (g.D.Dir.state l.dir);
  same : IsSame (installing l.initial.install) (installing l.install);
  fits : IsTrue g.D.Dir.honest → Fits (installing l.install) (g.D.Dir.state l.dir);
  progress : IsTrue g.D.Dir.honest
      → Progress g.D.Dir (installing l.initial.install) (installing l.install).reached l.initial.dir l.dir;
  first : IsTrue g.D.Dir.honest → (installing l.install).reached ≡ None → g.D.Dir.state l.dir ≡ g.D.Dir.state l.initial.dir;
  failures : g.D.Dir.failed l.initial.dir ≤ g.D.Dir.failed l.dir;
}

abbrev pub decreases-loop : goal.decreases-loop
decreases-loop g l =
    fillings_left (installing l.install).rules (installing l.install).filled (installing l.install).patched + phases_left (installing l.install).reached
