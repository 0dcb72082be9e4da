use Rattle.std.proofs.Common.{◌≡◌, map}
use Rattle.std.proofs.Common.{drop}
use Rattle.child_jobs.specs.Child.{assigned}
use Rattle.child_jobs.specs.Variables.{with_values}
use Rattle.child_jobs.proofs.child.put_settings.Given as goal

abbrev pub invariant-loop-setting : goal.invariant-loop-setting
invariant-loop-setting l = with_values l.variables (map assigned (drop l.setting-index l.settings)) ≡ with_values l.initial.variables (map assigned l.settings)
