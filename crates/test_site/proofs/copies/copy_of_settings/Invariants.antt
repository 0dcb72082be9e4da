use Rattle.std.proofs.Common.{◌≡◌, take}
use Rattle.test_site.proofs.copies.copy_of_settings.Given as goal

abbrev pub invariant-loop-setting : goal.invariant-loop-setting
invariant-loop-setting l = l.copy ≡ take l.setting-index l.setting-items
