use Rattle.std.proofs.Common.{◌≡◌, ◌-◌, length}
use Rattle.rules_install.specs.Layout.{ArePlaced}
use Rattle.rules_install.proofs.layout.place_all.Given as goal

abbrev pub invariant-loop-layout : goal.invariant-loop-layout
invariant-loop-layout l = (l.list ≡ l.initial.list) × ArePlaced l.initial.list l.layout

abbrev pub decreases-loop-layout : goal.decreases-loop-layout
decreases-loop-layout l = length l.initial.list - l.layout.placed
