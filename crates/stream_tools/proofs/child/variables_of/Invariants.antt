use Rattle.std.proofs.Common.{◌≡◌, map, take}
use Rattle.std.specs.Arc.{arc_value}
use Rattle.stream_tools.specs.Starts.{ended, entries_of}
use Rattle.stream_tools.proofs.child.variables_of.Given as goal

abbrev pub invariant-loop-variable : goal.invariant-loop-variable
invariant-loop-variable l =
    l.variables.items ≡ ended (entries_of (map arc_value (take l.variable-index l.variable-items)))
