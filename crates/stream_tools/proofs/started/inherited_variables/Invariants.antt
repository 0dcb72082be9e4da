use Rattle.std.proofs.Common.{◌≡◌, [], drop}
use Rattle.std.specs.Prelude.{IsTrue}
use Rattle.stream_tools.specs.Entries.{with_entries}
use Rattle.stream_tools.proofs.started.inherited_variables.Given as goal

abbrev pub invariant-loop-position : goal.invariant-loop-position
invariant-loop-position g l =
    IsTrue g.G.Given.honest → with_entries l.variables (drop l.position (g.G.Given.entries l.given)) ≡ with_entries [] (g.G.Given.entries l.given)
