use Rattle.std.proofs.Common.{◌≡◌, ◌++◌, drop}
use Rattle.std.specs.Prelude.{IsTrue}
use Rattle.stream_tools.specs.Programs.{texts_of}
use Rattle.stream_tools.proofs.started.command_words.Given as goal

abbrev pub invariant-loop-position : goal.invariant-loop-position
invariant-loop-position g l =
    IsTrue g.G.Given.honest → texts_of l.words.items ++ drop l.position (g.G.Given.words l.given) ≡ drop 1 (g.G.Given.words l.given)
