use Rattle.std.proofs.Common.{List, ℕ, ◌++◌, Option, codes, sym, ap, ◌∙◌}
use Rattle.std.proofs.lemmas.Result.{on_ok_weaker}
use Rattle.script_tool.specs.Sim.{answered}
use Rattle.script_tool.proofs.ReaderLemmas.{IsOf-some}
use Rattle.script_tool.proofs.simulation.Simulation.ask.Goals as goal

pub append_decision-requires : goal.append_decision-requires
append_decision-requires c =
    let read = IsOf-some _ _ c.in-Some.file c.in-Some.is (c.in_ok-open.ensures.file c.requires.0 c.requires.1) in
    (read.of, read.file_of)

pub returns-in-Some : goal.returns-in-Some
returns-in-Some c = λ state at.
    let read = IsOf-some _ _ c.in-Some.file c.in-Some.is (c.in_ok-open.ensures.file state at) in
    let lines = sym (ap (λ (text : Option (List ℕ)). answered (codes "no file\n") text c.args.peer.now) read.is) in
    on_ok_weaker c.append_decision.result (λ e. (c.in_ok-open.ensures.same state at, e ∙ ap (λ (text : List ℕ). c.args.out.now.items ++ text) lines)) (c.append_decision.ensures read.of read.file_of)
