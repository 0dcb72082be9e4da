use Rattle.std.proofs.Common.{List, ℕ, ◌++◌, Option, codes, sym, ap, ◌∙◌}
use Rattle.std.proofs.lemmas.Result.{on_ok_weaker}
use Rattle.script_tool.specs.Sim.{answered}
use Rattle.script_tool.proofs.ReaderLemmas.{IsOf-some}
use Rattle.script_tool.proofs.simulation.Simulation.ask_by.Goals as goal

pub append_decision-requires : goal.append_decision-requires
append_decision-requires c =
    let read = IsOf-some _ _ c.in-Some.file.now (sym c.in-Some.ensures.value) (c.requires.1.readers c.args.name.now) in
    (read.of, read.file_of)

pub returns-in-Some : goal.returns-in-Some
returns-in-Some c = λ state at.
    let read = IsOf-some _ _ c.in-Some.file.now (sym c.in-Some.ensures.value) (at.readers c.args.name.now) in
    let lines = sym (ap (λ (text : Option (List ℕ)). answered (codes "no reader\n") text c.args.peer.now) read.is) in
    on_ok_weaker c.append_decision.result (λ e. e ∙ ap (λ (text : List ℕ). c.args.out.now.items ++ text) lines) (c.append_decision.ensures read.of read.file_of)
