use Rattle.std.proofs.Common.{List, ℕ, Option, sym, ap, ◌∙◌}
use Rattle.std.proofs.lemmas.Result.{IfOk-weaker}
use Rattle.script_tool.specs.Logs.{decided_now}
use Rattle.script_tool.proofs.ReaderLemmas.{IsOf-some, Reads-none, decided_without}
use Rattle.script_tool.proofs.simulation.Standing.decide.Goals as goal

pub decide_by-requires : goal.decide_by-requires
decide_by-requires c =
    let read = IsOf-some c.args.self.now c.requires.0 c.in-Some.file (sym c.self.view_is ∙ c.in-Some.is) c.requires.1 in
    (read.of, read.file_of)

pub returns-in-Some : goal.returns-in-Some
returns-in-Some c = λ text reads.
    let read = IsOf-some c.args.self.now text c.in-Some.file (sym c.self.view_is ∙ c.in-Some.is) reads in
    IfOk-weaker c.decide_by.result _ _ (λ decision is. is ∙ sym (ap (λ (t : Option (List ℕ)). decided_now t c.args.peer.now) read.is)) (c.decide_by.ensures read.of read.file_of)

pub returns-in-None : goal.returns-in-None
returns-in-None c = λ text reads.
    let none = Reads-none c.args.self.now text (sym c.self.view_is ∙ c.in-None.is) reads in
    decided_without text c.new.result c.args.peer.now none c.new.ensures
