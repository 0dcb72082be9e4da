use Rattle.std.proofs.Common.{List, ℕ, Option, refl, sym, ap, subst, ◌∙◌}
use Rattle.dir_calls.specs.Directory.{content}
use Rattle.memory_dirs.specs.MemDir.{mem_state}
use Rattle.script_tool.specs.Kept.{Reads}
use Rattle.script_tool.proofs.ReaderLemmas.{Reads-content, map_same}
use Rattle.script_tool.proofs.simulation.Simulation.open.Goals as goal

pub returns-in-Ok-clause-file : goal.returns-in-Ok-clause-file
returns-in-Ok-clause-file c = λ state at.
    let d = mem_state c.args.self.now.dir in
    let found = map_same c.in-Ok.file c.map.result c.map.ensures.cases ∙ c.in-Ok.ensures.opened refl ∙ ap (content d) at.name in
    subst (λ (file : Option (List ℕ)). Reads file state.texts.standing) (sym found) (Reads-content d state.texts.standing at.texts.standing)
