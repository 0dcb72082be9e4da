use Rattle.std.proofs.lemmas.Result.{on_ok_weaker}
use Rattle.memory_dirs.specs.MemDir.{mem_state}
use Rattle.rule_lookup.proofs.AppendLemmas.{on_ok_added}
use Rattle.script_tool.proofs.TextLemmas.{stop_texts}
use Rattle.script_tool.proofs.simulation.Simulation.stop.Goals as goal

pub returns : goal.returns
returns c = λ state at.
    on_ok_weaker c.extend_from_slice.result
    (λ items. (
      record {
        pending = at.pending;
        name = at.name;
        texts = rw c.in_ok-self.ensures.chosen (stop_texts c.args.choice (mem_state c.args.self.now.dir) state.texts at.texts);
        begun = tt;
        readers = λ name. rw c.new.ensures.empty tt;
        history = at.history;
      },
      items,
    ))
    (on_ok_added c.extend_from_slice.result c.extend_from_slice.new.self.items _ c.args.out.now.items c.extend_from_slice.ensures.items)
