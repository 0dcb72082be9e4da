use Rattle.std.proofs.Common.{List, ℕ, ◌++◌, Option, Some, sym, ap, ◌∙◌, string_bytes}
use Rattle.std.proofs.lemmas.Map.Text.{btree_map_updates_text}
use Rattle.std.proofs.lemmas.Result.{on_ok_weaker}
use Rattle.script_tool.specs.Sim.{opened}
use Rattle.rule_lookup.proofs.AppendLemmas.{on_ok_added}
use Rattle.script_tool.proofs.ReaderLemmas.{IsOf-some, Reads-with_reader}
use Rattle.script_tool.proofs.simulation.Simulation.open_reader.Goals as goal

pub returns-in_ok-insert-in-Some : goal.returns-in_ok-insert-in-Some
returns-in_ok-insert-in-Some c = λ state at.
    let read = IsOf-some _ _ c.in-Some.file c.in-Some.is (c.in_ok-open.ensures.file state at) in
    let same = c.in_ok-open.ensures.same state at in
    let map = c.open.new.self.readers in
    let new = c.insert.new.self in
    let key = string_bytes c.in_ok-from_str-in-Some.field-0 in
    let updates = btree_map_updates_text key map new (Some c.in-Some.file) c.in_ok-insert-in-Some.ensures.updates in
    let readers = Reads-with_reader map new state.readers key c.args.name.now c.in-Some.file c.in_ok-from_str-in-Some.ensures.ok updates same.readers state.texts.standing read in
    on_ok_weaker c.extend_from_slice-in-Some.result (λ e. (record { pending = same.pending; name = same.name; texts = same.texts; begun = same.begun; readers = readers; history = same.history }, e ∙ ap (λ (text : Option (List ℕ)). c.args.out.now.items ++ opened text) (sym read.is))) (on_ok_added c.extend_from_slice-in-Some.result _ _ _ c.extend_from_slice-in-Some.ensures.items)
