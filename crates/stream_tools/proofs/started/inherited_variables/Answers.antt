use Rattle.std.proofs.Common.{[], sym, ap, ◌∙◌}
use Rattle.stream_tools.specs.Entries.{bytes_found, variable_in, with_entries, with_found}
use Rattle.stream_tools.proofs.EntryLemmas.{entry_more, entries_all}
use Rattle.stream_tools.proofs.started.inherited_variables.Goals as goal

pub loop-position-preserved : goal.loop-position-preserved
loop-position-preserved g c = λ honest.
    let all = g.G.Given.entries c.args.given.now in
    entry_more all c.loop-position.variables c.put_entry.new.variables (with_entries [] all) c.in-Some.entry.items c.loop-position.position
    (c.loop-position.invariant honest) (sym (ap bytes_found c.in-Some.is) ∙ c.in_ok-entry.ensures honest)
    (c.in_ok-put_entry-in-Some.ensures.put ∙ ap (λ text. with_found c.loop-position.variables (variable_in text)) c.deref.ensures.value)

pub returns-in-None : goal.returns-in-None
returns-in-None g c = record {
  all = λ honest.
      let all = g.G.Given.entries c.args.given.now in
      entries_all all c.loop-position.variables (with_entries [] all) c.loop-position.position
      (c.loop-position.invariant honest) (sym (ap bytes_found c.in-None.is) ∙ c.in_ok-entry.ensures honest);
}
