use Rattle.std.proofs.Common.{◌+◌, sym, ◌∙◌, ap, drop}
use Rattle.std.proofs.lemmas.List.{drop_all}
use Rattle.std.specs.Prelude.{cond, map, Some}
use Rattle.memory_dirs.specs.Entries.{pair_of}
use Rattle.dir_calls.proofs.Pairs.{look, get_look}
use Rattle.memory_dirs.proofs.EntryLists.{look_more}
use Rattle.memory_dirs.proofs.entries.number_at.Goals as goal

pub returns-then-has_name : goal.returns-then-has_name
returns-then-has_name c =
    let e = c.entry-item.result in
    sym (get_look (map pair_of c.args.names.now) c.args.name.now ∙ c.loop-entry.invariant ∙ look_more c.args.names.now c.loop-entry.entry-index e c.args.name.now c.loop-entry-test.true c.entry-item.is
    ∙ ap (λ b. cond b (Some e.number) (look (map pair_of (drop (c.loop-entry.entry-index + 1) c.args.names.now)) c.args.name.now)) (sym c.has_name.ensures ∙ c.if-has_name.true))

pub loop-entry-preserved : goal.loop-entry-preserved
loop-entry-preserved c =
    let e = c.entry-item.result in
    c.loop-entry.invariant ∙ look_more c.args.names.now c.loop-entry.entry-index e c.args.name.now c.loop-entry-test.true c.entry-item.is
    ∙ ap (λ b. cond b (Some e.number) (look (map pair_of (drop (c.loop-entry.entry-index + 1) c.args.names.now)) c.args.name.now)) (sym c.has_name.ensures ∙ c.if-has_name.false)

pub returns : goal.returns
returns c =
    sym (get_look (map pair_of c.args.names.now) c.args.name.now ∙ c.loop-entry.invariant ∙ ap (λ l. look (map pair_of l) c.args.name.now) (drop_all c.loop-entry.entry-index c.args.names.now c.loop-entry-test.false))
