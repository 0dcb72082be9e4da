use Rattle.std.proofs.Common.{◌≡◌, rules, List, sym, ◌∙◌, ap}
use Rattle.std.proofs.lemmas.List.{take_all}
use Rattle.std.specs.Prelude.{map}
use Rattle.memory_dirs.specs.declared.entries.Entry.{Entry}
use Rattle.dir_calls.specs.Pairs.{others as other_pairs}
use Rattle.memory_dirs.specs.Entries.{pair_of}
use Rattle.memory_dirs.proofs.EntryLists.{others_kept, others_skipped}
use Rattle.memory_dirs.proofs.entries.others.Goals.{then-is_other+in_ok-to_vec+in_ok-push, else-is_other}
use Rattle.memory_dirs.proofs.entries.others.Goals as goal

pub loop-entry-preserved : goal.loop-entry-preserved
loop-entry-preserved c =
    let e = c.entry-item.result in
    elim c.if-is_other.branch [
      | then-is_other+in_ok-to_vec+in_ok-push w ↦
          let same : w.in_ok-to_vec.field-0.items ≡ e.name.items = search rules in
          ap (λ v. map pair_of v.items) w.kept-is ∙ ap (map pair_of) w.in_ok-push.ensures.items
          ∙ others_kept c.args.from.now c.args.to.now c.args.names.now c.loop-entry.kept.items c.loop-entry.entry-index e _ c.loop-entry-test.true c.entry-item.is (λ i. (same i, e.number)) c.loop-entry.invariant (sym c.is_other.ensures ∙ w.if-is_other.true)
      | else-is_other w ↦
          ap (λ v. map pair_of v.items) w.kept-is
          ∙ others_skipped c.args.from.now c.args.to.now c.args.names.now c.loop-entry.kept.items c.loop-entry.entry-index e c.loop-entry-test.true c.entry-item.is c.loop-entry.invariant (sym c.is_other.ensures ∙ w.if-is_other.false)
    ]

pub returns : goal.returns
returns c = c.loop-entry.invariant ∙ ap (λ (l : List Entry). other_pairs c.args.from.now c.args.to.now (map pair_of l)) (take_all c.loop-entry.entry-index c.args.names.now c.loop-entry-test.false)
