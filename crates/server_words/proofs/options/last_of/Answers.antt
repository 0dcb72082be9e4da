use Rattle.std.proofs.Common.{sym, ◌∙◌}
use Rattle.server_words.proofs.OptionLemmas.{last_of-other, last_of-this}
use Rattle.server_words.proofs.options.last_of.Goals as goal
use Rattle.server_words.proofs.options.last_of.Goals.{then-contains, else-contains}

pub loop-given-preserved : goal.loop-given-preserved
loop-given-preserved c = elim c.if-contains.branch [
  | then-contains w ↦ last_of-this c.args.options.now c.loop-given.given-index _ c.loop-given-test.true c.args.letters.now _ w.last-is (sym c.contains.ensures.value ∙ w.if-contains.true)
  | else-contains w ↦ last_of-other c.args.options.now c.loop-given.given-index _ c.loop-given-test.true c.args.letters.now _ _ w.last-is c.loop-given.invariant (sym c.contains.ensures.value ∙ w.if-contains.false)
]
