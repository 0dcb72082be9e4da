use Rattle.std.proofs.Common.{refl}
use Rattle.server_words.proofs.OptionLemmas.{last_given-other, last_given-this}
use Rattle.server_words.proofs.options.last_given.Goals as goal
use Rattle.server_words.proofs.options.last_given.Goals.{then-given-letter, else-given-letter}

pub loop-given-preserved : goal.loop-given-preserved
loop-given-preserved c = elim c.if-given-letter.branch [
  | then-given-letter w ↦ last_given-this c.args.options.now c.loop-given.given-index _ c.loop-given-test.true c.args.letter _ _ w.last-is refl w.if-given-letter.true
  | else-given-letter w ↦ last_given-other c.args.options.now c.loop-given.given-index _ c.loop-given-test.true c.args.letter _ _ w.last-is c.loop-given.invariant w.if-given-letter.false
]
