use Rattle.std.proofs.Common.{arith, ap, ◌∙◌}
use Rattle.byte_streams.specs.Wrappers.{through}
use Rattle.byte_streams.proofs.ThroughLemmas.{lent_back}
use Rattle.byte_streams.proofs.chain.Chain.feed.Goals as goal

pub returns-in_err-done-clause-wholes : goal.returns-in_err-done-clause-wholes
returns-in_err-done-clause-wholes g c =
    ap (through g.S.LineWrapper.whole) (lent_back c.feed_all-done.new.wrappers c.args.self.now.wrappers.items c.args.self.now.wrappers.len (omega arith)) ∙ c.feed_all-done.ensures.wholes ∙ ap (through g.S.LineWrapper.whole) c.deref_mut.ensures.value

pub returns-clause-wholes : goal.returns-clause-wholes
returns-clause-wholes g c =
    ap (through g.S.LineWrapper.whole) (lent_back c.feed_all-done.new.wrappers c.args.self.now.wrappers.items c.args.self.now.wrappers.len (omega arith)) ∙ c.feed_all-done.ensures.wholes ∙ ap (through g.S.LineWrapper.whole) c.deref_mut.ensures.value
