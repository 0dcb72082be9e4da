use Rattle.std.proofs.Common.{arith, ap, ◌∙◌}
use Rattle.byte_streams.specs.Wrappers.{through}
use Rattle.byte_streams.proofs.ThroughLemmas.{lent_back}
use Rattle.byte_streams.proofs.chain.Chain.finish.Goals as goal

pub returns-in_err-finish_through-clause-wholes : goal.returns-in_err-finish_through-clause-wholes
returns-in_err-finish_through-clause-wholes g c =
    ap (through g.S.LineWrapper.whole) (lent_back c.finish_through.new.wrappers c.args.self.now.wrappers.items c.args.self.now.wrappers.len (omega arith)) ∙ c.in_err-finish_through.ensures.wholes ∙ ap (through g.S.LineWrapper.whole) c.deref_mut.ensures.value

pub returns-in_err-extend_from_slice-clause-wholes : goal.returns-in_err-extend_from_slice-clause-wholes
returns-in_err-extend_from_slice-clause-wholes g c =
    ap (through g.S.LineWrapper.whole) (lent_back c.finish_through.new.wrappers c.args.self.now.wrappers.items c.args.self.now.wrappers.len (omega arith)) ∙ c.in_ok-finish_through.ensures.wholes ∙ ap (through g.S.LineWrapper.whole) c.deref_mut.ensures.value

pub returns-clause-wholes : goal.returns-clause-wholes
returns-clause-wholes g c =
    ap (through g.S.LineWrapper.whole) (lent_back c.finish_through.new.wrappers c.args.self.now.wrappers.items c.args.self.now.wrappers.len (omega arith)) ∙ c.in_ok-finish_through.ensures.wholes ∙ ap (through g.S.LineWrapper.whole) c.deref_mut.ensures.value
