use Rattle.std.proofs.Common.{arith, ap}
use Rattle.byte_streams.proofs.ThroughLemmas.{ends_step, through_same, through_wholes, wholes_more}
use Rattle.byte_streams.proofs.chain.finish_through.Goals as goal

pub returns-in_err-finish_one-clause-wholes : goal.returns-in_err-finish_one-clause-wholes
returns-in_err-finish_one-clause-wholes g c =
    through_wholes c.args.wrappers.now c.loop-position.wrappers c.loop-position.position c.index-wrappers-position.result c.finish_one.new.wrapper
    g.S.LineWrapper.whole c.in_err-finish_one.ensures.wholes c.loop-position.invariant.wholes

pub loop-position-preserved : goal.loop-position-preserved
loop-position-preserved g c = record {
  ends = ends_step c.args.wrappers.now c.loop-position.wrappers c.loop-position.position c.index-wrappers-position.result c.finish_one.new.wrapper
      g.S.LineWrapper.rest
      c.args.from.now.items c.loop-position.from.items _ _ _ _ (omega arith) c.loop-position.invariant.ends
      c.deref.ensures.value c.clear.ensures.items c.in_ok-finish_one.ensures.finished (ap (λ v. v.items) c.swap.ensures.x_after);
  wholes = wholes_more c.args.wrappers.now c.loop-position.wrappers c.loop-position.position c.index-wrappers-position.result c.finish_one.new.wrapper
      g.S.LineWrapper.whole c.in_ok-finish_one.ensures.wholes c.loop-position.invariant.wholes;
}

pub returns-clause-wholes : goal.returns-clause-wholes
returns-clause-wholes g c = through_same _ _ _ _ c.loop-position.invariant.wholes
