use Rattle.std.proofs.Common.{◌≡◌, ◌-◌, ◌<◌, ◌≤◌, length, arith, ap, ◌∙◌, length-set, refl}
use Rattle.byte_streams.proofs.ThroughLemmas.{flow_end, flow_none, flow_step, through_wholes, wholes_more}
use Rattle.byte_streams.proofs.chain.feed_all.Goals as goal

pub returns-then-count-eq0-clause-fed : goal.returns-then-count-eq0-clause-fed
returns-then-count-eq0-clause-fed g c = flow_none c.extend_from_slice.result c.args.wrappers.now g.S.LineWrapper.rest c.args.piece.now _ _ c.if-count-eq0.true c.extend_from_slice.ensures.items

pub returns-then-last-eq0-clause-fed : goal.returns-then-last-eq0-clause-fed
returns-then-last-eq0-clause-fed g c =
    let one : 1 ≡ length c.args.wrappers.now = omega arith in
    flow_end c.feed.result c.args.wrappers.now c.args.wrappers.now 0 0 c.index-wrappers-0.result c.feed.new.self
    g.S.LineWrapper.rest
    c.args.piece.now c.args.piece.now _ _ _ refl one (λ later. refl) refl c.feed.ensures.fed

pub returns-then-last-eq0-clause-wholes : goal.returns-then-last-eq0-clause-wholes
returns-then-last-eq0-clause-wholes g c =
    through_wholes c.args.wrappers.now c.args.wrappers.now 0 c.index-wrappers-0.result c.feed.new.self
    g.S.LineWrapper.whole c.feed.ensures.same refl

pub returns-in_err-feed-clause-wholes : goal.returns-in_err-feed-clause-wholes
returns-in_err-feed-clause-wholes g c =
    through_wholes c.args.wrappers.now c.args.wrappers.now 0 c.index-wrappers-0-2.result c.feed-2.new.self
    g.S.LineWrapper.whole c.in_err-feed.ensures.same refl

pub loop-position-init : goal.loop-position-init
loop-position-init g c =
    let some : 0 < length c.args.wrappers.now = omega arith in
    record {
      flows = flow_step c.args.wrappers.now c.args.wrappers.now 0 c.index-wrappers-0-2.result c.feed-2.new.self
          g.S.LineWrapper.rest
          c.args.piece.now c.args.piece.now _ _ _ _ some (λ later. refl) refl c.clear.ensures.items c.in_ok-feed.ensures.fed refl;
      wholes = wholes_more c.args.wrappers.now c.args.wrappers.now 0 c.index-wrappers-0-2.result c.feed-2.new.self
          g.S.LineWrapper.whole c.in_ok-feed.ensures.same refl;
    }

pub returns-in_err-feed-2-clause-wholes : goal.returns-in_err-feed-2-clause-wholes
returns-in_err-feed-2-clause-wholes g c =
    through_wholes c.args.wrappers.now c.loop-position.wrappers c.loop-position.position c.index-wrappers-position.result c.feed-in-loop-position.new.self
    g.S.LineWrapper.whole c.in_err-feed-2.ensures.same c.loop-position.invariant.wholes

pub loop-position-preserved : goal.loop-position-preserved
loop-position-preserved g c =
    let same : length c.loop-position.wrappers ≡ length c.args.wrappers.now = c.loop-position.auto.wrappers ∙ length-set c.args.wrappers.now 0 c.feed-2.new.self in
    let test : c.loop-position.position < length c.args.wrappers.now - 1 = c.loop-position-test.true in
    record {
      flows = flow_step c.args.wrappers.now c.loop-position.wrappers c.loop-position.position c.index-wrappers-position.result c.feed-in-loop-position.new.self
          g.S.LineWrapper.rest
          c.args.piece.now c.loop-position.from.items _ _ _ _ (omega arith) c.loop-position.invariant.flows
          c.deref.ensures.value c.clear-in-loop-position.ensures.items c.in_ok-feed-2.ensures.fed (ap (λ v. v.items) c.swap.ensures.x_after);
      wholes = wholes_more c.args.wrappers.now c.loop-position.wrappers c.loop-position.position c.index-wrappers-position.result c.feed-in-loop-position.new.self
          g.S.LineWrapper.whole c.in_ok-feed-2.ensures.same c.loop-position.invariant.wholes;
    }

pub returns-clause-fed : goal.returns-clause-fed
returns-clause-fed g c =
    let same : length c.loop-position.wrappers ≡ length c.args.wrappers.now = c.loop-position.auto.wrappers ∙ length-set c.args.wrappers.now 0 c.feed-2.new.self in
    let test : length c.args.wrappers.now - 1 ≤ c.loop-position.position = c.loop-position-test.false in
    let end : c.loop-position.position ≤ length c.args.wrappers.now - 1 = c.loop-position.auto.position-end (omega arith) in
    flow_end c.feed-3.result c.args.wrappers.now c.loop-position.wrappers c.loop-position.position (length c.args.wrappers.now - 1) c.index-wrappers-last.result c.feed-3.new.self
    g.S.LineWrapper.rest
    c.args.piece.now c.loop-position.from.items _ _ _ (omega arith) (omega arith) c.loop-position.invariant.flows
    c.deref-2.ensures.value c.feed-3.ensures.fed

pub returns-clause-wholes : goal.returns-clause-wholes
returns-clause-wholes g c =
    through_wholes c.args.wrappers.now c.loop-position.wrappers (length c.args.wrappers.now - 1) c.index-wrappers-last.result c.feed-3.new.self
    g.S.LineWrapper.whole c.feed-3.ensures.same c.loop-position.invariant.wholes
