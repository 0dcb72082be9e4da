use Rattle.std.proofs.Common.{◌≡◌, map}
use Rattle.byte_streams.proofs.ThroughLemmas.{Flows}
use Rattle.byte_streams.proofs.chain.feed_all.Given as goal

abbrev pub invariant-loop-position : goal.invariant-loop-position
invariant-loop-position g l = record {
  flows : Flows g.S.LineWrapper.rest l.fn.wrappers l.wrappers l.position l.fn.piece l.from.items;
  wholes : map g.S.LineWrapper.whole l.wrappers ≡ map g.S.LineWrapper.whole l.fn.wrappers;
}
