use Rattle.std.proofs.Common.{◌≡◌, drop, map}
use Rattle.byte_streams.specs.Wrappers.{through}
use Rattle.byte_streams.proofs.chain.finish_through.Given as goal

abbrev pub invariant-loop-position : goal.invariant-loop-position
invariant-loop-position g l = record {
  ends : through g.S.LineWrapper.rest l.fn.wrappers l.fn.from.items ≡ through g.S.LineWrapper.rest (drop l.position l.wrappers) l.from.items;
  wholes : map g.S.LineWrapper.whole l.wrappers ≡ map g.S.LineWrapper.whole l.fn.wrappers;
}
