use Rattle.std.proofs.Common.{◌<◌, ◌^◌}
use Rattle.rule_lines.proofs.RangeLemmas.{IsReadTo}
use Rattle.rule_lines.proofs.spread.number.Given as goal

abbrev pub invariant-loop-byte : goal.invariant-loop-byte
invariant-loop-byte l = record {
  read : IsReadTo l.part l.byte-index l.value;
  fits : l.value < 2 ^ 32;
}
