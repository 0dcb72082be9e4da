-- The addresses up to a position.
use Rattle.std.proofs.Common.{◌≡◌, take}
use Rattle.rule_lines.specs.Rows.{addresses_under, length_with}
use Rattle.rule_lines.proofs.kept.range_length.Given as goal

abbrev pub invariant-loop-position : goal.invariant-loop-position
invariant-loop-position l = l.bytes ≡ length_with l.code_length (take l.position (addresses_under l.front l.numbers l.back))
