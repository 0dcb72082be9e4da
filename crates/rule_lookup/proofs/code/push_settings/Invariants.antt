use Rattle.std.proofs.Common.{length}
use Rattle.rule_lookup.specs.Codes.{IsEndOf, ReadsOn}
use Rattle.rule_lookup.proofs.code.push_settings.Given as goal

abbrev pub invariant-loop-piece : goal.invariant-loop-piece
invariant-loop-piece l = record {
  on : ReadsOn l.initial.settings l.codes l.settings l.rest;
  end : IsEndOf l.codes l.rest;
}

abbrev pub decreases-loop-piece : goal.decreases-loop-piece
decreases-loop-piece l = length l.rest
