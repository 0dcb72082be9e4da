use Rattle.whole_yard.specs.Audits.{AreRightBefore}
use Rattle.whole_yard.proofs.audit.audit.Given as goal

abbrev pub invariant-loop-i : goal.invariant-loop-i
invariant-loop-i l = AreRightBefore l.notes l.receipts l.i
