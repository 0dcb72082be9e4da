use Rattle.std.proofs.Common.{◌≡◌, ℕ, List, ◌++◌, length}
use Rattle.byte_streams.specs.Records.{record_text}
use Rattle.byte_streams.proofs.recording.record_parts.Given as goal

abbrev pub invariant-loop-end : goal.invariant-loop-end
invariant-loop-end l = (given : List ℕ) × (l.out.items ≡ l.fn.out.items ++ given) × (record_text l.number l.way l.piece ≡ given ++ record_text l.number l.way l.rest)

abbrev pub decreases-loop-end : goal.decreases-loop-end
decreases-loop-end l = length l.rest
