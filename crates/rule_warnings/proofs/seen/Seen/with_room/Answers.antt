use Rattle.rule_warnings.proofs.SpanLemmas.{under-none}
use Rattle.rule_warnings.proofs.seen.Seen.with_room.Goals as goal

pub returns : goal.returns
returns c = under-none (record { lent = c.in_ok-with_room.field-0; made = c.new.result; spans = c.new-2.result }) c.in_ok-with_room.ensures c.new.ensures.empty c.new-2.ensures.empty
