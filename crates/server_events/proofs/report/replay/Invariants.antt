use Rattle.std.proofs.Common.{◌≡◌, take, true}
use Rattle.server_events.specs.ServerState.{start, is_legal, state_after}
use Rattle.server_events.proofs.LiveLemmas.{most_up_to}
use Rattle.server_events.proofs.report.replay.Given as goal

abbrev pub invariant-loop-event : goal.invariant-loop-event
invariant-loop-event l = record {
  taken : l.taken ≡ l.event-index;
  legal : is_legal (start l.limit l.per_address) (take l.event-index l.events) ≡ true;
  state : l.state ≡ state_after (start l.limit l.per_address) (take l.event-index l.events);
  most : l.most ≡ most_up_to l.event-index l.events;
}
