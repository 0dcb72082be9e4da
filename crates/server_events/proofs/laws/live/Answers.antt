use Rattle.std.proofs.Common.{List, subst, sym}
use Rattle.std.specs.List.Sorted.{IsStrictlyIncreasing}
use Rattle.server_events.specs.Live.{Life, serials_of}
use Rattle.server_events.specs.ServerState.{start, state_after}
use Rattle.server_events.proofs.LiveLemmas.{live_run, tells}
use Rattle.server_events.proofs.Serials.{IsStrictlyIncreasing-serials_of}
use Rattle.server_events.proofs.laws.live.Goals as goal

pub returns-clause-connections : goal.returns-clause-connections
returns-clause-connections c h = live_run h.limit h.per_address h.events h.allowed

pub returns-clause-serials : goal.returns-clause-serials
returns-clause-serials c h =
    let w = state_after (start h.limit h.per_address) h.events in
    let told = tells h.limit h.per_address h.events h.allowed in
    subst (λ (xs : List Life). IsStrictlyIncreasing (serials_of xs)) (sym told.lives) (IsStrictlyIncreasing-serials_of 0 w.connections w.last told.rise)
