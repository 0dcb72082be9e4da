use Rattle.std.proofs.Common.{sym, subst}
use Rattle.server_events.specs.ServerState.{ServerState, Happens, Runs}
use Rattle.server_events.proofs.Effects.{step_is, is_step, runs_is, is_runs}
use Rattle.server_events.proofs.laws.table.Goals as goal

pub returns-clause-step : goal.returns-clause-step
returns-clause-step c w v e = (λ s. step_is s, λ h. subst (λ (u : ServerState). Happens w e u) (sym h.1) (is_step w e h.0))

pub returns-clause-runs : goal.returns-clause-runs
returns-clause-runs c w v history = (λ r. runs_is r, λ h. subst (λ (u : ServerState). Runs w history u) (sym h.1) (is_runs w history h.0))
