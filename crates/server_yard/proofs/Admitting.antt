-- A connection that is let in.
use Rattle.std.proofs.Common.{ℕ, ◌≤◌, List, length, sym, subst, arith}
use Rattle.std.proofs.Props.{props}
use mathlib.Core.Logic.{∥∥₁_elim}
use Rattle.server_events.specs.Journals.{Books}
use Rattle.server_events.specs.ServerState.{ServerState, count_from, start}
use Rattle.server_events.specs.declared.event.Event.{Event}
use Rattle.server_events.proofs.Limits.{WithinLimits, within}
use Rattle.server_yard.specs.Rolls.{HasHistory, IsHistory}

limits_of : (books : Books) (s : ServerState) (h : List Event) → IsHistory books s h → WithinLimits s
limits_of books s h is =
    subst (λ (u : ServerState). WithinLimits u) (sym is.leads) (within (start s.limit s.per_address) h (record { all = omega arith; each = λ ip. omega arith }) is.legal)

-- no more are alive than may be
pub all_within : (books : Books) (s : ServerState) → HasHistory books s → length s.connections ≤ s.limit
all_within books s has = ∥∥₁_elim has (hlevel props) (λ (x : (h : List Event) × IsHistory books s h). (limits_of books s x.0 x.1).all)

pub each_within : (books : Books) (s : ServerState) (ip : List ℕ) → HasHistory books s → count_from ip s.connections ≤ s.per_address
each_within books s ip has = ∥∥₁_elim has (hlevel props) (λ (x : (h : List Event) × IsHistory books s h). (limits_of books s x.0 x.1).each ip)
