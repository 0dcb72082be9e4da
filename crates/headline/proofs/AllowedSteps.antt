-- A list of steps of the world is one that the table of events allows.
use Rattle.std.proofs.Common.{◌≡◌, ℕ, ◌≤◌, List, length, true, take, refl, sym, ap, ◌∙◌, arith}
use Rattle.server_events.specs.declared.event.Event.{Event}
use Rattle.headline.specs.Headline.{Reaches}
use Rattle.server_events.specs.Live.{live_of}
use Rattle.server_events.specs.ServerState.{ServerState, is_legal, start, state_after}
use Rattle.headline.specs.Steps.{Legal, none, more, beside}
use Rattle.headline.specs.Worlds.{World}
use Rattle.server_events.proofs.Allowed.{alive_within}
use Rattle.server_events.proofs.Effects.{step_is}
use Rattle.server_events.proofs.History.{both_true}
use Rattle.server_events.proofs.Limits.{limit_world_after}

-- the table allows the events of a list of steps, and leads to the same state
pub legal_is : {v w : World} {history : List Event} → Legal v history w → (is_legal v.server history ≡ true) × (w.server ≡ state_after v.server history)
legal_is none = (refl, refl)
legal_is (more {u} {v} {w} {event} {events} step rest) =
    let here = step_is step.table in
    let later = legal_is rest in (
      both_true _ _ here.0 (ap (λ (s : ServerState). is_legal s events) (sym here.1) ∙ later.0),
      later.1 ∙ ap (λ (s : ServerState). state_after s events) here.1,
    )
legal_is (beside {u} {v} {w} {events} out rest) =
    let later = legal_is rest in
    let same : v.server ≡ u.server = ap (λ (x : World). x.server) out.moves in
    (ap (λ (s : ServerState). is_legal s events) (sym same) ∙ later.0, later.1 ∙ ap (λ (s : ServerState). state_after s events) same)

-- nor along a history that leads to a world
pub reached_within : (history : List Event) (w : World) → Reaches history w → (k : ℕ) → length (live_of (take k history)) ≤ w.server.limit
reached_within history w reaches k =
    let begin = reaches.begin.server in
    let allowed = legal_is reaches.legal in
    let from_start : is_legal (start begin.limit begin.per_address) history ≡ true = ap (λ (s : ServerState). is_legal s history) (sym reaches.starts.server) ∙ allowed.0 in
    let alive = alive_within begin.limit begin.per_address history from_start k in
    let same : w.server.limit ≡ begin.limit = ap (λ (s : ServerState). s.limit) allowed.1 ∙ limit_world_after begin history in
    omega (arith, alive, same)
