-- Along a list of events that the table allows, no more are alive than may be.
use Rattle.std.proofs.Common.{◌≡◌, ℕ, ◌≤◌, List, length, true, take, refl, sym, ap, ◌∙◌, arith, bytes_eq}
use Rattle.std.specs.List.{filter}
use Rattle.server_events.specs.declared.event.Event.{Event}
use Rattle.server_events.specs.Live.{Life, live_at, live_of}
use Rattle.server_events.specs.ServerState.{ServerState, is_legal, start, state_after}
use Rattle.server_events.proofs.History.{both_true, is_legal-take}
use Rattle.server_events.proofs.Limits.{within, limit_world_after, per_address_world_after}
use Rattle.server_events.proofs.LiveLemmas.{live_run, live_at-count_from, length-lives_of}
use Rattle.server_events.proofs.Effects.{step_is}

-- along a list of events that the table allows, no more than the limit are ever alive
pub alive_within : (limit per_address : ℕ) (history : List Event) → is_legal (start limit per_address) history ≡ true → (k : ℕ) → length (live_of (take k history)) ≤ limit
alive_within limit per_address history legal k =
    let w = start limit per_address in
    let es = take k history in
    let front = is_legal-take w history k legal in
    let kept = within w es (record { all = omega arith; each = λ ip. omega arith }) front in
    let alive = ap (λ (xs : List Life). length xs) (live_run limit per_address es front) ∙ length-lives_of (state_after w es).connections in
    let same = limit_world_after w es in
    omega (arith, kept.all)

-- nor more from one address than the limit per address
pub from_one_within : (limit per_address : ℕ) (history : List Event) → is_legal (start limit per_address) history ≡ true → (ip : List ℕ) (k : ℕ) → length (live_at ip (take k history)) ≤ per_address
from_one_within limit per_address history legal ip k =
    let w = start limit per_address in
    let es = take k history in
    let front = is_legal-take w history k legal in
    let kept = within w es (record { all = omega arith; each = λ a. omega arith }) front in
    let alive = ap (λ (xs : List Life). length (filter (λ (x : Life). bytes_eq x.peer.ip ip) xs)) (live_run limit per_address es front) ∙ live_at-count_from ip (state_after w es).connections in
    let same = per_address_world_after w es in
    omega (arith, kept.each ip)
