-- Who is alive after an event.
use Rattle.std.proofs.Common.{◌≡◌, ℕ, ◌≤◌, length, true, cond, Option, None, Some, refl, ap, arith}
use Rattle.std.proofs.lemmas.Bool.{not-true}
use Rattle.server_events.specs.declared.event.Event.{Event}
use Rattle.server_events.specs.declared.event.Event.TheVariants.{Retired}
use Rattle.server_events.specs.declared.event.Stage.{Stage}
use Rattle.server_events.specs.declared.event.Stage.TheVariants as stage
use Rattle.server_events.specs.ServerState.{Effect, ServerState, lets_in, opens, decides, brings, lets_go, comes_to, fails_at, ends_all, after, effect, is_retired, is_started, may_happen, may_have, with_effect, with_stage, is_connections, is_installations, of_connections, of_installations, peer_of}
use Rattle.server_events.proofs.Effects.{Sound, sound}
use Rattle.server_events.proofs.Limits.{length-with_stage}
use Rattle.server_events.proofs.Peers.{peer_of-with_stage}
use Rattle.server_events.specs.Journals.{FitsBy, FitsSerial}
use Rattle.server_events.proofs.Countings.{moves_with, retired_in, weight}
use Rattle.server_yard.specs.Rooms.{events_left}
use Rattle.server_yard.specs.Seating.{goes_on, goes_on_by, leaver, leaver_by}

-- nobody comes or goes
pub record NobodyMoves (w v : ServerState) : Type 0 where
  pub peers : (n : ℕ) → peer_of n v.connections ≡ peer_of n w.connections
  pub live : length v.connections ≡ length w.connections
  pub last : v.last ≡ w.last
  pub limit : v.limit ≡ w.limit

staged : (w : ServerState) (n : ℕ) (s : Stage) → NobodyMoves w (record w { connections = with_stage n s w.connections })
staged w n s = record {
  peers = λ m. peer_of-with_stage m n s w.connections;
  live = length-with_stage n s w.connections;
  last = refl;
  limit = refl;
}

pub retired_stays : (w : ServerState) (n : ℕ) → NobodyMoves w (after w (Retired n))
retired_stays w n = staged w n stage.Retired

stays_with : (w : ServerState) (x : Effect) → goes_on_by x ≡ true → NobodyMoves w (with_effect w x)
stays_with w (lets_in n peer) k = absurd (cc)
stays_with w (opens n there) k = staged w n stage.Opened
stays_with w (decides n decision) k = staged w n (stage.Decided decision.verdict)
stays_with w (brings n from to) k = staged w n to
stays_with w (lets_go n from) k = absurd (cc)
stays_with w (comes_to phase) k = absurd (cc)
stays_with w (fails_at phase) k = absurd (cc)
stays_with w ends_all k = absurd (cc)

pub goes_on_stays : (w : ServerState) (e : Event) → goes_on e ≡ true → NobodyMoves w (after w e)
goes_on_stays w e k = stays_with w (effect e) k

-- an event of an installation changes the phase alone
keeps_with : (w : ServerState) (x : Effect) → of_installations x ≡ true → (with_effect w x).connections ≡ w.connections
keeps_with w (lets_in m peer) k = absurd (cc)
keeps_with w (opens m there) k = absurd (cc)
keeps_with w (decides m decision) k = absurd (cc)
keeps_with w (brings m from to) k = absurd (cc)
keeps_with w (lets_go m from) k = absurd (cc)
keeps_with w (comes_to phase) k = refl
keeps_with w (fails_at phase) k = refl
keeps_with w ends_all k = absurd (cc)

pub installing_keeps : (w : ServerState) (e : Event) → is_installations e ≡ true → (after w e).connections ≡ w.connections
installing_keeps w e k = keeps_with w (effect e) k

installs_with : (w : ServerState) (x : Effect) → of_installations x ≡ true → NobodyMoves w (with_effect w x)
installs_with w (lets_in m peer) k = absurd (cc)
installs_with w (opens m there) k = absurd (cc)
installs_with w (decides m decision) k = absurd (cc)
installs_with w (brings m from to) k = absurd (cc)
installs_with w (lets_go m from) k = absurd (cc)
installs_with w (comes_to phase) k = record { peers = λ n. refl; live = refl; last = refl; limit = refl }
installs_with w (fails_at phase) k = record { peers = λ n. refl; live = refl; last = refl; limit = refl }
installs_with w ends_all k = absurd (cc)

pub installing_stays : (w : ServerState) (e : Event) → is_installations e ≡ true → NobodyMoves w (after w e)
installing_stays w e k = installs_with w (effect e) k

-- nobody is retired by an event by which a connection goes on
retired_with : (w : ServerState) (x : Effect) → Sound x → goes_on_by x ≡ true → may_have w x ≡ true
    → retired_in (with_effect w x).connections ≡ retired_in w.connections
retired_with w (lets_in n peer) its k m = absurd (cc)
retired_with w (opens n there) its k m = (moves_with w (opens n there) its m).retired
retired_with w (decides n decision) its k m = (moves_with w (decides n decision) its m).retired
retired_with w (brings n from to) its k m =
    let moved = (moves_with w (brings n from to) its m).retired in
    let none : weight to ≡ 0 = ap (λ b. cond b 1 0) (not-true (is_retired to) k) in
    omega (arith, moved, none)
retired_with w (lets_go n from) its k m = absurd (cc)
retired_with w (comes_to phase) its k m = absurd (cc)
retired_with w (fails_at phase) its k m = absurd (cc)
retired_with w ends_all its k m = absurd (cc)

pub retired_goes_on : (w : ServerState) (e : Event) → goes_on e ≡ true → may_happen w e ≡ true
    → retired_in (after w e).connections ≡ retired_in w.connections
retired_goes_on w e k m = retired_with w (effect e) (sound e) k m

-- no such event has a serial that may not fit
on_fits : (x : Effect) → goes_on_by x ≡ true → FitsBy x
on_fits (lets_in m peer) k = absurd (cc)
on_fits (opens m there) k = tt
on_fits (decides m decision) k = tt
on_fits (brings m from to) k = tt
on_fits (lets_go m from) k = tt
on_fits (comes_to phase) k = tt
on_fits (fails_at phase) k = tt
on_fits ends_all k = tt

pub goes_on_fits : (e : Event) → goes_on e ≡ true → FitsSerial e
goes_on_fits e k = on_fits (effect e) k

installs_fits : (x : Effect) → of_installations x ≡ true → FitsBy x
installs_fits (lets_in m peer) k = absurd (cc)
installs_fits (opens m there) k = tt
installs_fits (decides m decision) k = tt
installs_fits (brings m from to) k = tt
installs_fits (lets_go m from) k = tt
installs_fits (comes_to phase) k = tt
installs_fits (fails_at phase) k = tt
installs_fits ends_all k = tt

pub installing_fits : (e : Event) → is_installations e ≡ true → FitsSerial e
installing_fits e k = installs_fits (effect e) k

leaves_fits : (x : Effect) (n : ℕ) → leaver_by x ≡ Some n → FitsBy x
leaves_fits (lets_in m peer) n k = absurd (cc)
leaves_fits (opens m there) n k = tt
leaves_fits (decides m decision) n k = tt
leaves_fits (brings m from to) n k = tt
leaves_fits (lets_go m from) n k = tt
leaves_fits (comes_to phase) n k = tt
leaves_fits (fails_at phase) n k = tt
leaves_fits ends_all n k = tt

pub leaver_fits : (e : Event) (n : ℕ) → leaver e ≡ Some n → FitsSerial e
leaver_fits e n k = leaves_fits (effect e) n k

-- a connection that may have an event more is not retired
pub not_retired : (s : Stage) → 1 ≤ events_left s → weight s ≡ 0
not_retired stage.Admitted some = refl
not_retired stage.Opened some = refl
not_retired (stage.Decided v) some = refl
not_retired stage.Started some = refl
not_retired stage.Retired some = absurd (omega (arith, some))

-- the events by which a connection goes on, or goes, are events of connections
on_own : (x : Effect) → goes_on_by x ≡ true → of_connections x ≡ true
on_own (lets_in m peer) k = refl
on_own (opens m there) k = refl
on_own (decides m decision) k = refl
on_own (brings m from to) k = refl
on_own (lets_go m from) k = refl
on_own (comes_to phase) k = absurd (cc)
on_own (fails_at phase) k = absurd (cc)
on_own ends_all k = absurd (cc)

pub goes_on_own : (e : Event) → goes_on e ≡ true → is_connections e ≡ true
goes_on_own e k = on_own (effect e) k

leaves_own : (x : Effect) (n : ℕ) → leaver_by x ≡ Some n → of_connections x ≡ true
leaves_own (lets_in m peer) n k = refl
leaves_own (opens m there) n k = refl
leaves_own (decides m decision) n k = refl
leaves_own (brings m from to) n k = refl
leaves_own (lets_go m from) n k = refl
leaves_own (comes_to phase) n k = absurd (cc)
leaves_own (fails_at phase) n k = absurd (cc)
leaves_own ends_all n k = absurd (cc)

pub leaver_own : (e : Event) (n : ℕ) → leaver e ≡ Some n → is_connections e ≡ true
leaver_own e n k = leaves_own (effect e) n k

-- the one stage in which its child runs
pub started_is : (s : Option Stage) → is_started s ≡ true → s ≡ Some stage.Started
started_is None is = absurd (cc)
started_is (Some stage.Admitted) is = absurd (cc)
started_is (Some stage.Opened) is = absurd (cc)
started_is (Some (stage.Decided v)) is = absurd (cc)
started_is (Some stage.Started) is = refl
started_is (Some stage.Retired) is = absurd (cc)
