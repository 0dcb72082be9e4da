-- After a stop nothing happens to a connection from before.
use Rattle.std.proofs.Common.{◌≡◌, ℕ, ◌<◌, List, [], ◌∷◌, true, false, ◌==◌, Some, refl, sym, ap, subst, arith}
use Rattle.std.specs.Prelude.{if◌then◌else◌}
use Rattle.std.proofs.lemmas.Bool.Decides.{nat_tests}
use Rattle.server_events.specs.declared.event.Stage.{Stage}
use Rattle.server_events.specs.declared.event.Stage.TheVariants as stage
use Rattle.server_events.specs.declared.event.Event.{Event}
use Rattle.server_events.specs.declared.event.Event.TheVariants.{Stop}
use Rattle.server_events.specs.declared.state.Connection.{Connection}
use Rattle.server_events.specs.Live.{concerns, concerns_by}
use Rattle.server_events.specs.ServerState.{ServerState, newcomer, stage_of, Effect, lets_in, opens, decides, brings, lets_go, comes_to, fails_at, ends_all, effect, may_have, with_effect}
use Rattle.headline.specs.Steps.{Legal, Step, none, more, beside}
use Rattle.headline.specs.Worlds.{World}
use Rattle.server_events.proofs.History.{room_for}
use Rattle.server_events.proofs.Effects.{Sound, is_admitted-true, is_opened-true, sound, step_is}
use Rattle.server_events.proofs.Serials.{Rise, Rise-le, Rise-push, Rise-with_stage, Rise-without}

-- a serial that has a stage is above the number from which the serials rise
above_low : (n : ℕ) (t : Stage) (low : ℕ) (cs : List Connection) (high : ℕ) → Rise low cs high → stage_of n cs ≡ Some t → low < n
above_low n t low [] high h e = absurd (cc)
above_low n t low (c ∷ cs) high h e =
    let first = h.0 in
    elim (c.serial == n) as (λ b. (c.serial == n) ≡ b → (if b then Some c.stage else stage_of n cs) ≡ Some t → low < n) [
      | true ↦ λ same here. grind (arith, nat_tests, same, first)
      | false ↦ λ other later. (let rest = above_low n t c.serial cs high h.1 later in omega (arith, first, rest))
    ] refl e

-- the serials rise from above the same number after each event
rise_with : (low : ℕ) (s : ServerState) (x : Effect) → may_have s x ≡ true → Rise low s.connections s.last → Rise low (with_effect s x).connections (with_effect s x).last
rise_with low s (lets_in m peer) may rise =
    let next = (room_for s m peer may).next in
    Rise-push low s.connections s.last (newcomer m peer) rise (omega (arith, next))
rise_with low s (opens m there) may rise = Rise-with_stage m stage.Opened low s.connections s.last rise
rise_with low s (decides m decision) may rise = Rise-with_stage m (stage.Decided decision.verdict) low s.connections s.last rise
rise_with low s (brings m from to) may rise = Rise-with_stage m to low s.connections s.last rise
rise_with low s (lets_go m from) may rise = Rise-without m low s.connections s.last rise
rise_with low s (comes_to phase) may rise = rise
rise_with low s (fails_at phase) may rise = rise
rise_with low s ends_all may rise = Rise-le low s.connections s.last rise

rise_step : (low : ℕ) (w v : World) (event : Event) → Step w event v → Rise low w.server.connections w.server.last → Rise low v.server.connections v.server.last
rise_step low w v event step rise =
    let happened = step_is step.table in
    subst (λ (s : ServerState). Rise low s.connections s.last) (sym happened.1) (rise_with low w.server (effect event) happened.0 rise)

rise_run : (low : ℕ) {v w : World} {history : List Event} → Legal v history w → Rise low v.server.connections v.server.last → Rise low w.server.connections w.server.last
rise_run low none rise = rise
rise_run low (more {u} {v} {w} {event} {events} step rest) rise = rise_run low rest (rise_step low u v event step rise)
rise_run low (beside {u} {v} out rest) rise =
    rise_run low rest (subst (λ (s : ServerState). Rise low s.connections s.last) (sym (ap (λ (x : World). x.server) out.moves)) rise)

-- after a stop all serials are above those before it
rise_stopped : (w v : World) → Step w Stop v → Rise w.server.last v.server.connections v.server.last
rise_stopped w v step =
    let first : Rise w.server.last [] w.server.last = omega arith in
    subst (λ (s : ServerState). Rise w.server.last s.connections s.last) (sym (step_is step.table).1) first

-- the connection m has a stage, and is n
its_stage : (n m : ℕ) (cs : List Connection) (t : Stage) → (n == m) ≡ true → stage_of m cs ≡ Some t → (s : Stage) × (stage_of n cs ≡ Some s)
its_stage n m cs t same here =
    let it : m ≡ n = grind (arith, nat_tests, same) in
    (t, subst (λ (k : ℕ). stage_of k cs ≡ Some t) it here)

-- an event happens only to a connection that has a stage
concerned : (s : ServerState) (x : Effect) (n : ℕ) → Sound x → may_have s x ≡ true → concerns_by n x ≡ true → (t : Stage) × (stage_of n s.connections ≡ Some t)
concerned s (lets_in m peer) n its may same = absurd (cc)
concerned s (opens m there) n its may same = its_stage n m s.connections stage.Admitted same (is_admitted-true _ may)
concerned s (decides m decision) n its may same = its_stage n m s.connections stage.Opened same (is_opened-true _ may)
concerned s (brings m from to) n its may same = (let had = its.had _ may in its_stage n m s.connections had.0 same had.1)
concerned s (lets_go m from) n its may same = (let had = its.had _ may in its_stage n m s.connections had.0 same had.1)
concerned s (comes_to phase) n its may same = absurd (cc)
concerned s (fails_at phase) n its may same = absurd (cc)
concerned s ends_all n its may same = absurd (cc)

-- Whatever happens to a connection after a stop happens to one that was let in after it.
pub after_stop : (w v x y : World) (events : List Event) (event : Event) (n : ℕ) → Step w Stop v → Legal v events x → Step x event y → concerns n event ≡ true → w.server.last < n
after_stop w v x y events event n stops goes_on step same =
    let rise = rise_run w.server.last goes_on (rise_stopped w v stops) in
    let had = concerned x.server (effect event) n (sound event) (step_is step.table).0 same in
    above_low n had.0 w.server.last x.server.connections x.server.last rise had.1
