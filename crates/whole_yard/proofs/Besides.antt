-- A server's calls, over the directory as others left it, are its steps by itself.
use Rattle.std.proofs.Common.{◌≡◌, true, List, Option, None, refl, sym, ap, subst, ◌∙◌}
use Rattle.dir_calls.specs.declared.phase.Phase.{Phase}
use Rattle.headline.specs.Processes.{of_server}
use Rattle.server_events.specs.ServerState.{Effect, ServerState, lets_in, opens, decides, brings, lets_go, comes_to, fails_at, ends_all, effect, is_connections, of_connections}
use Rattle.headline.specs.Steps.{MovesBy, Step}
use Rattle.headline.specs.Worlds.{KeptFile, World}
use Rattle.server_events.specs.declared.event.Event.{Event}
use Rattle.server_events.proofs.Effects.{step_is}
use Rattle.whole_yard.specs.Serving.{IsServers, StepsByItself, over}
use Rattle.whole_yard.specs.Standing.{Leads, Matches, YardState}
use Rattle.headline.proofs.WovenSteps.{phase_stays}

-- an event of a connection changes the server and what is kept, and nothing else
plainly : (u v : World) → v ≡ record u { server = v.server } → v ≡ record u { server = v.server; kept = v.kept }
plainly u v is = is ∙ ap (λ (ks : List KeptFile). record u { server = v.server; kept = ks }) (sym (ap (λ (x : World). x.kept) is))

moved_by : (x : Effect) (u v : World) → of_connections x ≡ true → MovesBy x u v → v ≡ record u { server = v.server; kept = v.kept }
moved_by (lets_in n peer) u v own moves = plainly u v moves
moved_by (opens n there) u v own moves =
    moves.1 ∙ ap (λ (ks : List KeptFile). record u { server = v.server; kept = ks }) (sym (ap (λ (x : World). x.kept) moves.1))
moved_by (decides n decision) u v own moves = plainly u v moves.5
moved_by (brings n from to) u v own moves = plainly u v moves
moved_by (lets_go n from) u v own moves = plainly u v moves
moved_by (comes_to phase) u v own moves = absurd (cc)
moved_by (fails_at phase) u v own moves = absurd (cc)
moved_by ends_all u v own moves = absurd (cc)

-- the shared world after a step of the server by itself
abbrev shared : World → World → World
shared w v = record w { server = record v.server { phase = w.server.phase }; kept = v.kept }

-- what the server has of it is the world after its step
its_own : (w v : World) (event : Event) → is_connections event ≡ true → Step (of_server w) event v → of_server (shared w v) ≡ v
its_own w v event own step =
    let phase : v.server.phase ≡ None = ap (λ (s : ServerState). s.phase) (step_is step.table).1 ∙ phase_stays (of_server w).server event own in
    ap (λ (p : Option Phase). record (of_server w) { server = record v.server { phase = p }; kept = v.kept }) (sym phase)
    ∙ sym (moved_by (effect event) (of_server w) v own step.moves)

pub by_itself : (w : World) (y z : YardState) (files more : List KeptFile) (event : Event) → is_connections event ≡ true
    → IsServers y files w → Leads event (over y w.directory) files (over z w.directory) more → StepsByItself w event z more
by_itself w y z files more event own at leads =
    let next = leads (of_server w) at in
    let same = sym (its_own w next.0 event own next.1) in
    let v = shared w next.0 in (
      v,
      record {
        its = own;
        step = subst (λ (x : World). Step (of_server w) event x) same next.1;
        others = record { phase = refl; accepted = refl; acknowledged = refl; under_way = refl };
      },
      subst (λ (x : World). Matches (over z w.directory) more x) same next.2,
    )
