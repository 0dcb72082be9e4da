-- A step of the server may be moved between the steps of others.
use Rattle.std.proofs.Common.{◌≡◌, ℕ, List, [], ◌∷◌, ◌++◌, refl, sym, ap, subst, ◌∙◌}
use Rattle.std.specs.Prelude.{Option, is_some}
use Rattle.server_events.specs.declared.event.Event.{Event}
use Rattle.server_events.specs.declared.event.Event.TheVariants.{Opened}
use Rattle.server_events.specs.declared.event.Stage.TheVariants as stage
use Rattle.headline.specs.Processes.{InstallerSteps, ServerSteps, Woven, none as no_more, serves, installs as woven_installs, stops, outside as woven_outside}
use Rattle.server_events.specs.ServerState.{ServerState, after, stage_of, HasStage, opened}
use Rattle.headline.specs.Steps.{Outside}
use Rattle.headline.specs.Within.{FindsWithin, OthersGo, none, installs, outside, noting, with_opening}
use Rattle.headline.specs.Worlds.{KeptFile, World, standing}

-- a world with another server's part
abbrev pub with_server : ServerState → List KeptFile → World → World
with_server s kept w = record w { server = record s { phase = w.server.phase }; kept = kept }

-- ---- others go on beside whatever server there is

installer_beside : (s : ServerState) (kept : List KeptFile) (u v : World) (event : Event) → InstallerSteps u event v → InstallerSteps (with_server s kept u) event (with_server s kept v)
installer_beside s kept u v event step = record { its = step.its; step = step.step; others = record { server = refl; kept = refl } }

outside_beside : (s : ServerState) (kept : List KeptFile) (u v : World) → Outside u v → Outside (with_server s kept u) (with_server s kept v)
outside_beside s kept u v out = record {
  rules_alone = out.rules_alone;
  scratch_alone = out.scratch_alone;
  moves = ap (λ (x : World). with_server s kept x) out.moves;
}

pub go_beside : {u v : World} {events : List Event} (s : ServerState) (kept : List KeptFile) → OthersGo u events v → OthersGo (with_server s kept u) events (with_server s kept v)
go_beside s kept none = none
go_beside s kept (installs step rest) = installs (installer_beside s kept _ _ _ step) (go_beside s kept rest)
go_beside s kept (outside out rest) = outside (outside_beside s kept _ _ out) (go_beside s kept rest)

-- and leave what it has
pub same_server : {u v : World} {events : List Event} → OthersGo u events v → v.server ≡ record u.server { phase = v.server.phase }
same_server none = refl
same_server {u} {v} (installs step rest) = same_server rest ∙ ap (λ (s : ServerState). record s { phase = v.server.phase }) step.others.server
same_server {u} {v} (outside out rest) = same_server rest ∙ ap (λ (x : World). record x.server { phase = v.server.phase }) out.moves

pub same_kept : {u v : World} {events : List Event} → OthersGo u events v → v.kept ≡ u.kept
same_kept none = refl
same_kept (installs step rest) = same_kept rest ∙ step.others.kept
same_kept (outside out rest) = same_kept rest ∙ ap (λ (x : World). x.kept) out.moves

pub are_woven : {u v : World} {events : List Event} → OthersGo u events v → Woven u events v
are_woven none = no_more
are_woven (installs step rest) = woven_installs step (are_woven rest)
are_woven (outside out rest) = woven_outside out (are_woven rest)

pub woven_then : {u v w : World} {first second : List Event} → Woven u first v → Woven v second w → Woven u (first ++ second) w
woven_then no_more rest = rest
woven_then (serves step steps) rest = serves step (woven_then steps rest)
woven_then (woven_installs step steps) rest = woven_installs step (woven_then steps rest)
woven_then (stops step steps) rest = stops step (woven_then steps rest)
woven_then (woven_outside out steps) rest = woven_outside out (woven_then steps rest)

-- ---- the opening

-- at its moment it is a step of the server by itself
opens_at : (u : World) (n : ℕ) → HasStage u.server n stage.Admitted
    → ServerSteps u (Opened n (is_some (standing u))) (with_server (after u.server (Opened n (is_some (standing u)))) (u.kept ++ record { serial = n; bytes = standing u } ∷ []) u)
opens_at u n admitted = record {
  its = refl;
  step = record { table = opened admitted; moves = (refl, refl) };
  others = record { phase = refl; accepted = refl; acknowledged = refl; under_way = refl };
}

-- the world that others come to then has it noted
noted_then : {u v : World} {events : List Event} (n : ℕ) (bytes : Option (List ℕ)) → OthersGo u events v
    → with_server (after u.server (Opened n (is_some bytes))) (u.kept ++ record { serial = n; bytes = bytes } ∷ []) v ≡ noting n bytes v
noted_then {u} {v} n bytes go =
    ap (λ (s : ServerState). record v { server = after s (Opened n (is_some bytes)); kept = u.kept ++ record { serial = n; bytes = bytes } ∷ [] }) (sym (same_server go))
    ∙ ap (λ (kept : List KeptFile). record v { server = after v.server (Opened n (is_some bytes)); kept = kept ++ record { serial = n; bytes = bytes } ∷ [] }) (sym (same_kept go))

pub moved_within : (w v : World) (n : ℕ) (bytes : Option (List ℕ)) (finds : FindsWithin w v bytes) → HasStage w.server n stage.Admitted → Woven w (with_opening n finds) (noting n bytes v)
moved_within w v n bytes finds admitted =
    subst (λ (found : Option (List ℕ)). Woven w (finds.before ++ Opened n (is_some found) ∷ finds.behind) (noting n found v)) (sym finds.found) at_its_moment
  where
    still : HasStage finds.u.server n stage.Admitted
    still = ap (λ (s : ServerState). stage_of n s.connections) (same_server finds.first) ∙ admitted

    at_its_moment : Woven w (finds.before ++ Opened n (is_some (standing finds.u)) ∷ finds.behind) (noting n (standing finds.u) v)
    at_its_moment =
        subst (λ (x : World). Woven w (finds.before ++ Opened n (is_some (standing finds.u)) ∷ finds.behind) x) (noted_then n (standing finds.u) finds.rest)
        (woven_then (are_woven finds.first) (serves (opens_at finds.u n still)
        (are_woven (go_beside (after finds.u.server (Opened n (is_some (standing finds.u)))) (finds.u.kept ++ record { serial = n; bytes = standing finds.u } ∷ []) finds.rest))))
