use Rattle.std.proofs.Common.{[], ◌∷◌, ◌++◌, inl, inr, refl}
use Rattle.std.specs.Prelude.{None}
use Rattle.server_events.specs.ServerState.{after, decided, failed, opened, stop}
use Rattle.headline.specs.Steps.{Step}
use Rattle.headline.specs.Taken.{is_there}
use Rattle.headline.specs.Worlds.{World, standing}
use Rattle.server_events.specs.declared.event.Event.TheVariants.{Decided, Opened, StepFailed, Stop}
use Rattle.headline.proofs.Others.{made_others, settled_others, taken_others}
use Rattle.headline.proofs.laws.taken.Goals as goal

pub returns-clause-stopped : goal.returns-clause-stopped
returns-clause-stopped c w image is =
    let v : World = record w { directory = image; server = after w.server Stop; under_way = None; kept = [] } in
    let step : Step w Stop v = record { table = stop; moves = ((w.directory, inl refl, is), refl) } in
    (v, step, refl)

pub returns-clause-stopped_within : goal.returns-clause-stopped_within
returns-clause-stopped_within c w image left =
    let v : World = record w { directory = image; server = after w.server Stop; under_way = None; kept = [] } in
    let step : Step w Stop v = record { table = stop; moves = ((left.state, inr (left.phase, left.call, left.follows, left.is_call, left.passes), left.is_image), refl) } in
    (v, step, refl)

pub returns-clause-failed : goal.returns-clause-failed
returns-clause-failed c w phase d it =
    let v : World = record w { directory = d; server = after w.server (StepFailed phase); under_way = None } in
    let step : Step w (StepFailed phase) v = record { table = failed it.follows; moves = (it.call, it.is_call, it.fails, refl) } in
    (v, step, refl)

pub returns-clause-opened : goal.returns-clause-opened
returns-clause-opened c w n here =
    let v : World = record w { server = after w.server (Opened n (is_there w)); kept = w.kept ++ record { serial = n; bytes = standing w } ∷ [] } in
    let step : Step w (Opened n (is_there w)) v = record { table = opened here; moves = (refl, refl) } in
    (v, step)

pub returns-clause-decided : goal.returns-clause-decided
returns-clause-decided c w n decision due =
    let v : World = record w { server = after w.server (Decided n decision) } in
    let step : Step w (Decided n decision) v = record { table = decided due.opened; moves = (due.bytes, due.peer, due.kept, due.is_its, due.decides, refl) } in
    (v, step)

pub returns-clause-made : goal.returns-clause-made
returns-clause-made c w name file others = made_others w name file others

pub returns-clause-taken_away : goal.returns-clause-taken_away
returns-clause-taken_away c w name others = taken_others w name others

pub returns-clause-settled : goal.returns-clause-settled
returns-clause-settled c w = settled_others w
