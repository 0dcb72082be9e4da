-- What serves a connection is a series of calls, so that a history of the headline goes on by its events.
use Rattle.std.proofs.Common.{◌≡◌, ℕ, List, [], ◌∷◌, ◌++◌, None, Some, sym, ap, ◌∙◌}
use Rattle.server_events.specs.ServerState.{ServerState, stage_of}
use Rattle.headline.specs.Steps.{none, more}
use Rattle.headline.specs.Worlds.{KeptFile, kept_by}
use Rattle.server_events.specs.declared.event.Event.{Event}
use Rattle.server_events.specs.declared.event.Stage.TheVariants as stage
use Rattle.headline.proofs.InstalledRuns.{legal_then}
use Rattle.headline.proofs.Openings.{kept_by-push_own, waiting_keeps}
use Rattle.whole_yard.specs.Standing.{IsReachedBy, YardState}
use Rattle.whole_yard.specs.Serving.{IsReachedOn, Serves}
use Rattle.whole_yard.specs.Serving.Serves.{at_once, undecided, decided}

pub served : (n : ℕ) (history events : List Event) (y z : YardState) (files : List KeptFile) → IsReachedBy history y files
    → stage_of n y.server.connections ≡ Some stage.Admitted → Serves n y events z → IsReachedOn (history ++ events) z
served n history events y z files reached here (at_once last) =
    let w = reached.0 in
    let end = last files w reached.2 in
    (files, (end.0, record { begin = reached.1.begin; starts = reached.1.starts; legal = legal_then reached.1.legal (more end.1 none) }, end.2))
served n history events y z files reached here (undecided {bytes = bytes} opens last) =
    let w = reached.0 in
    let kept = files ++ record { serial = n; bytes = bytes } ∷ [] in
    let one = opens files w reached.2 in
    let end = last kept one.0 one.2 in
    (kept, (end.0, record { begin = reached.1.begin; starts = reached.1.starts; legal = legal_then reached.1.legal (more one.1 (more end.1 none)) }, end.2))
served n history events y z files reached here (decided {bytes = bytes} opens decides last) =
    let w = reached.0 in
    let at = reached.2 in
    let waits : kept_by n files ≡ None =
    ap (λ (ks : List KeptFile). kept_by n ks) (sym at.kept) ∙ waiting_keeps history w reached.1 n (ap (λ (s : ServerState). stage_of n s.connections) at.server ∙ here) in
    let kept = files ++ record { serial = n; bytes = bytes } ∷ [] in
    let one = opens files w at in
    let two = decides kept (kept_by-push_own n bytes files waits) one.0 one.2 in
    let end = last kept two.0 two.2 in
    (kept, (end.0, record { begin = reached.1.begin; starts = reached.1.starts; legal = legal_then reached.1.legal (more one.1 (more two.1 (more end.1 none))) }, end.2))
