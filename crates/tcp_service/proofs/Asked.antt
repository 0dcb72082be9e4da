-- What a yard was asked for.
use Rattle.std.proofs.Common.{◌∙◌, ℕ, ap, refl, subst, sym}
use Rattle.std.specs.Prelude.{◌≡◌, Result, Ok, Err, IfOk, IsOk, OnOk, Some}
use Rattle.rule_lookup.specs.Peers.{Client}
use Rattle.rule_lookup.specs.declared.decision.Decision.{Decision}
use Rattle.server_events.proofs.Peers.{peer_of-with_stage}
use Rattle.server_events.specs.ServerState.{ServerState, peer_of}
use Rattle.server_events.specs.declared.event.Event.{Event}
use Rattle.server_events.specs.declared.event.Event.TheVariants.{Decided}
use Rattle.server_events.specs.declared.event.Stage.TheVariants as stage
use Rattle.server_log.specs.declared.lines.Told.{Told}
use Rattle.server_yard.specs.Evidence.{Makes, asked_event, made_at}
use Rattle.server_yard.specs.Passes.{pass_serial}
use Rattle.server_yard.specs.Yards.{MayBeDecided, yard_books, yard_server}
use Rattle.server_yard.specs.declared.pass.Pass.{Pass}
use Rattle.server_yard.specs.declared.evidence.Made.{Made}
use Rattle.server_yard.specs.declared.evidence.OutOfTurn.{OutOfTurn}
use Rattle.server_yard.specs.declared.yard.Yard.{Yard}
use Rattle.server_log.specs.Reports.{Tells}

-- in turn or not, the yard was asked for this event
pub asked_for : {L : Type 0} {p : _} (r : Result Made OutOfTurn) (event : Event) (old new : Yard L p) → Makes event r old new → asked_event r ≡ event
asked_for (Ok made) event old new makes = makes.made.its
asked_for (Err refusal) event old new makes = makes.out.0

-- an event that was made was the last one then
pub just_made : {L : Type 0} {p : _} (r : Result Made OutOfTurn) (event : Event) (old new : Yard L p) → Makes event r old new
    → IfOk r (λ made. made_at made ≡ (yard_books new).count)
just_made (Ok made) event old new makes = makes.made.last
just_made (Err refusal) event old new makes = tt

-- what tells the event that a yard was asked for tells what it answered
pub told_as : {L : Type 0} {p : _} (told : Told) (r : Result Made OutOfTurn) (event : Event) (old new : Yard L p) → Makes event r old new
    → Tells told event → Tells told (asked_event r)
told_as told r event old new makes tells = subst (Tells told) (sym (asked_for r event old new makes)) tells

-- a decision that was made is of its connection's own client
pub its_client : {L F : Type 0} {p : _} (r : Result Made OutOfTurn) (n : ℕ) (pass : Pass L F) (peer : Client) (decision : Decision)
    (old new : Yard L p) → n ≡ pass_serial pass → (IsOk r → MayBeDecided pass peer decision old)
    → Makes (Decided (pass_serial pass) decision) r old new
    → OnOk r (peer_of n (yard_server new).connections ≡ Some peer)
its_client (Ok made) n pass peer decision old new is may makes =
    let m : ℕ = pass_serial pass in
    subst (λ (k : ℕ). peer_of k (yard_server new).connections ≡ Some peer) (sym is)
    (ap (λ (w : ServerState). peer_of m w.connections) makes.made.noted.happens
    ∙ peer_of-with_stage m m (stage.Decided decision.verdict) (yard_server old).connections ∙ (may refl).its_peer)
its_client (Err refusal) n pass peer decision old new is may makes = tt
