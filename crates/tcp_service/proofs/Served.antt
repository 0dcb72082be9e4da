-- How a connection was served, by what was told of it.
use Rattle.std.proofs.Common.{◌≡◌, ◌≢◌, ◌∙◌, ℕ, Bool, List, [], Option, None, Some, Result, Ok, Err, inl, inr, refl, subst, sym}
use Rattle.std.specs.Prelude.{IfOk, OnErr}
use Rattle.child_jobs.specs.Plans.{PlanText}
use Rattle.child_jobs.specs.Variables.{Variables}
use Rattle.child_jobs.specs.declared.outcome.DropCause.{DropCause}
use Rattle.child_jobs.specs.declared.outcome.DropCause.TheVariants as cause
use Rattle.child_jobs.specs.declared.outcome.Exit.{Exit}
use Rattle.rule_lookup.specs.declared.instr.Verdict.TheVariants.{Deny}
use Rattle.server_events.specs.declared.event.Event.{Event}
use Rattle.server_events.specs.declared.event.Event.TheVariants.{Dropped, Ended, Retired}
use Rattle.tcp_connections.specs.Rounds.{AllFail, EndsAs, FailsToWait, Kills, OneEnds, rounds}
use Rattle.tcp_service.specs.Lives.{IsEndOfChild}
use Rattle.tcp_service.specs.Greetings.{IsGreeted, RefusesGreeted}
use Rattle.tcp_service.specs.Openings.{Opening}
use Rattle.tcp_service.specs.Servings.{EndsFor, FailsFor, FailsToStart, GivesUp, IsDecided, Refuses}
use Rattle.tcp_service.specs.declared.guest.Identity.{Identity}

-- what needs no reason, needs none of any
pub given_up_anyway : (fails : DropCause → Type 0) (why : DropCause) → GivesUp (λ _. ⊥) [] why → GivesUp fails [] why
given_up_anyway fails cause.Denied gives = gives
given_up_anyway fails cause.Banner gives = gives
given_up_anyway fails cause.Directory gives = tt
given_up_anyway fails cause.ReadFault gives = absurd gives
given_up_anyway fails cause.Damaged gives = absurd gives
given_up_anyway fails cause.Memory gives = tt

-- what was given up without a banner was given up for another cause
pub with_banner : (fails : DropCause → Type 0) (banner : List ℕ) (why : DropCause) → GivesUp fails [] why → GivesUp fails banner why
with_banner fails banner cause.Denied gives = gives
with_banner fails banner cause.Banner gives = absurd (gives refl)
with_banner fails banner cause.Directory gives = tt
with_banner fails banner cause.ReadFault gives = gives
with_banner fails banner cause.Damaged gives = gives
with_banner fails banner cause.Memory gives = tt

-- nor was it a denial
pub undecided : (fails : DropCause → Type 0) (why : DropCause) → GivesUp fails [] why → (why ≢ cause.Denied) × (why ≢ cause.Banner)
undecided fails why gives = (λ is. subst (GivesUp fails []) is gives, λ is. subst (GivesUp fails []) is gives refl)

module _ (finds : (serial : ℕ) → Opening → Type 0) (honest sound : Bool) (identity : Identity) (plan : PlanText)
    (refuses : Refuses) (decided : Option Event) (end : Event) where
  -- undecided
  pub ends_given_up : (why : DropCause) → decided ≡ None → end ≡ Dropped identity.serial why
      → GivesUp (FailsFor (finds identity.serial) honest sound identity.peer) plan.banner why
      → EndsFor finds honest sound identity plan refuses decided end
  ends_given_up why undecided ends gives =
      subst (λ (d : Option Event). EndsFor finds honest sound identity plan refuses d end) (sym undecided)
      (subst (λ (e : Event). EndsFor finds honest sound identity plan refuses None e) (sym ends) (refl, gives))

  -- denied
  pub ends_denied : (event : Event) (environment : Variables) → decided ≡ Some event → end ≡ Dropped identity.serial cause.Denied
      → IsDecided finds honest sound identity plan event Deny environment
      → EndsFor finds honest sound identity plan refuses decided end
  ends_denied event environment is ends denied =
      subst (λ (d : Option Event). EndsFor finds honest sound identity plan refuses d end) (sym is)
      (subst (λ (e : Event). EndsFor finds honest sound identity plan refuses (Some event) e) (sym ends)
      (refl, record { environment = environment; denied = denied }))

-- allowed, and its program refused after it was greeted
pub ends_refused : {X : Type 0} (contents : X → Option (List ℕ)) (refuses : X → Refuses) (accepted connection : X)
    (finds : (serial : ℕ) → Opening → Type 0) (honest sound : Bool) (identity : Identity) (plan : PlanText)
    (decided : Option Event) (event end : Event) → decided ≡ Some event
    → IsGreeted contents plan.banner accepted connection
    → FailsToStart finds honest sound identity plan (refuses connection) event end
    → EndsFor finds honest sound identity plan (RefusesGreeted contents plan.banner refuses accepted) decided end
ends_refused {X} contents refuses accepted connection finds honest sound identity plan decided event end is greeted fails =
    let by_greeted : Refuses = RefusesGreeted contents plan.banner refuses accepted in
    subst (λ (d : Option Event). EndsFor finds honest sound identity plan by_greeted d end) (sym is)
    (subst (λ (e : Event). EndsFor finds honest sound identity plan by_greeted (Some event) e) (sym fails.told) record {
      environment = fails.environment;
      allowed = fails.allowed;
      refusal = fails.refusal;
      refused = record { connection = connection; greeted = greeted; refused = fails.refused };
      told = refl;
    })

-- how a child ended, or that all rounds failed, by how the waits for it went
pub end_told : {P C J : Type 0} (waited : Result (P × Exit) C) (kills : Kills J) (fails : FailsToWait J) (ends : EndsAs J)
    (job : J) (serial : ℕ) (last then : Event) → last ≡ then
    → IfOk waited (λ r. OneEnds kills fails ends rounds job r.1.status) → OnErr waited (AllFail kills fails rounds job)
    → IfOk waited (λ r. then ≡ Ended serial r.1.status) → OnErr waited (then ≡ Retired serial)
    → IsEndOfChild kills fails ends job last serial
end_told (Ok r) kills fails ends job serial last then is its none told untold = inl (r.1.status, its, is ∙ told)
end_told (Err child) kills fails ends job serial last then is none its untold told = inr (its, is ∙ told)
