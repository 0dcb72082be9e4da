-- Events in which openings stand earlier are ones that the table allows, too.
use Rattle.std.proofs.Common.{◌≡◌, ◌==◌, ◌∙◌, ℕ, Bool, true, false, List, [], ◌∷◌, ◌++◌, not, refl, sym, ap, subst, arith}
use Rattle.std.specs.Prelude.{⊤}
use Rattle.std.proofs.lemmas.Bool.Decides.{nat_tests}
use Rattle.rule_lookup.specs.declared.decision.WhenMissing.{WhenMissing}
use Rattle.server_events.specs.ServerState.{Effect, ServerState, lets_in, opens, decides, brings, lets_go, comes_to, fails_at, ends_all, after, effect, is_admitted, is_legal, may_happen, newcomer, stage_of, with_effect, is_connections, of_connections}
use Rattle.server_events.specs.declared.event.Event.{Event}
use Rattle.server_events.specs.declared.event.Event.TheVariants.{Opened}
use Rattle.server_events.specs.declared.event.Stage.TheVariants as stage
use Rattle.server_events.proofs.Effects.{is_admitted-true}
use Rattle.server_events.proofs.History.{and_true}
use Rattle.server_events.proofs.Peers.{peer_of-with_stage, stage_of-push_other, stage_of-with_stage_other, stage_of-without_other}
use Rattle.server_yard.specs.Runs.{AreConnections}
use Rattle.whole_yard.specs.Findings.{same, sooner}
use Rattle.whole_yard.specs.Findings.{AreByFound, Found, InOrderOfFinding, IsByFound, is_own, is_own_by}
use Rattle.whole_yard.specs.Telling.{apart_by}
use Rattle.whole_yard.proofs.OpenedBefore.{leads_there, may_there, opened}

-- ---- events of other connections

other_way : (n m : ℕ) → (n == m) ≡ false → (m == n) ≡ false
other_way n m other = grind (arith, nat_tests, other)

others_apart : (n : ℕ) (x : Effect) → is_own_by n x ≡ false → of_connections x ≡ true → apart_by n x ≡ true
others_apart n (lets_in m peer) other own = refl
others_apart n (opens m there) other own = ap not other
others_apart n (decides m decision) other own = ap not other
others_apart n (brings m from to) other own = ap not other
others_apart n (lets_go m from) other own = ap not other
others_apart n (comes_to phase) other own = refl
others_apart n (fails_at phase) other own = refl
others_apart n ends_all other own = absurd (cc)

-- they leave a connection in its stage
stays_at : (n : ℕ) (s : ServerState) (x : Effect) → is_own_by n x ≡ false → of_connections x ≡ true
    → stage_of n (with_effect s x).connections ≡ stage_of n s.connections
stays_at n s (lets_in m peer) other own = stage_of-push_other n s.connections (newcomer m peer) (other_way n m other)
stays_at n s (opens m there) other own = stage_of-with_stage_other n m stage.Opened s.connections (other_way n m other)
stays_at n s (decides m decision) other own =
    stage_of-with_stage_other n m (stage.Decided decision.verdict) s.connections (other_way n m other)
stays_at n s (brings m from to) other own = stage_of-with_stage_other n m to s.connections (other_way n m other)
stays_at n s (lets_go m from) other own = stage_of-without_other n m s.connections (other_way n m other)
stays_at n s (comes_to phase) other own = absurd (cc)
stays_at n s (fails_at phase) other own = absurd (cc)
stays_at n s ends_all other own = absurd (cc)

module _ (found : Found) (missing : WhenMissing) where
  -- ---- events that may be told one after another

  -- what an event needs in a state, and that those after it may be told then
  abbrev pub MayBeTold : ServerState → List Event → Type 0
  MayBeTold s [] = ⊤
  MayBeTold s (event ∷ events) =
      (may_happen s event ≡ true) × (is_connections event ≡ true) × IsByFound found missing s (effect event) × MayBeTold (after s event) events

  pub may_be_told : (s : ServerState) (events : List Event) → is_legal s events ≡ true → AreConnections events
      → AreByFound found missing s events → MayBeTold s events
  may_be_told s [] legal own by = tt
  may_be_told s (event ∷ events) legal own by =
      let parts = and_true (may_happen s event) (is_legal (after s event) events) legal in
      (parts.0, own.0, by.0, may_be_told (after s event) events parts.1 own.1 by.1)

  -- ---- an opening one place earlier

  by_there : (n : ℕ) (s : ServerState) (x : Effect) → IsByFound found missing s x → IsByFound found missing (opened n s) x
  by_there n s (decides m decision) by =
      λ peer is. by peer (sym (peer_of-with_stage m n stage.Opened s.connections) ∙ is)
  by_there n s (lets_in m peer) by = tt
  by_there n s (opens m there) by = tt
  by_there n s (brings m from to) by = tt
  by_there n s (lets_go m from) by = tt
  by_there n s (comes_to phase) by = tt
  by_there n s (fails_at phase) by = tt
  by_there n s ends_all by = tt

  swapped : (n : ℕ) (there : Bool) (event : Event) (since : List Event) (s : ServerState) → is_own n event ≡ false
      → MayBeTold s (event ∷ Opened n there ∷ since) → MayBeTold s (Opened n there ∷ event ∷ since)
  swapped n there event since s other told =
      let x = effect event in
      let apart = others_apart n x other told.1 in
      let waits = ap is_admitted (sym (stays_at n s x other told.1)) ∙ told.3.0 in
      let is = is_admitted-true _ waits in (
        waits,
        refl,
        tt,
        (
          may_there n s x apart ∙ told.0,
          told.1,
          by_there n s x told.2,
          subst (λ (u : ServerState). MayBeTold u since) (sym (leads_there n s x is apart)) told.3.3,
        ),
      )

  swapped_in : (before : List Event) (n : ℕ) (there : Bool) (event : Event) (since : List Event) (s : ServerState)
      → is_own n event ≡ false → MayBeTold s (before ++ event ∷ Opened n there ∷ since)
      → MayBeTold s (before ++ Opened n there ∷ event ∷ since)
  swapped_in [] n there event since s other told = swapped n there event since s other told
  swapped_in (first ∷ before) n there event since s other told =
      (told.0, told.1, told.2, swapped_in before n there event since (after s first) other told.3)

  pub may_be_told_so : {events order : List Event} → InOrderOfFinding events order → (s : ServerState) → MayBeTold s events → MayBeTold s order
  may_be_told_so same s told = told
  may_be_told_so (sooner n there event before since other rest) s told =
      may_be_told_so rest s (swapped_in before n there event since s other told)
