-- Steps from one world that is a yard's to the next.
use Rattle.std.proofs.Common.{◌≡◌, ℕ, List, [], ◌∷◌, ◌++◌, true, Option, None, Some, refl, sym, ap, subst, ◌∙◌}
use Rattle.std.specs.Prelude.{is_some, option_and_then, option_map, Ok}
use Rattle.cdb_files.specs.Reading.{reading}
use Rattle.dir_calls.specs.Directory.{Directory, content}
use Rattle.rule_lookup.specs.Decisions.{decision_from}
use Rattle.rule_lookup.specs.Peers.{Client}
use Rattle.rule_lookup.specs.declared.decision.Decision.{Decision}
use Rattle.rules_install.specs.Installing.{Installing}
use Rattle.server_events.specs.ServerState.{Effect, ServerState, lets_in, opens, decides, brings, lets_go, comes_to, fails_at, ends_all, after, effect, may_happen, with_effect, is_connections, of_connections, peer_of}
use Rattle.headline.specs.Steps.{MovesBy, Step}
use Rattle.headline.specs.Worlds.{KeptFile, RulesName, World, kept_by, missing_by, standing}
use Rattle.server_events.specs.declared.event.Event.{Event}
use Rattle.server_events.specs.declared.event.Event.TheVariants.{Opened, Decided}
use Rattle.server_events.proofs.Effects.{is_step}
use Rattle.headline.proofs.WovenSteps.{phase_stays}
use Rattle.server_yard.specs.Rolls.{Notes, Roll}
use Rattle.whole_yard.specs.Serving.{is_plain, plain_by, with_roll}
use Rattle.whole_yard.specs.Standing.{HasUnderWay, LeadsDecided, LeadsOn, LeadsOpened, Matches, YardState, standing_of}

-- the world after it
abbrev next_world : World → Event → World
next_world w e = record w { server = after w.server e }

plainly : (w : World) (x : Effect) → plain_by x ≡ true → MovesBy x w (record w { server = with_effect w.server x })
plainly w (lets_in n peer) k = refl
plainly w (opens n there) k = absurd (cc)
plainly w (decides n decision) k = absurd (cc)
plainly w (brings n from to) k = refl
plainly w (lets_go n from) k = refl
plainly w (comes_to phase) k = absurd (cc)
plainly w (fails_at phase) k = absurd (cc)
plainly w ends_all k = absurd (cc)

plain_own : (x : Effect) → plain_by x ≡ true → of_connections x ≡ true
plain_own (lets_in n peer) k = refl
plain_own (opens n there) k = refl
plain_own (decides n decision) k = refl
plain_own (brings n from to) k = refl
plain_own (lets_go n from) k = refl
plain_own (comes_to phase) k = absurd (cc)
plain_own (fails_at phase) k = absurd (cc)
plain_own ends_all k = absurd (cc)

-- a yard notes an event of a connection
module _ (y : YardState) (e : Event) (old new : Roll) (own : is_connections e ≡ true) (noted : Notes e old new)
    (files : List KeptFile) (w : World) (at : Matches (with_roll y old) files w) where
  may_here : may_happen w.server e ≡ true
  may_here = ap (λ (s : ServerState). may_happen s e) at.server ∙ noted.may

  under_way : (more : List KeptFile) (o : Option Installing) → HasUnderWay w o → HasUnderWay (record w { server = after w.server e; kept = more }) o
  under_way more None has = has
  under_way more (Some s) has = record { number = has.number; under_way = has.under_way; phase = phase_stays w.server e own ∙ has.phase }

  then_matches : (v : World) (more : List KeptFile) → v ≡ record w { server = after w.server e; kept = more } → Matches (with_roll y new) more v
  then_matches v more is = subst (λ (u : World). Matches (with_roll y new) more u) (sym is) (record {
    directory = at.directory;
    rules = at.rules;
    server = ap (λ (s : ServerState). after s e) at.server ∙ sym noted.happens;
    installing = under_way more y.installing at.installing;
    kept = refl;
  })

  goes : MovesBy (effect e) w (next_world w e) → (v : World) × Step w e v × Matches (with_roll y new) files v
  goes moves = (
    next_world w e,
    record { table = is_step w.server e may_here; moves = moves },
    then_matches (next_world w e) files (ap (λ (k : List KeptFile). record w { server = after w.server e; kept = k }) at.kept),
  )

pub plain_leads : (y : YardState) (e : Event) (old new : Roll) → is_plain e ≡ true → Notes e old new
    → LeadsOn e (with_roll y old) (with_roll y new)
plain_leads y e old new plain noted files w at =
    goes y e old new (plain_own (effect e) plain) noted files w at (plainly w (effect e) plain)

-- what stands under the rules name of a world that is the yard's
standing_is : (y : YardState) (files : List KeptFile) (w : World) → Matches y files w → standing w ≡ standing_of y
standing_is y files w at =
    ap (λ (d : Directory). option_and_then (λ (r : RulesName). content d r.name) w.rules) at.directory
    ∙ ap (λ (o : Option RulesName). option_and_then (λ (r : RulesName). content y.directory r.name) o) at.rules

pub opened_leads : (y : YardState) (n : ℕ) (bytes : Option (List ℕ)) (old new : Roll) → bytes ≡ standing_of y
    → Notes (Opened n (is_some bytes)) old new → LeadsOpened n bytes (with_roll y old) (with_roll y new)
opened_leads y n bytes old new found noted files w at =
    let e = Opened n (is_some bytes) in
    let is : bytes ≡ standing w = found ∙ sym (standing_is (with_roll y old) files w at) in
    let v : World = record w { server = after w.server e; kept = files ++ record { serial = n; bytes = bytes } ∷ [] } in
    let kept_more : files ++ record { serial = n; bytes = bytes } ∷ [] ≡ w.kept ++ record { serial = n; bytes = standing w } ∷ [] =
    ap (λ (b : Option (List ℕ)). files ++ record { serial = n; bytes = b } ∷ []) is ∙ ap (λ (k : List KeptFile). k ++ record { serial = n; bytes = standing w } ∷ []) (sym at.kept) in
    let step : Step w e v = record {
      table = is_step w.server e (may_here y e old new refl noted files w at);
      moves = (ap (λ (b : Option (List ℕ)). is_some b) is, ap (λ (k : List KeptFile). record w { server = after w.server e; kept = k }) kept_more);
    } in
    (v, step, then_matches y e old new refl noted files w at v (files ++ record { serial = n; bytes = bytes } ∷ []) refl)

pub decided_leads : (y : YardState) (n : ℕ) (bytes : Option (List ℕ)) (decision : Decision) (peer : Client) (old new : Roll)
    → peer_of n old.server.connections ≡ Some peer
    → decision_from (option_map reading bytes) (missing_by y.rules) peer ≡ Ok decision → Notes (Decided n decision) old new
    → LeadsDecided n bytes decision (with_roll y old) (with_roll y new)
decided_leads y n bytes decision peer old new its is_by_it noted files keeps w at =
    goes y (Decided n decision) old new refl noted files w at (
      bytes,
      peer,
      ap (λ (k : List KeptFile). kept_by n k) at.kept ∙ keeps,
      ap (λ (s : ServerState). peer_of n s.connections) at.server ∙ its,
      ap (λ (o : Option RulesName). decision_from (option_map reading bytes) (missing_by o) peer) at.rules ∙ is_by_it,
      refl,
    )
