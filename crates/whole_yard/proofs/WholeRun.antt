-- A run of a server, beside other processes, is a history of the headline.
use Rattle.std.proofs.Common.{◌≡◌, ◌∙◌, true, ℕ, List, [], ◌∷◌, ◌++◌, Bool, None, Option, Some, inl, inr, refl, sym, ap, subst}
use Rattle.std.specs.Prelude.{is_some, option_and_then, option_map}
use Rattle.cdb_files.specs.Reading.{reading}
use Rattle.rule_lookup.specs.Peers.{Client}
use Rattle.dir_calls.specs.Directory.{content}
use Rattle.server_events.specs.Journals.{Books}
use Rattle.rule_lookup.specs.Decisions.{decision_from}
use Rattle.rule_lookup.specs.declared.decision.Decision.{Decision}
use Rattle.rule_lookup.specs.declared.decision.WhenMissing.{WhenMissing}
use Rattle.headline.specs.Headline.{Reaches}
use Rattle.server_events.specs.Live.{since_stop}
use Rattle.headline.specs.Processes.{ServerSteps, Woven, none, serves, installs, stops, outside, of_server}
use Rattle.server_events.specs.ServerState.{Effect, ServerState, lets_in, opens, decides, brings, lets_go, comes_to, fails_at, ends_all, after, effect, may_happen, may_have, newcomer, stage_of, start, with_effect, with_stage, without, is_connections, of_connections, of_installations, peer_of}
use Rattle.headline.specs.Steps.{MovesBy, none as no_step}
use Rattle.headline.specs.Worlds.{KeptFile, RulesName, World, kept_by, missing_by, missing_in, standing}
use Rattle.server_events.specs.declared.event.Event.{Event}
use Rattle.server_events.specs.declared.event.Stage.{Stage}
use Rattle.server_events.specs.declared.event.Stage.TheVariants as stage
use Rattle.headline.proofs.AllowedSteps.{reached_within}
use Rattle.server_events.proofs.Effects.{Sound, is_admitted-true, is_opened-true, not_opened, sound, is_step}
use Rattle.headline.proofs.InstalledRuns.{legal_then}
use Rattle.server_events.proofs.LiveLemmas.{Tells, tells as tells_of, tells_after}
use Rattle.headline.proofs.Openings.{decided_by_standing, has_its_opening, kept_by-push_found, kept_by-push_own, kept_with, moves_same, waiting_keeps}
use Rattle.server_events.proofs.Peers.{stage_of-peer_of, stage_of-push_is, stage_of-with_stage_is, stage_of-without_is}
use Rattle.server_events.proofs.Serials.{Rise}
use Rattle.headline.proofs.WholeText.{reached_whole}
use Rattle.headline.proofs.WovenSteps.{one_history}
use Rattle.server_yard.specs.Runs.{IsRun}
use Rattle.whole_yard.specs.Findings.{AreByFound, AreInstallations, BeginsRun, FindsWhatStands, Found, InOrderOfFinding, IsByFound, IsHistoryTo, IsPlayedOut}
use Rattle.whole_yard.specs.Serving.{IsServers}
use Rattle.whole_yard.specs.Standing.{Leads, Matches, YardState}
use Rattle.whole_yard.proofs.Besides.{by_itself}
use Rattle.whole_yard.proofs.SoonerOpenings.{MayBeTold, may_be_told, may_be_told_so}
use Rattle.whole_yard.proofs.Told.{nothing_under_way}

-- ---- histories that lead on

-- a history goes on by events woven
reaches_on : {history events : List Event} {w v : World} → Reaches history w → Woven w events v → Reaches (history ++ events) v
reaches_on reached woven = record {
  begin = reached.begin;
  starts = reached.starts;
  legal = legal_then reached.legal (one_history woven);
}

-- what the headline says of it
history_to : (history : List Event) (w : World) → Reaches history w → IsHistoryTo history w
history_to history w reached = record {
  reached = reached;
  keeps = record {
    whole_text = λ r is. reached_whole history w r reached is;
    decisions = λ n decision y step. has_its_opening history w y n decision reached step;
    by_what_stood = λ before u n peer decision first opens its.
        decided_by_standing before u first n w decision opens peer its;
    limit = λ k. reached_within history w reached k;
  };
}

-- ---- others go on without the server

-- no event is both one of a connection and one of an installation
not_both : (x : Effect) → of_connections x ≡ true → of_installations x ≡ true → ⊥
not_both (lets_in n peer) its also = absurd (cc)
not_both (opens n there) its also = absurd (cc)
not_both (decides n decision) its also = absurd (cc)
not_both (brings n from to) its also = absurd (cc)
not_both (lets_go n from) its also = absurd (cc)
not_both (comes_to phase) its also = absurd (cc)
not_both (fails_at phase) its also = absurd (cc)
not_both ends_all its also = absurd (cc)

-- a world in which the server has the same, but for the directory
stays_its : (y : YardState) (files : List KeptFile) (u v : World) → v.rules ≡ u.rules
    → (of_server v).server ≡ (of_server u).server → v.kept ≡ u.kept → IsServers y files u → IsServers y files v
stays_its y files u v rules server kept at = record {
  directory = refl;
  rules = rules ∙ at.rules;
  server = server ∙ at.server;
  installing = nothing_under_way (of_server u) (of_server v) y.installing refl refl at.installing;
  kept = kept ∙ at.kept;
}

-- what the server has stays so
stays : (y : YardState) (files : List KeptFile) {events : List Event} {w v : World} → Woven w events v
    → AreInstallations events → IsServers y files w → IsServers y files v
stays y files none its at = at
stays y files (serves {event = event} made rest) its at = absurd (not_both (effect event) made.its its.0)
stays y files (installs {u} {v} {w} {event} {events} made rest) its at =
    let rules = (moves_same event _ _ made.step.moves).1 in
    let server = ap (λ (s : ServerState). record s { phase = None }) made.others.server in
    stays y files rest its.1 (stays_its y files u v rules server made.others.kept at)
stays y files (stops step rest) its at = absurd (let never = its.0 in cc)
stays y files (outside {u} {v} {w} {events} out rest) its at =
    let rules = ap (λ (x : World). x.rules) out.moves in
    let server = ap (λ (x : World). (of_server x).server) out.moves in
    let kept = ap (λ (x : World). x.kept) out.moves in
    stays y files rest its (stays_its y files u v rules server kept at)

-- what the server has of a world, as its yard would have it
abbrev own_yard : World → YardState
own_yard w = record { directory = w.directory; rules = w.rules; server = (of_server w).server; installing = None }

is_its : (w : World) → IsServers (own_yard w) w.kept w
is_its w = record { directory = refl; rules = refl; server = refl; installing = refl; kept = refl }

still_its : {events : List Event} {w v : World} → Woven w events v → AreInstallations events → IsServers (own_yard w) w.kept v
still_its {w = w} woven its = stays (own_yard w) w.kept woven its (is_its w)

-- ---- what opened connections keep

-- what stands there in a world that is the same to the server
stands_same : (w u : World) → Matches (own_yard w) w.kept u → standing u ≡ standing w
stands_same w u at = λ i. option_and_then (λ (r : RulesName). content (at.directory i) r.name) (at.rules i)

-- what is kept after an event there
kept_same : (x : Effect) (w u : World) → Matches (own_yard w) w.kept u → kept_with u x ≡ kept_with w x
kept_same (opens n there) w u at = λ i. (at.kept i) ++ record { serial = n; bytes = stands_same w u at i } ∷ []
kept_same (lets_in n peer) w u at = at.kept
kept_same (decides n decision) w u at = at.kept
kept_same (brings n from to) w u at = at.kept
kept_same (lets_go n from) w u at = at.kept
kept_same (comes_to phase) w u at = at.kept
kept_same (fails_at phase) w u at = at.kept
kept_same ends_all w u at = refl

module _ (found : Found) where
  -- each connection that has opened the rules, and is not decided yet, keeps what it found
  abbrev KeepsFound : ServerState → List KeptFile → Type 0
  KeepsFound s kept = (n : ℕ) → stage_of n s.connections ≡ Some stage.Opened → kept_by n kept ≡ Some (found n)

  -- what an event does beside its effect on the state, and what connections keep then
  record Moves (x : Effect) (s : ServerState) (w : World) : Type 0 where
    moves : (u : World) → Matches (own_yard w) w.kept u → MovesBy x u (record u { server = with_effect u.server x; kept = kept_with u x })
    keeps : KeepsFound (with_effect s x) (kept_with w x)

  module _ (s : ServerState) (w : World) where
    -- an event by which no connection opens the rules
    brought : (n : ℕ) (t : Stage) → (t ≡ stage.Opened → ⊥) → KeepsFound s w.kept
        → KeepsFound (record s { connections = with_stage n t s.connections }) w.kept
    brought n t other keeps m at =
        elim (stage_of-with_stage_is m n t stage.Opened s.connections at) [ inl before ↦ keeps m before.1 | inr now ↦ absurd (other now.1) ]

    gone : (n : ℕ) → Rise 0 s.connections s.last → KeepsFound s w.kept
        → KeepsFound (record s { connections = without n s.connections }) w.kept
    gone n rise keeps m at = keeps m (stage_of-without_is m n stage.Opened 0 s.connections s.last rise at)

    new_one : (n : ℕ) (peer : Client) → KeepsFound s w.kept
        → KeepsFound (record s { last = n; connections = s.connections ++ newcomer n peer ∷ [] }) w.kept
    new_one n peer keeps m at =
        elim (stage_of-push_is m stage.Opened s.connections (newcomer n peer) at) [ inl before ↦ keeps m before | inr now ↦ absurd (let never = now in cc) ]

    -- a connection opens the rules, and finds what stands there
    opened_now : (n : ℕ) (there : Bool) → kept_by n w.kept ≡ None → FindsWhatStands found (opens n there) w
        → KeepsFound s w.kept → Moves (opens n there) s w
    opened_now n there nothing finds keeps =
        let new : KeptFile = record { serial = n; bytes = standing w } in
        let its = kept_by-push_own n (standing w) w.kept nothing ∙ ap (λ (f : Option (List ℕ)). Some f) (sym finds.0) in
        record {
          moves = λ u at. (finds.1 ∙ ap is_some (sym (stands_same w u at)), refl);
          keeps = λ m at.
              elim (stage_of-with_stage_is m n stage.Opened stage.Opened s.connections at) [
                | inl before ↦ kept_by-push_found m (found m) w.kept new (keeps m before.1)
                | inr now ↦ subst (λ (k : ℕ). kept_by k (w.kept ++ new ∷ []) ≡ Some (found k)) now.0 its
              ];
        }

    -- a connection is decided by what it keeps
    decided_now : (missing : WhenMissing) (n : ℕ) (decision : Decision) → IsByFound found missing s (decides n decision)
        → missing_in w ≡ missing → (of_server w).server ≡ s → stage_of n s.connections ≡ Some stage.Opened → KeepsFound s w.kept
        → Moves (decides n decision) s w
    decided_now missing n decision by decides_so server is_opened keeps =
        let its = stage_of-peer_of n stage.Opened s.connections is_opened in
        record {
          moves = λ u at. (
            found n,
            its.0,
            ap (λ (ks : List KeptFile). kept_by n ks) at.kept ∙ keeps n is_opened,
            ap (λ (t : ServerState). peer_of n t.connections) (at.server ∙ server) ∙ its.1,
            ap (λ (m : WhenMissing). decision_from (option_map reading (found n)) m its.0) (ap missing_by at.rules ∙ decides_so)
                ∙ by its.0 its.1,
            refl,
          );
          keeps = brought n (stage.Decided decision.verdict) (λ never. cc) keeps;
        }

  -- ---- one event

  -- A history has led to a world of a server whose next events are these.
  record Stands (missing : WhenMissing) (done : List Event) (s : ServerState) (history : List Event) (w : World) : Type 0 where
    reached : Reaches history w
    server : (of_server w).server ≡ s
    decides : missing_in w ≡ missing
    told : Tells (since_stop done) s
    keeps : KeepsFound s w.kept

  module _ (missing : WhenMissing) where
    moves_so : (done : List Event) (s : ServerState) (x : Effect) (history : List Event) (w : World) → Stands missing done s history w
        → Sound x → may_have s x ≡ true → of_connections x ≡ true → IsByFound found missing s x → FindsWhatStands found x w → Moves x s w
    moves_so done s (lets_in n peer) history w at is may own by finds =
        record { moves = λ u its. refl; keeps = new_one s w n peer at.keeps }
    moves_so done s (opens n there) history w at is may own by finds =
        let waits = ap (λ (t : ServerState). stage_of n t.connections) at.server ∙ is_admitted-true _ may in
        opened_now s w n there (waiting_keeps history w at.reached n waits) finds at.keeps
    moves_so done s (decides n decision) history w at is may own by finds =
        decided_now s w missing n decision by at.decides at.server (is_opened-true _ may) at.keeps
    moves_so done s (brings n from to) history w at is may own by finds =
        record { moves = λ u its. refl; keeps = brought s w n to (not_opened to is.late) at.keeps }
    moves_so done s (lets_go n from) history w at is may own by finds =
        record { moves = λ u its. refl; keeps = gone s w n at.told.rise at.keeps }
    moves_so done s (comes_to phase) history w at is may own by finds = absurd (let never = own in cc)
    moves_so done s (fails_at phase) history w at is may own by finds = absurd (let never = own in cc)
    moves_so done s ends_all history w at is may own by finds = absurd (let never = own in cc)

    -- the step by an event that the state of the server allows
    leads_by : (w : World) (event : Event) → may_happen (of_server w).server event ≡ true
        → ((u : World) → Matches (own_yard w) w.kept u
        → MovesBy (effect event) u (record u { server = after u.server event; kept = kept_with u (effect event) }))
        → Leads event (own_yard w) w.kept (record (own_yard w) { server = after (of_server w).server event }) (kept_with w (effect event))
    leads_by w event may moves u at =
        let v : World = record u { server = after u.server event; kept = kept_with u (effect event) } in (
          v,
          record {
            table = is_step u.server event (ap (λ (s : ServerState). may_happen s event) at.server ∙ may);
            moves = moves u at;
          },
          record {
            directory = at.directory;
            rules = at.rules;
            server = ap (λ (s : ServerState). after s event) at.server;
            installing = at.installing;
            kept = kept_same (effect event) w u at;
          },
        )

    -- it leads to a world in which the others are next
    record StepsOn (done : List Event) (s : ServerState) (event : Event) (history : List Event) (w : World) : Type 0 where
      v : World
      step : ServerSteps w event v
      on : Stands missing (done ++ event ∷ []) (after s event) (history ++ event ∷ []) v

    steps_on : (done : List Event) (s : ServerState) (event : Event) (history : List Event) (w : World) → Stands missing done s history w
        → may_happen s event ≡ true → is_connections event ≡ true → IsByFound found missing s (effect event)
        → FindsWhatStands found (effect event) w → StepsOn done s event history w
    steps_on done s event history w at may own by finds =
        let goes = moves_so done s (effect event) history w at (sound event) may own by finds in
        let then : YardState = record (own_yard w) { server = after (of_server w).server event } in
        let here : may_happen (of_server w).server event ≡ true = ap (λ (t : ServerState). may_happen t event) at.server ∙ may in
        let more = kept_with w (effect event) in
        let to = by_itself w (own_yard w) then w.kept more event own (is_its w) (leads_by w event here goes.moves) in
        record {
          v = to.0;
          step = to.1;
          on = record {
            reached = reaches_on at.reached (serves to.1 none);
            server = to.2.server ∙ ap (λ (t : ServerState). after t event) at.server;
            decides = ap missing_by to.2.rules ∙ at.decides;
            told = tells_after done s event may at.told;
            keeps = subst (λ (ks : List KeptFile). KeepsFound (after s event) ks) (sym to.2.kept) goes.keeps;
          };
        }

    -- others go on without the server
    stands_still : {done : List Event} {s : ServerState} {history others : List Event} {w v : World}
        → Stands missing done s history w → Woven w others v → AreInstallations others → Stands missing done s (history ++ others) v
    stands_still {done} {s} {history} {others} {w} {v} at woven its =
        let same = still_its woven its in
        record {
          reached = reaches_on at.reached woven;
          server = same.server ∙ at.server;
          decides = ap missing_by same.rules ∙ at.decides;
          told = at.told;
          keeps = subst (λ (ks : List KeptFile). KeepsFound s ks) (sym same.kept) at.keeps;
        }

    -- ---- the whole run

    played : (done : List Event) (s : ServerState) (events : List Event) (history : List Event) (w : World)
        → MayBeTold found missing s events → Stands missing done s history w → IsPlayedOut found events history w
    played done s [] history w told at =
        λ others v without. history_to (history ++ others) v (reaches_on at.reached without.woven)
    played done s (event ∷ events) history w told at =
        λ others v without.
        let there = stands_still at without.woven without.installs in (
          history_to (history ++ others) v there.reached,
          λ finds.
              let to = steps_on done s event (history ++ others) v there told.0 told.1 told.2 finds in (
                to.v,
                to.step,
                played (done ++ event ∷ []) (after s event) events ((history ++ others) ++ event ∷ []) to.v told.3 to.on,
              ),
        )

pub whole_run : (books : Books) (server : ServerState) (events order : List Event) (found : Found) (missing : WhenMissing) (w : World)
    → IsRun books server events → AreByFound found missing (start server.limit server.per_address) events
    → InOrderOfFinding events order → BeginsRun missing server.limit server.per_address w → IsPlayedOut found order [] w
whole_run books server events order found missing w run by in_order begins =
    let first = start server.limit server.per_address in
    let reached : Reaches [] w = record { begin = w; starts = begins.starts; legal = no_step } in
    let told = may_be_told_so found missing in_order first (may_be_told found missing first events run.legal run.connections by) in
    played found missing [] first order [] w told (record {
      reached = reached;
      server = ap (λ (s : ServerState). record s { phase = None }) begins.empty;
      decides = begins.decides;
      told = tells_of server.limit server.per_address [] refl;
      keeps = λ n at. absurd (let never = at in cc);
    })
