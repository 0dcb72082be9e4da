-- Each decision is by what stood when its connection opened the rules.
use Rattle.std.proofs.Common.{◌≡◌, ℕ, ◌+◌, ◌<◌, ◌≤◌, Bool, List, [], ◌∷◌, ◌++◌, true, false, ◌==◌, Option, Some, None, Ok, inl, inr, refl, sym, ap, ◌∙◌, subst, arith, append-nil, append_assoc, eq-eqb}
use Rattle.std.specs.Prelude.{◌⊎◌, if◌then◌else◌, option_map}
use Rattle.std.proofs.lemmas.Bool.Decides.{nat_tests}
use Rattle.cdb_files.specs.Reading.{reading}
use Rattle.rule_lookup.specs.Pairs.{Rule}
use Rattle.rule_lookup.specs.Decisions.{decision_from}
use Rattle.rule_lookup.specs.Peers.{Client}
use Rattle.rule_lookup.specs.declared.decision.Decision.{Decision}
use Rattle.dir_calls.specs.declared.phase.Phase.{Phase}
use Rattle.dir_calls.specs.declared.phase.Phase.TheVariants.{Fresh, Filling, Synced, Named, Done}
use Rattle.child_jobs.specs.Child.{environment_of}
use Rattle.server_events.specs.declared.event.Stage.{Stage}
use Rattle.server_events.specs.declared.event.Stage.TheVariants as stage
use Rattle.server_events.specs.declared.event.Event.{Event}
use Rattle.server_events.specs.declared.event.Event.TheVariants.{Admitted, Opened, Decided}
use Rattle.server_events.specs.declared.state.Connection.{Connection}
use Rattle.headline.specs.Headline.{HasItsOpening, IsDecidedAt, OpensAndDecides, Reaches, decision_by}
use Rattle.server_events.specs.ServerState.{ServerState, after, newcomer, stage_of, with_stage, without, Effect, lets_in, opens, decides, brings, lets_go, comes_to, fails_at, ends_all, effect, may_have, with_effect, peer_of}
use Rattle.headline.specs.Steps.{Advances, Legal, Moves, Outside, Step, none, more, beside, MovesBy}
use Rattle.headline.specs.Worlds.{IsStart, KeptFile, RulesName, StandsFor, World, kept_by, missing_by, missing_in, standing}
use Rattle.server_events.proofs.History.{room_for}
use Rattle.headline.proofs.InstalledRuns.{decided_by_file, legal_then}
use Rattle.server_events.proofs.Effects.{IsEventOf, Sound, is_admitted-true, its_event, is_opened-true, not_admitted, not_opened, sound, step_is}
use Rattle.server_events.proofs.Peers.{stage_of-peer_of, stage_of-with_stage_is, peer_of-with_stage, peer_of-without_other, peer_of-without, stage_of-without_is, stage_of-push_other, peer_of-push_other, stage_of-push_is}
use Rattle.server_events.proofs.Serials.{Rise, Rise-push, Rise-with_stage, Rise-without, stage_of-le}
use Rattle.headline.proofs.WholeText.{reached_standing}

-- ---- what connections keep

pub kept_by-push_found : (n : ℕ) (bytes : Option (List ℕ)) (ks : List KeptFile) (k : KeptFile) → kept_by n ks ≡ Some bytes → kept_by n (ks ++ k ∷ []) ≡ Some bytes
kept_by-push_found n bytes [] k e = absurd (cc)
kept_by-push_found n bytes (x ∷ ks) k e =
    elim (x.serial == n) as (λ b. (if b then Some x.bytes else kept_by n ks) ≡ Some bytes → (if b then Some x.bytes else kept_by n (ks ++ k ∷ [])) ≡ Some bytes) [
      | true ↦ λ here. here
      | false ↦ λ later. kept_by-push_found n bytes ks k later
    ] e

pub kept_by-push_other : (n : ℕ) (ks : List KeptFile) (k : KeptFile) → (k.serial == n) ≡ false → kept_by n (ks ++ k ∷ []) ≡ kept_by n ks
kept_by-push_other n [] k other = rw other
kept_by-push_other n (x ∷ ks) k other =
    ap (λ (o : Option (Option (List ℕ))). if x.serial == n then Some x.bytes else o) (kept_by-push_other n ks k other)

-- who kept nothing before keeps what comes
pub kept_by-push_own : (n : ℕ) (bytes : Option (List ℕ)) (ks : List KeptFile) → kept_by n ks ≡ None → kept_by n (ks ++ record { serial = n; bytes = bytes } ∷ []) ≡ Some bytes
kept_by-push_own n bytes [] e = rw (eq-eqb n n refl)
kept_by-push_own n bytes (x ∷ ks) e =
    elim (x.serial == n) as (λ b. (if b then Some x.bytes else kept_by n ks) ≡ None → (if b then Some x.bytes else kept_by n (ks ++ record { serial = n; bytes = bytes } ∷ [])) ≡ Some bytes) [
      | true ↦ λ here. absurd (cc)
      | false ↦ λ later. kept_by-push_own n bytes ks later
    ] e

-- what is kept after an event
abbrev pub kept_with : World → Effect → List KeptFile
kept_with w (opens n there) = w.kept ++ record { serial = n; bytes = standing w } ∷ []
kept_with w ends_all = []
kept_with w _ = w.kept

abbrev pub kept_after : World → Event → List KeptFile
kept_after w event = kept_with w (effect event)

-- a step of an installation leaves what is kept, and the rules name
advance_same : (phase : Phase) (w v : World) → Advances phase w v → (v.kept ≡ w.kept) × (v.rules ≡ w.rules)
advance_same Fresh w v a = (ap (λ (x : World). x.kept) a.6, ap (λ (x : World). x.rules) a.6)
advance_same Filling w v a = (ap (λ (x : World). x.kept) a.2, ap (λ (x : World). x.rules) a.2)
advance_same Synced w v a = (ap (λ (x : World). x.kept) a.4, ap (λ (x : World). x.rules) a.4)
advance_same Named w v a = (ap (λ (x : World). x.kept) a.4, ap (λ (x : World). x.rules) a.4)
advance_same Done w v a = (ap (λ (x : World). x.kept) a.3, ap (λ (x : World). x.rules) a.3)

-- each step has what is kept after its event, and leaves the rules name
pub same_by : (x : Effect) (w v : World) → MovesBy x w v → (v.kept ≡ kept_with w x) × (v.rules ≡ w.rules)
same_by (lets_in n peer) w v m = (ap (λ (x : World). x.kept) m, ap (λ (x : World). x.rules) m)
same_by (opens n there) w v m = (ap (λ (x : World). x.kept) m.1, ap (λ (x : World). x.rules) m.1)
same_by (decides n decision) w v m = (ap (λ (x : World). x.kept) m.5, ap (λ (x : World). x.rules) m.5)
same_by (brings n from to) w v m = (ap (λ (x : World). x.kept) m, ap (λ (x : World). x.rules) m)
same_by (lets_go n from) w v m = (ap (λ (x : World). x.kept) m, ap (λ (x : World). x.rules) m)
same_by (comes_to phase) w v m = advance_same phase w v m
same_by (fails_at phase) w v m = (ap (λ (x : World). x.kept) m.3, ap (λ (x : World). x.rules) m.3)
same_by ends_all w v m = (ap (λ (x : World). x.kept) m.1, ap (λ (x : World). x.rules) m.1)

pub moves_same : (event : Event) (w v : World) → Moves event w v → (v.kept ≡ kept_after w event) × (v.rules ≡ w.rules)
moves_same event w v m = same_by (effect event) w v m

-- ---- what holds in each world

-- the serials rise; and neither a connection that waits for its opening nor one that is still to come keeps anything
record Orderly (s : ServerState) (kept : List KeptFile) : Type 0 where
  rise : Rise 0 s.connections s.last
  waiting : (n : ℕ) → stage_of n s.connections ≡ Some stage.Admitted → kept_by n kept ≡ None
  to_come : (n : ℕ) → s.last < n → kept_by n kept ≡ None

-- with a newcomer
orderly_admitted : (s : ServerState) (kept : List KeptFile) (m : ℕ) (peer : Client) → m ≡ s.last + 1 → Orderly s kept → Orderly (after s (Admitted m peer)) kept
orderly_admitted s kept m peer next h =
    let below : s.last < m = omega arith in
    record {
      rise = Rise-push 0 s.connections s.last (newcomer m peer) h.rise below;
      waiting = λ n at.
          elim (m == n) as (λ b. (m == n) ≡ b → kept_by n kept ≡ None) [
            | true ↦ λ same. h.to_come n (grind (arith, nat_tests, same, below))
            | false ↦ λ other. h.waiting n (sym (stage_of-push_other n s.connections (newcomer m peer) other) ∙ at)
          ] refl;
      to_come = λ n above. h.to_come n (omega (arith, above, below));
    }

-- with another stage of one of them
orderly_stage : (s : ServerState) (kept : List KeptFile) (m : ℕ) (t : Stage) → (t ≡ stage.Admitted → ⊥) → Orderly s kept → Orderly (record s { connections = with_stage m t s.connections }) kept
orderly_stage s kept m t not h = record {
  rise = Rise-with_stage m t 0 s.connections s.last h.rise;
  waiting = λ n at.
      elim (stage_of-with_stage_is n m t stage.Admitted s.connections at) [ inl before ↦ h.waiting n before.1 | inr now ↦ absurd (not now.1) ];
  to_come = h.to_come;
}

-- without one of them
orderly_gone : (s : ServerState) (kept : List KeptFile) (m : ℕ) → Orderly s kept → Orderly (record s { connections = without m s.connections }) kept
orderly_gone s kept m h = record {
  rise = Rise-without m 0 s.connections s.last h.rise;
  waiting = λ n at. h.waiting n (stage_of-without_is n m stage.Admitted 0 s.connections s.last h.rise at);
  to_come = h.to_come;
}

-- one of them opened the rules
orderly_opened : (s : ServerState) (kept : List KeptFile) (m : ℕ) (bytes : Option (List ℕ)) → stage_of m s.connections ≡ Some stage.Admitted → Orderly s kept → Orderly (record s { connections = with_stage m stage.Opened s.connections }) (kept ++ record { serial = m; bytes = bytes } ∷ [])
orderly_opened s kept m bytes here h =
    let new : KeptFile = record { serial = m; bytes = bytes } in
    let up_to : m ≤ s.last = stage_of-le m stage.Admitted 0 s.connections s.last h.rise here in
    record {
      rise = Rise-with_stage m stage.Opened 0 s.connections s.last h.rise;
      waiting = λ n at.
          elim (stage_of-with_stage_is n m stage.Opened stage.Admitted s.connections at) [
            | inl before ↦ kept_by-push_other n kept new before.0 ∙ h.waiting n before.1
            | inr now ↦ absurd (let never = now.1 in cc)
          ];
      to_come = λ n above.
          let other : (m == n) ≡ false = grind (arith, nat_tests, up_to, above) in
          kept_by-push_other n kept new other ∙ h.to_come n above;
    }

-- after each event that may happen
orderly_with : (w : World) (x : Effect) → Sound x → may_have w.server x ≡ true → Orderly w.server w.kept → Orderly (with_effect w.server x) (kept_with w x)
orderly_with w (lets_in n peer) its may h = orderly_admitted w.server w.kept n peer (room_for w.server n peer may).next h
orderly_with w (opens n there) its may h = orderly_opened w.server w.kept n (standing w) (is_admitted-true _ may) h
orderly_with w (decides n decision) its may h = orderly_stage w.server w.kept n (stage.Decided decision.verdict) (λ e. cc) h
orderly_with w (brings n from to) its may h = orderly_stage w.server w.kept n to (not_admitted to its.late) h
orderly_with w (lets_go n from) its may h = orderly_gone w.server w.kept n h
orderly_with w (comes_to phase) its may h = record { rise = h.rise; waiting = h.waiting; to_come = h.to_come }
orderly_with w (fails_at phase) its may h = record { rise = h.rise; waiting = h.waiting; to_come = h.to_come }
orderly_with w ends_all its may h = record { rise = omega arith; waiting = λ n at. refl; to_come = λ n above. refl }

-- what holds after the event holds after a step by it
moved : (P : ServerState → List KeptFile → Type 0) (w v : World) (event : Event) → Step w event v → P (after w.server event) (kept_after w event) → P v.server v.kept
moved P w v event step h =
    let server = subst (λ (s : ServerState). P s (kept_after w event)) (sym (step_is step.table).1) h in
    subst (λ (ks : List KeptFile). P v.server ks) (sym (moves_same event w v step.moves).0) server

orderly_step : (w v : World) (event : Event) → Step w event v → Orderly w.server w.kept → Orderly v.server v.kept
orderly_step w v event step h = moved Orderly w v event step (orderly_with w (effect event) (sound event) (step_is step.table).0 h)

-- a step of others leaves what connections are and keep
same_side : (P : ServerState → List KeptFile → Type 0) (w v : World) → Outside w v → P w.server w.kept → P v.server v.kept
same_side P w v out h =
    subst (λ (ks : List KeptFile). P v.server ks) (sym (ap (λ (x : World). x.kept) out.moves))
    (subst (λ (s : ServerState). P s w.kept) (sym (ap (λ (x : World). x.server) out.moves)) h)

orderly_run : {v w : World} {history : List Event} → Legal v history w → Orderly v.server v.kept → Orderly w.server w.kept
orderly_run none h = h
orderly_run (more {u} {v} {w} {event} {events} step rest) h = orderly_run rest (orderly_step u v event step h)
orderly_run (beside {u} {v} out rest) h = orderly_run rest (same_side Orderly u v out h)

orderly_start : (w : World) → IsStart w → Orderly w.server w.kept
orderly_start w is =
    let first : Orderly (record { limit = w.server.limit; per_address = w.server.per_address; last = 0; connections = []; phase = None }) [] = record { rise = omega arith; waiting = λ n at. refl; to_come = λ n above. refl } in
    subst (λ (ks : List KeptFile). Orderly w.server ks) (sym is.kept) (subst (λ (s : ServerState). Orderly s []) (sym is.server) first)

orderly_reached : (history : List Event) (w : World) → Reaches history w → Orderly w.server w.kept
orderly_reached history w reaches = orderly_run reaches.legal (orderly_start reaches.begin reaches.starts)

-- who waits for its opening keeps nothing
pub waiting_keeps : (history : List Event) (w : World) → Reaches history w → (n : ℕ) → stage_of n w.server.connections ≡ Some stage.Admitted → kept_by n w.kept ≡ None
waiting_keeps history w reaches n here = (orderly_reached history w reaches).waiting n here

-- ---- once a connection has opened the rules

-- the connection is gone, or has its peer and keeps what it opened
record Carries (n : ℕ) (peer : Client) (bytes : Option (List ℕ)) (s : ServerState) (kept : List KeptFile) : Type 0 where
  old : n ≤ s.last
  here : (peer_of n s.connections ≡ None) ⊎ ((peer_of n s.connections ≡ Some peer) × (kept_by n kept ≡ Some bytes))

module _ (n : ℕ) (peer : Client) (bytes : Option (List ℕ)) (s : ServerState) (kept : List KeptFile) (h : Carries n peer bytes s kept) where
  -- where connections and what they keep change, and it keeps its peer and that
  carries_same : (last : ℕ) (cs : List Connection) (limit per_address : ℕ) (phase : Option Phase) (ks : List KeptFile)
      → n ≤ last → peer_of n cs ≡ peer_of n s.connections → (kept_by n kept ≡ Some bytes → kept_by n ks ≡ Some bytes)
      → Carries n peer bytes (record { limit = limit; per_address = per_address; last = last; connections = cs; phase = phase }) ks
  carries_same last cs limit per_address phase ks up_to same keeps = record {
    old = up_to;
    here = elim h.here [ inl gone ↦ inl (same ∙ gone) | inr there ↦ inr (same ∙ there.0, keeps there.1) ];
  }

  carries_stage : (m : ℕ) (t : Stage) → Carries n peer bytes (record s { connections = with_stage m t s.connections }) kept
  carries_stage m t = carries_same s.last (with_stage m t s.connections) s.limit s.per_address s.phase kept h.old (peer_of-with_stage n m t s.connections) (λ e. e)

  carries_gone : (m : ℕ) → Rise 0 s.connections s.last → Carries n peer bytes (record s { connections = without m s.connections }) kept
  carries_gone m rise =
      elim (m == n) as (λ b. (m == n) ≡ b → Carries n peer bytes (record s { connections = without m s.connections }) kept) [
        | true ↦ λ same.
            let it : n ≡ m = grind (arith, nat_tests, same) in
            let gone = peer_of-without n 0 s.connections s.last rise in
            record { old = h.old; here = inl (ap (λ (k : ℕ). peer_of n (without k s.connections)) (sym it) ∙ gone) }
        | false ↦ λ other. carries_same s.last (without m s.connections) s.limit s.per_address s.phase kept h.old (peer_of-without_other n m s.connections other) (λ e. e)
      ] refl

  carries_admitted : (m : ℕ) (p : Client) → m ≡ s.last + 1 → Carries n peer bytes (after s (Admitted m p)) kept
  carries_admitted m p next =
      let up_to = h.old in
      let other : (m == n) ≡ false = grind (arith, nat_tests, next, up_to) in
      carries_same m (s.connections ++ newcomer m p ∷ []) s.limit s.per_address s.phase kept (omega arith) (peer_of-push_other n s.connections (newcomer m p) other) (λ e. e)

carries_with : (n : ℕ) (peer : Client) (bytes : Option (List ℕ)) (w : World) (x : Effect) → may_have w.server x ≡ true → Rise 0 w.server.connections w.server.last → Carries n peer bytes w.server w.kept → Carries n peer bytes (with_effect w.server x) (kept_with w x)
carries_with n peer bytes w (lets_in m p) may rise h = carries_admitted n peer bytes w.server w.kept h m p (room_for w.server m p may).next
carries_with n peer bytes w (opens m there) may rise h =
    let s = w.server in
    let new : KeptFile = record { serial = m; bytes = standing w } in
    carries_same n peer bytes s w.kept h s.last (with_stage m stage.Opened s.connections) s.limit s.per_address s.phase (w.kept ++ new ∷ []) h.old (peer_of-with_stage n m stage.Opened s.connections) (λ e. kept_by-push_found n bytes w.kept new e)
carries_with n peer bytes w (decides m decision) may rise h = carries_stage n peer bytes w.server w.kept h m (stage.Decided decision.verdict)
carries_with n peer bytes w (brings m from to) may rise h = carries_stage n peer bytes w.server w.kept h m to
carries_with n peer bytes w (lets_go m from) may rise h = carries_gone n peer bytes w.server w.kept h m rise
carries_with n peer bytes w (comes_to phase) may rise h = record { old = h.old; here = h.here }
carries_with n peer bytes w (fails_at phase) may rise h = record { old = h.old; here = h.here }
carries_with n peer bytes w ends_all may rise h = record { old = h.old; here = inl refl }

-- Through a list of steps it is gone or carries the same, and the rules name is the same.
carries_run : (n : ℕ) (peer : Client) (bytes : Option (List ℕ)) {u x : World} {events : List Event} → Legal u events x → Orderly u.server u.kept → Carries n peer bytes u.server u.kept → Carries n peer bytes x.server x.kept × (x.rules ≡ u.rules)
carries_run n peer bytes none order h = (h, refl)
carries_run n peer bytes (more {u} {v} {w} {event} {events} step rest) order h =
    let next = moved (λ (s : ServerState) (ks : List KeptFile). Carries n peer bytes s ks) u v event step (carries_with n peer bytes u (effect event) (step_is step.table).0 order.rise h) in
    let later = carries_run n peer bytes rest (orderly_step u v event step order) next in
    (later.0, later.1 ∙ (moves_same event u v step.moves).1)
carries_run n peer bytes (beside {u} {v} out rest) order h =
    let later = carries_run n peer bytes rest (same_side Orderly u v out order) (same_side (λ (s : ServerState) (ks : List KeptFile). Carries n peer bytes s ks) u v out h) in
    (later.0, later.1 ∙ ap (λ (x : World). x.rules) out.moves)

-- ---- the decision

-- what stands for a text decides as the text does
decided_by_text : (w : World) (peer : Client) (bytes : Option (List ℕ)) (text : Option (List Rule)) → StandsFor text bytes → decision_from (option_map reading bytes) (missing_in w) peer ≡ Ok (decision_by text w peer)
decided_by_text w peer bytes None stands = ap (λ (b : Option (List ℕ)). decision_from (option_map reading b) (missing_in w) peer) stands
decided_by_text w peer bytes (Some rules) stands =
    ap (λ (b : Option (List ℕ)). decision_from (option_map reading b) (missing_in w) peer) stands.1 ∙ decided_by_file rules stands.0 peer stands.2

module _ (before : List Event) (u : World) (reaches : Reaches before u) (n : ℕ) (x : World) (decision : Decision) (opens : OpensAndDecides n u x decision) (peer : Client) (its : peer_of n u.server.connections ≡ Some peer) where
  order : Orderly u.server u.kept
  order = orderly_reached before u reaches

  waited : stage_of n u.server.connections ≡ Some stage.Admitted
  waited = is_admitted-true _ (step_is opens.opens.table).0

  carries : Carries n peer (standing u) opens.opened.server opens.opened.kept
  carries =
      moved (λ (s : ServerState) (ks : List KeptFile). Carries n peer (standing u) s ks) u opens.opened (Opened n opens.there) opens.opens (record {
        old = stage_of-le n stage.Admitted 0 u.server.connections u.server.last order.rise waited;
        here = inr (peer_of-with_stage n n stage.Opened u.server.connections ∙ its, kept_by-push_own n (standing u) u.kept (order.waiting n waited));
      })

  later : Carries n peer (standing u) x.server x.kept × (x.rules ≡ u.rules)
  later = (let run = carries_run n peer (standing u) opens.goes_on (orderly_step u opens.opened (Opened n opens.there) opens.opens order) carries in (run.0, run.1 ∙ (moves_same (Opened n opens.there) u opens.opened opens.opens.moves).1))

  -- the decision is by what stood in u
  decided_then : decision_from (option_map reading (standing u)) (missing_in u) peer ≡ Ok decision
  decided_then =
      let moves = opens.decides.moves in
      elim later.0.here [
        | inl gone ↦ (let there = moves.3 in absurd (cc))
        | inr there ↦
            let kept : moves.0 ≡ standing u = (let a = moves.2 in let b = there.1 in cc) in
            let same : moves.1 ≡ peer = (let a = moves.3 in let b = there.0 in cc) in
            ap (λ (b : Option (List ℕ)). decision_from (option_map reading b) (missing_in u) peer) (sym kept)
            ∙ ap (λ (p : Client). decision_from (option_map reading moves.0) (missing_in u) p) (sym same)
            ∙ ap (λ (r : Option RulesName). decision_from (option_map reading moves.0) (missing_by r) moves.1) (sym later.1)
            ∙ moves.4
      ]

  -- By what stood in u its connection was decided.
  pub decided_by_standing : IsDecidedAt u peer decision
  decided_by_standing =
      let stood = reached_standing before u reaches in
      let by_text = decided_by_text u peer (standing u) stood.text stood.stands in
      let same : decision ≡ decision_by stood.text u peer = (let by = decided_then in cc) in
      record {
        stood = stood;
        decides = same;
        tells = λ inherited local. ap (λ (d : Decision). environment_of inherited local peer d) same;
      }

-- ---- the opening of a decided connection

-- where a connection is opened after an event, it was before, or this was its opening
opened_by : (s : ServerState) (kept : List KeptFile) (event : Event) (x : Effect) (n : ℕ) → IsEventOf x event → Sound x → Orderly s kept → stage_of n (with_effect s x).connections ≡ Some stage.Opened → (stage_of n s.connections ≡ Some stage.Opened) ⊎ ((there : Bool) × (event ≡ Opened n there))
opened_by s kept event (lets_in m peer) n is its order e =
    elim (stage_of-push_is n stage.Opened s.connections (newcomer m peer) e) [ inl before ↦ inl before | inr never ↦ absurd (cc) ]
opened_by s kept event (opens m there) n is its order e =
    elim (stage_of-with_stage_is n m stage.Opened stage.Opened s.connections e) [ inl before ↦ inl before.1 | inr now ↦ inr (there, is ∙ ap (λ (k : ℕ). Opened k there) now.0) ]
opened_by s kept event (decides m decision) n is its order e =
    elim (stage_of-with_stage_is n m (stage.Decided decision.verdict) stage.Opened s.connections e) [ inl before ↦ inl before.1 | inr now ↦ absurd (let never = now.1 in cc) ]
opened_by s kept event (brings m from to) n is its order e =
    elim (stage_of-with_stage_is n m to stage.Opened s.connections e) [ inl before ↦ inl before.1 | inr now ↦ absurd (not_opened to its.late now.1) ]
opened_by s kept event (lets_go m from) n is its order e = inl (stage_of-without_is n m stage.Opened 0 s.connections s.last order.rise e)
opened_by s kept event (comes_to phase) n is its order e = inl e
opened_by s kept event (fails_at phase) n is its order e = inl e
opened_by s kept event ends_all n is its order e = absurd (cc)

-- the opening of a connection in a history that leads to a world
record Opening (history : List Event) (n : ℕ) (x : World) : Type 0 where
  before : List Event
  u : World
  reached : Reaches before u
  there : Bool
  opened : World
  between : List Event
  opens : Step u (Opened n there) opened
  goes_on : Legal opened between x
  is_history : history ≡ before ++ Opened n there ∷ between

pub reaches_next : (before : List Event) (u v : World) (event : Event) → Reaches before u → Step u event v → Reaches (before ++ event ∷ []) v
reaches_next before u v event reaches step = record { begin = reaches.begin; starts = reaches.starts; legal = legal_then reaches.legal (more step none) }

reaches_beside : (before : List Event) (u v : World) → Reaches before u → Outside u v → Reaches before v
reaches_beside before u v reaches out =
    subst (λ (h : List Event). Reaches h v) (append-nil before) (record { begin = reaches.begin; starts = reaches.starts; legal = legal_then reaches.legal (beside out none) })

-- Who is opened in a world was so in any world before it, or has its opening between.
opening_between : (n : ℕ) (before : List Event) {u x : World} {events : List Event} → Reaches before u → Legal u events x → stage_of n x.server.connections ≡ Some stage.Opened → (stage_of n u.server.connections ≡ Some stage.Opened) ⊎ Opening (before ++ events) n x
opening_between n before reaches none e = inl e
opening_between n before reaches (more {u} {v} {w} {event} {events} step rest) e =
    elim (opening_between n (before ++ event ∷ []) (reaches_next before u v event reaches step) rest e) [
      | inr between ↦ inr (subst (λ (h : List Event). Opening h n w) (append_assoc before (event ∷ []) events) between)
      | inl after_it ↦
          let happened = step_is step.table in
          let at : stage_of n (after u.server event).connections ≡ Some stage.Opened = ap (λ (s : ServerState). stage_of n s.connections) (sym happened.1) ∙ after_it in
          elim (opened_by u.server u.kept event (effect event) n (its_event event) (sound event) (orderly_reached before u reaches) at) [
            | inl earlier ↦ inl earlier
            | inr now ↦ inr (record {
              before = before;
              u = u;
              reached = reaches;
              there = now.0;
              opened = v;
              between = events;
              opens = subst (λ (a : Event). Step u a v) now.1 step;
              goes_on = rest;
              is_history = ap (λ (a : Event). before ++ a ∷ events) now.1;
            })
          ]
    ]
opening_between n before reaches (beside {u} {v} {w} {events} out rest) e =
    elim (opening_between n before (reaches_beside before u v reaches out) rest e) [
      | inr between ↦ inr between
      | inl after_it ↦ inl (ap (λ (x : World). stage_of n x.server.connections) (sym out.moves) ∙ after_it)
    ]

opening_reached : (history : List Event) (x : World) (n : ℕ) → Reaches history x → stage_of n x.server.connections ≡ Some stage.Opened → Opening history n x
opening_reached history x n reaches e =
    let at_start : Reaches [] reaches.begin = record { begin = reaches.begin; starts = reaches.starts; legal = none } in
    elim (opening_between n [] at_start reaches.legal e) [
      | inl never ↦
          let empty : stage_of n reaches.begin.server.connections ≡ None = ap (λ (s : ServerState). stage_of n s.connections) reaches.starts.server in
          absurd (cc)
      | inr found ↦ found
    ]

-- A decision has its opening, and is by what stood then.
pub has_its_opening : (history : List Event) (x y : World) (n : ℕ) (decision : Decision) → Reaches history x → Step x (Decided n decision) y → HasItsOpening history n x decision
has_its_opening history x y n decision reaches step =
    let found = opening_reached history x n reaches (is_opened-true _ (step_is step.table).0) in
    let waited : stage_of n found.u.server.connections ≡ Some stage.Admitted = is_admitted-true _ (step_is found.opens.table).0 in
    let its = stage_of-peer_of n stage.Admitted found.u.server.connections waited in
    let opens : OpensAndDecides n found.u x decision = record { there = found.there; opened = found.opened; between = found.between; decided = y; opens = found.opens; goes_on = found.goes_on; decides = step } in
    record {
      before = found.before;
      u = found.u;
      reached = found.reached;
      opens = opens;
      is_history = found.is_history;
      peer = its.0;
      is_its = its.1;
      by_it = decided_by_standing found.before found.u found.reached n x decision opens its.0 its.1;
    }
