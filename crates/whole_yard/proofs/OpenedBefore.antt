-- An opening may be moved before events of others, to the moment at which it found what it did.
use Rattle.std.proofs.Common.{◌≡◌, ◌≢◌, ℕ, ◌+◌, List, [], ◌∷◌, ◌++◌, length, true, false, ◌==◌, ◌&&◌, not, Option, Some, None, refl, sym, ap, ◌∙◌, subst, arith}
use Rattle.std.specs.Prelude.{if◌then◌else◌, nat_lt}
use Rattle.std.proofs.lemmas.Bool.Decides.{nat_tests}
use Rattle.dir_calls.specs.declared.phase.Phase.{Phase}
use Rattle.dir_calls.specs.declared.phase.Phase.TheVariants.{Fresh, Filling, Synced, Named, Done}
use Rattle.server_events.specs.declared.event.Stage.{Stage}
use Rattle.server_events.specs.declared.event.Stage.TheVariants as stage
use Rattle.server_events.specs.declared.event.Event.{Event}
use Rattle.server_events.specs.declared.event.Event.TheVariants.{Opened}
use Rattle.server_events.specs.declared.state.Connection.{Connection}
use Rattle.headline.specs.Headline.{Reaches}
use Rattle.headline.specs.Processes.{Woven}
use Rattle.server_events.specs.ServerState.{Effect, ServerState, lets_in, opens, decides, brings, lets_go, comes_to, fails_at, ends_all, after, count_from, effect, is_admitted, is_opened, may_have, newcomer, stage_of, with_effect, with_stage, without, Happens}
use Rattle.headline.specs.Steps.{Advances, Legal, MovesBy, Outside, Step, none, more, beside}
use Rattle.headline.specs.Taken.{is_there}
use Rattle.headline.specs.Worlds.{KeptFile, World, kept_by, standing}
use Rattle.server_events.proofs.Limits.{count_from-with_stage, length-with_stage}
use Rattle.headline.proofs.Openings.{kept_by-push_found, kept_by-push_other, kept_by-push_own, kept_with, same_by, waiting_keeps}
use Rattle.server_events.proofs.Peers.{peer_of-with_stage, stage_of-with_stage_other, stage_of-without_other}
use Rattle.server_events.proofs.Effects.{is_step, step_is}
use Rattle.headline.proofs.WovenSteps.{its_parts, one_history}
use Rattle.whole_yard.specs.Telling.{AreApart, apart_by, is_apart}

-- ---- changes of two connections, in either order

with_stage-swap : (n m : ℕ) (s t : Stage) (cs : List Connection) → (m == n) ≡ false
    → with_stage m t (with_stage n s cs) ≡ with_stage n s (with_stage m t cs)
with_stage-swap n m s t [] other = refl
with_stage-swap n m s t (c ∷ cs) other =
    elim (c.serial == n) as (λ b. (c.serial == n) ≡ b → with_stage m t (if b then ((record c { stage = s }) ∷ cs) else (c ∷ with_stage n s cs)) ≡ with_stage n s (if c.serial == m then ((record c { stage = t }) ∷ cs) else (c ∷ with_stage m t cs))) [
      | true ↦ λ same. (let no : (c.serial == m) ≡ false = grind (arith, nat_tests, same, other) in rw (no, same))
      | false ↦ λ apart.
          elim (c.serial == m) as (λ b. (if b then ((record c { stage = t }) ∷ with_stage n s cs) else (c ∷ with_stage m t (with_stage n s cs))) ≡ with_stage n s (if b then ((record c { stage = t }) ∷ cs) else (c ∷ with_stage m t cs))) [
            | true ↦ rw apart
            | false ↦ rw apart (ap (λ (xs : List Connection). c ∷ xs) (with_stage-swap n m s t cs other))
          ]
    ] refl

with_stage-without : (n m : ℕ) (s : Stage) (cs : List Connection) → (m == n) ≡ false → without m (with_stage n s cs) ≡ with_stage n s (without m cs)
with_stage-without n m s [] other = refl
with_stage-without n m s (c ∷ cs) other =
    elim (c.serial == n) as (λ b. (c.serial == n) ≡ b → without m (if b then ((record c { stage = s }) ∷ cs) else (c ∷ with_stage n s cs)) ≡ with_stage n s (if c.serial == m then cs else (c ∷ without m cs))) [
      | true ↦ λ same. (let no : (c.serial == m) ≡ false = grind (arith, nat_tests, same, other) in rw (no, same))
      | false ↦ λ apart.
          elim (c.serial == m) as (λ b. (if b then with_stage n s cs else (c ∷ without m (with_stage n s cs))) ≡ with_stage n s (if b then cs else (c ∷ without m cs))) [
            | true ↦ refl
            | false ↦ rw apart (ap (λ (xs : List Connection). c ∷ xs) (with_stage-without n m s cs other))
          ]
    ] refl

with_stage-push : (n : ℕ) (s t : Stage) (cs : List Connection) (c : Connection) → stage_of n cs ≡ Some t
    → with_stage n s (cs ++ c ∷ []) ≡ with_stage n s cs ++ c ∷ []
with_stage-push n s t [] c e = absurd (cc)
with_stage-push n s t (x ∷ cs) c e =
    elim (x.serial == n) as (λ b. (if b then Some x.stage else stage_of n cs) ≡ Some t → (if b then ((record x { stage = s }) ∷ (cs ++ c ∷ [])) else (x ∷ with_stage n s (cs ++ c ∷ []))) ≡ (if b then ((record x { stage = s }) ∷ cs) else (x ∷ with_stage n s cs)) ++ c ∷ []) [
      | true ↦ λ here. refl
      | false ↦ λ later. ap (λ (xs : List Connection). x ∷ xs) (with_stage-push n s t cs c later)
    ] e

stage_of-push_found : (n : ℕ) (t : Stage) (cs : List Connection) (c : Connection) → stage_of n cs ≡ Some t → stage_of n (cs ++ c ∷ []) ≡ Some t
stage_of-push_found n t [] c e = absurd (cc)
stage_of-push_found n t (x ∷ cs) c e =
    elim (x.serial == n) as (λ b. (if b then Some x.stage else stage_of n cs) ≡ Some t → (if b then Some x.stage else stage_of n (cs ++ c ∷ [])) ≡ Some t) [
      | true ↦ λ here. here
      | false ↦ λ later. stage_of-push_found n t cs c later
    ] e

-- ---- a state in which one connection has opened the rules already

abbrev pub opened : ℕ → ServerState → ServerState
opened n s = record s { connections = with_stage n stage.Opened s.connections }

-- another serial
not_its : (n m : ℕ) → not (n == m) ≡ true → (m == n) ≡ false
not_its n m is = elim (n == m) as (λ b. (n == m) ≡ b → not b ≡ true → (m == n) ≡ false) [
  | true ↦ λ same never. absurd (cc)
  | false ↦ λ apart yes. grind (arith, nat_tests, apart)
] refl is

-- what may happen to others may happen there
its_stage : (n m : ℕ) (s : ServerState) → (m == n) ≡ false → stage_of m (opened n s).connections ≡ stage_of m s.connections
its_stage n m s other =
    stage_of-with_stage_other m n stage.Opened s.connections (let back : (n == m) ≡ false = grind (arith, nat_tests, other) in back)

pub may_there : (n : ℕ) (s : ServerState) (f : Effect) → apart_by n f ≡ true → may_have (opened n s) f ≡ may_have s f
may_there n s (lets_in m peer) apart =
    ap (λ (k : ℕ). (m == s.last + 1) && nat_lt k s.limit && nat_lt (count_from peer.ip (opened n s).connections) s.per_address) (length-with_stage n stage.Opened s.connections)
    ∙ ap (λ (k : ℕ). (m == s.last + 1) && nat_lt (length s.connections) s.limit && nat_lt k s.per_address) (count_from-with_stage peer.ip n stage.Opened s.connections)
may_there n s (opens m there) apart = ap is_admitted (its_stage n m s (not_its n m apart))
may_there n s (decides m decision) apart = ap is_opened (its_stage n m s (not_its n m apart))
may_there n s (brings m from to) apart = ap from (its_stage n m s (not_its n m apart))
may_there n s (lets_go m from) apart = ap from (its_stage n m s (not_its n m apart))
may_there n s (comes_to phase) apart = refl
may_there n s (fails_at phase) apart = refl
may_there n s ends_all apart = absurd (cc)

-- and leads to the same
with_connections : (s : ServerState) (cs ds : List Connection) → cs ≡ ds → (record s { connections = cs }) ≡ record s { connections = ds }
with_connections s cs ds is = ap (λ (xs : List Connection). record s { connections = xs }) is

pub leads_there : (n : ℕ) (s : ServerState) (f : Effect) → stage_of n s.connections ≡ Some stage.Admitted → apart_by n f ≡ true
    → with_effect (opened n s) f ≡ opened n (with_effect s f)
leads_there n s (lets_in m peer) waits apart =
    ap (λ (cs : List Connection). record s { last = m; connections = cs }) (sym (with_stage-push n stage.Opened stage.Admitted s.connections (newcomer m peer) waits))
leads_there n s (opens m there) waits apart =
    with_connections s _ _ (with_stage-swap n m stage.Opened stage.Opened s.connections (not_its n m apart))
leads_there n s (decides m decision) waits apart =
    with_connections s _ _ (with_stage-swap n m stage.Opened (stage.Decided decision.verdict) s.connections (not_its n m apart))
leads_there n s (brings m from to) waits apart = with_connections s _ _ (with_stage-swap n m stage.Opened to s.connections (not_its n m apart))
leads_there n s (lets_go m from) waits apart = with_connections s _ _ (with_stage-without n m stage.Opened s.connections (not_its n m apart))
leads_there n s (comes_to phase) waits apart = refl
leads_there n s (fails_at phase) waits apart = refl
leads_there n s ends_all waits apart = absurd (cc)

-- the connection itself waits on
waits_on : (n : ℕ) (s : ServerState) (f : Effect) → stage_of n s.connections ≡ Some stage.Admitted → apart_by n f ≡ true
    → stage_of n (with_effect s f).connections ≡ Some stage.Admitted
waits_on n s (lets_in m peer) waits apart = stage_of-push_found n stage.Admitted s.connections (newcomer m peer) waits
waits_on n s (opens m there) waits apart = stage_of-with_stage_other n m stage.Opened s.connections (not_its n m apart) ∙ waits
waits_on n s (decides m decision) waits apart =
    stage_of-with_stage_other n m (stage.Decided decision.verdict) s.connections (not_its n m apart) ∙ waits
waits_on n s (brings m from to) waits apart = stage_of-with_stage_other n m to s.connections (not_its n m apart) ∙ waits
waits_on n s (lets_go m from) waits apart = stage_of-without_other n m s.connections (not_its n m apart) ∙ waits
waits_on n s (comes_to phase) waits apart = waits
waits_on n s (fails_at phase) waits apart = waits
waits_on n s ends_all waits apart = absurd (cc)

-- ---- what connections keep

-- this one keeps that, and each other one what it keeps
record Keeps (n : ℕ) (bytes : Option (List ℕ)) (old new : List KeptFile) : Type 0 where
  own : kept_by n new ≡ Some bytes
  others : (m : ℕ) → m ≢ n → kept_by m new ≡ kept_by m old

kept_by-push_same : (m : ℕ) (xs ys : List KeptFile) (k : KeptFile) → kept_by m xs ≡ kept_by m ys → kept_by m (xs ++ k ∷ []) ≡ kept_by m (ys ++ k ∷ [])
kept_by-push_same m xs ys k same = at_end xs ∙ ap (λ o. first_of o (kept_by m (k ∷ []))) same ∙ sym (at_end ys)
  where
    first_of : Option (Option (List ℕ)) → Option (Option (List ℕ)) → Option (Option (List ℕ))
    first_of None other = other
    first_of (Some bytes) other = Some bytes

    at_end : (ks : List KeptFile) → kept_by m (ks ++ k ∷ []) ≡ first_of (kept_by m ks) (kept_by m (k ∷ []))
    at_end [] = refl
    at_end (x ∷ ks) =
        elim (x.serial == m) as (λ b. (if b then Some x.bytes else kept_by m (ks ++ k ∷ [])) ≡ first_of (if b then Some x.bytes else kept_by m ks) (kept_by m (k ∷ []))) [
          | true ↦ refl
          | false ↦ at_end ks
        ]

keeps_more : (n : ℕ) (bytes : Option (List ℕ)) (old new : List KeptFile) (k : KeptFile) → Keeps n bytes old new
    → Keeps n bytes (old ++ k ∷ []) (new ++ k ∷ [])
keeps_more n bytes old new k keeps = record {
  own = kept_by-push_found n bytes new k keeps.own;
  others = λ m other. kept_by-push_same m new old k (keeps.others m other);
}

-- ---- a world in which it has

abbrev already : ℕ → List KeptFile → World → World
already n kept w = record w { server = opened n w.server; kept = kept }

module _ (n : ℕ) (bytes : Option (List ℕ)) (w x : World) (kept : List KeptFile) where
  advances_there : (phase : Phase) → Advances phase w x → Advances phase (already n kept w) (already n kept x)
  advances_there Fresh m = (m.0, m.1, m.2, m.3, m.4, m.5, ap (λ (y : World). record y { server = opened n x.server; kept = kept }) m.6)
  advances_there Filling m = (m.0, m.1, ap (λ (y : World). record y { server = opened n x.server; kept = kept }) m.2)
  advances_there Synced m = (m.0, m.1, m.2, m.3, ap (λ (y : World). record y { server = opened n x.server; kept = kept }) m.4)
  advances_there Named m = (m.0, m.1, m.2, m.3, ap (λ (y : World). record y { server = opened n x.server; kept = kept }) m.4)
  advances_there Done m = (m.0, m.1, m.2, ap (λ (y : World). record y { server = opened n x.server; kept = kept }) m.3)

  -- the world after an event
  abbrev then_there : Effect → World
  then_there f = already n (kept_with (already n kept w) f) x

  plainly : x ≡ record w { server = x.server } → already n kept x ≡ record (already n kept w) { server = opened n x.server }
  plainly m = ap (λ (y : World). record y { server = opened n x.server; kept = kept }) m

  moves_there : (f : Effect) → apart_by n f ≡ true → Keeps n bytes w.kept kept → MovesBy f w x
      → MovesBy f (already n kept w) (then_there f)
  moves_there (lets_in m peer) apart keeps moves = plainly moves
  moves_there (opens m there) apart keeps moves = (
    moves.0,
    ap (λ (y : World). record y { server = opened n x.server; kept = kept ++ record { serial = m; bytes = standing w } ∷ [] }) moves.1,
  )
  moves_there (decides m decision) apart keeps moves = (
    moves.0,
    moves.1,
    keeps.others m (λ same. (let never = not_its n m apart in grind (arith, nat_tests, same, never))) ∙ moves.2,
    peer_of-with_stage m n stage.Opened w.server.connections ∙ moves.3,
    moves.4,
    plainly moves.5,
  )
  moves_there (brings m from to) apart keeps moves = plainly moves
  moves_there (lets_go m from) apart keeps moves = plainly moves
  moves_there (comes_to phase) apart keeps moves = advances_there phase moves
  moves_there (fails_at phase) apart keeps moves =
      (moves.0, moves.1, moves.2, ap (λ (y : World). record y { server = opened n x.server; kept = kept }) moves.3)
  moves_there ends_all apart keeps moves = absurd (cc)

  -- a step is one there
  step_there : (event : Event) → is_apart n event ≡ true → stage_of n w.server.connections ≡ Some stage.Admitted → Keeps n bytes w.kept kept
      → Step w event x → Step (already n kept w) event (then_there (effect event))
  step_there event apart waits keeps step =
      let is = step_is step.table in
      record {
        table = subst (λ (s : ServerState). Happens (opened n w.server) event s) (leads_there n w.server (effect event) waits apart ∙ ap (opened n) (sym is.1))
            (is_step (opened n w.server) event (may_there n w.server (effect event) apart ∙ is.0));
        moves = moves_there (effect event) apart keeps step.moves;
      }

  keeps_as : {old : List KeptFile} (new : List KeptFile) → x.kept ≡ old → Keeps n bytes old new → Keeps n bytes x.kept new
  keeps_as new is keeps = subst (λ (ks : List KeptFile). Keeps n bytes ks new) (sym is) keeps

  -- and what is kept after it
  keeps_there : (f : Effect) → apart_by n f ≡ true → Keeps n bytes w.kept kept → MovesBy f w x
      → Keeps n bytes x.kept (kept_with (already n kept w) f)
  keeps_there (lets_in m peer) apart keeps moves = keeps_as kept (same_by (lets_in m peer) w x moves).0 keeps
  keeps_there (opens m there) apart keeps moves =
      let found : KeptFile = record { serial = m; bytes = standing w } in
      keeps_as (kept ++ found ∷ []) (same_by (opens m there) w x moves).0 (keeps_more n bytes w.kept kept found keeps)
  keeps_there (decides m decision) apart keeps moves = keeps_as kept (same_by (decides m decision) w x moves).0 keeps
  keeps_there (brings m from to) apart keeps moves = keeps_as kept (same_by (brings m from to) w x moves).0 keeps
  keeps_there (lets_go m from) apart keeps moves = keeps_as kept (same_by (lets_go m from) w x moves).0 keeps
  keeps_there (comes_to phase) apart keeps moves = keeps_as kept (same_by (comes_to phase) w x moves).0 keeps
  keeps_there (fails_at phase) apart keeps moves = keeps_as kept (same_by (fails_at phase) w x moves).0 keeps
  keeps_there ends_all apart keeps moves = absurd (cc)

-- ---- the whole way

record GoesThere (n : ℕ) (bytes : Option (List ℕ)) (w : World) (kept : List KeptFile) (events : List Event) (x : World) : Type 0 where
  last : List KeptFile
  legal : Legal (already n kept w) events (already n last x)
  keeps : Keeps n bytes x.kept last
  waits : stage_of n x.server.connections ≡ Some stage.Admitted

goes_there : (n : ℕ) (bytes : Option (List ℕ)) (kept : List KeptFile) {w x : World} {events : List Event} → Legal w events x
    → stage_of n w.server.connections ≡ Some stage.Admitted → AreApart n events → Keeps n bytes w.kept kept → GoesThere n bytes w kept events x
goes_there n bytes kept none waits apart keeps = record { last = kept; legal = none; keeps = keeps; waits = waits }
goes_there n bytes kept (more {u} {v} {w} {event} {events} step rest) waits apart keeps =
    let after_it : List KeptFile = kept_with (already n kept u) (effect event) in
    let waits_still : stage_of n v.server.connections ≡ Some stage.Admitted =
    ap (λ (s : ServerState). stage_of n s.connections) (step_is step.table).1 ∙ waits_on n u.server (effect event) waits apart.0 in
    let keeps_still : Keeps n bytes v.kept after_it =
    keeps_there n bytes u v kept (effect event) apart.0 keeps step.moves in
    let on = goes_there n bytes after_it rest waits_still apart.1 keeps_still in
    record { last = on.last; legal = more (step_there n bytes u v kept event apart.0 waits keeps step) on.legal; keeps = on.keeps; waits = on.waits }
goes_there n bytes kept (beside {u} {v} {w} {events} out rest) waits apart keeps =
    let out_there : Outside (already n kept u) (already n kept v) =
    record { rules_alone = out.rules_alone; scratch_alone = out.scratch_alone; moves = ap (already n kept) out.moves } in
    let waits_still = ap (λ (x : World). stage_of n x.server.connections) out.moves ∙ waits in
    let keeps_still = subst (λ (ks : List KeptFile). Keeps n bytes ks kept) (sym (ap (λ (x : World). x.kept) out.moves)) keeps in
    let on = goes_there n bytes kept rest waits_still apart keeps_still in
    record { last = on.last; legal = beside out_there on.legal; keeps = on.keeps; waits = on.waits }

-- what an opening comes to that is moved to its moment
pub record OpensAtOnce (n : ℕ) (u : World) (events : List Event) (w : World) : Type 0 where
  pub waits : stage_of n w.server.connections ≡ Some stage.Admitted
  pub v : World
  pub woven : Woven u (Opened n (is_there u) ∷ events) v
  pub server : v.server ≡ after w.server (Opened n (is_there u))
  pub same : v ≡ record w { server = v.server; kept = v.kept }
  pub keeps : kept_by n v.kept ≡ Some (standing u)
  pub others : (m : ℕ) → m ≢ n → kept_by m v.kept ≡ kept_by m w.kept

another : (n m : ℕ) → m ≢ n → (n == m) ≡ false
another n m other = elim (n == m) as (λ b. (n == m) ≡ b → b ≡ false) [
  | true ↦ λ same. absurd (other (grind (arith, nat_tests, same)))
  | false ↦ λ apart. refl
] refl

pub opens_at_once : (history : List Event) (u w : World) (events : List Event) (n : ℕ) → Reaches history u
    → stage_of n u.server.connections ≡ Some stage.Admitted
    → Woven u events w → AreApart n events → OpensAtOnce n u events w
opens_at_once history u w events n reaches waits woven apart =
    let found : KeptFile = record { serial = n; bytes = standing u } in
    let kept : List KeptFile = u.kept ++ found ∷ [] in
    let opens : Step u (Opened n (is_there u)) (already n kept u) = record { table = is_step u.server (Opened n (is_there u)) (ap is_admitted waits); moves = (refl, refl) } in
    let keeps : Keeps n (standing u) u.kept kept = record {
      own = kept_by-push_own n (standing u) u.kept (waiting_keeps history u reaches n waits);
      others = λ m other. kept_by-push_other m u.kept found (another n m other);
    } in
    let on = goes_there n (standing u) kept (one_history woven) waits apart keeps in
    record {
      waits = on.waits;
      v = already n on.last w;
      woven = its_parts (more opens on.legal);
      server = refl;
      same = refl;
      keeps = on.keeps.own;
      others = on.keeps.others;
    }
