-- The steps of a server by itself and of installers by themselves are those of the world that they share.
use Rattle.std.proofs.Common.{◌≡◌, ℕ, true, List, ◌∷◌, Option, None, refl, sym, ap, subst, ◌∙◌}
use Rattle.dir_calls.specs.Directory.{Directory}
use Rattle.dir_calls.specs.declared.phase.Phase.{Phase}
use Rattle.dir_calls.specs.declared.phase.Phase.TheVariants.{Fresh, Filling, Synced, Named, Done}
use Rattle.server_events.specs.declared.event.Event.{Event}
use Rattle.server_events.specs.declared.event.Event.TheVariants.{Stepped, StepFailed}
use Rattle.headline.specs.Processes.{InstallerSteps, KeepsInstallers, KeepsServer, ServerSteps, Woven, none, serves, installs, stops, outside, of_installers, of_server}
use Rattle.server_events.specs.ServerState.{ServerState, after, phase_after, start, Effect, lets_in, opens, decides, brings, lets_go, comes_to, fails_at, ends_all, effect, may_have, with_effect, Happens, is_connections, is_installations, of_connections, of_installations}
use Rattle.headline.specs.Steps.{Advances, FailsTo, Legal, Step, none as no_more, more, beside, MovesBy}
use Rattle.headline.specs.Worlds.{Accepted, KeptFile, RulesName, UnderWay, World}
use Rattle.server_events.proofs.Effects.{IsEventOf, its_event, is_step, step_is}

-- worlds with the same parts
same_world : (w v : World) → w.directory ≡ v.directory → w.rules ≡ v.rules → w.server ≡ v.server → w.accepted ≡ v.accepted → w.acknowledged ≡ v.acknowledged → w.under_way ≡ v.under_way → w.kept ≡ v.kept → w ≡ v
same_world w v directory rules server accepted acknowledged under_way kept =
    ap (λ (x : Directory). record w { directory = x }) directory
    ∙ ap (λ (x : Option RulesName). record w { directory = v.directory; rules = x }) rules
    ∙ ap (λ (x : ServerState). record w { directory = v.directory; rules = v.rules; server = x }) server
    ∙ ap (λ (x : Accepted). record w { directory = v.directory; rules = v.rules; server = v.server; accepted = x }) accepted
    ∙ ap (λ (x : ℕ). record v { acknowledged = x; under_way = w.under_way; kept = w.kept }) acknowledged
    ∙ ap (λ (x : Option UnderWay). record v { under_way = x; kept = w.kept }) under_way
    ∙ ap (λ (x : List KeptFile). record v { kept = x }) kept

-- a state in another phase
abbrev in_phase : Option Phase → ServerState → ServerState
in_phase phase s = record s { phase = phase }

-- ---- events of connections, which no phase is needed for

may_anyway : (s : ServerState) (phase : Option Phase) (x : Effect) → of_connections x ≡ true → may_have (in_phase phase s) x ≡ may_have s x
may_anyway s phase (lets_in n peer) its = refl
may_anyway s phase (opens n there) its = refl
may_anyway s phase (decides n decision) its = refl
may_anyway s phase (brings n from to) its = refl
may_anyway s phase (lets_go n from) its = refl
may_anyway s phase (comes_to p) its = absurd (cc)
may_anyway s phase (fails_at p) its = absurd (cc)
may_anyway s phase ends_all its = absurd (cc)

after_anyway : (s : ServerState) (phase : Option Phase) (x : Effect) → of_connections x ≡ true → with_effect (in_phase phase s) x ≡ in_phase phase (with_effect s x)
after_anyway s phase (lets_in n peer) its = refl
after_anyway s phase (opens n there) its = refl
after_anyway s phase (decides n decision) its = refl
after_anyway s phase (brings n from to) its = refl
after_anyway s phase (lets_go n from) its = refl
after_anyway s phase (comes_to p) its = absurd (cc)
after_anyway s phase (fails_at p) its = absurd (cc)
after_anyway s phase ends_all its = absurd (cc)

-- an event of a connection keeps the phase
pub phase_stays : (s : ServerState) (event : Event) → is_connections event ≡ true → (after s event).phase ≡ s.phase
phase_stays s event its = ap (λ (t : ServerState). t.phase) (after_anyway s s.phase (effect event) its)

-- what happens happens in another phase too
happens_in : (s t : ServerState) (phase : Option Phase) (event : Event) → is_connections event ≡ true → Happens s event t → Happens (in_phase phase s) event (in_phase phase t)
happens_in s t phase event its happens =
    let (may, is) = step_is happens in
    subst (λ (u : ServerState). Happens (in_phase phase s) event u) (after_anyway s phase (effect event) its ∙ ap (in_phase phase) (sym is))
    (is_step (in_phase phase s) event (may_anyway s phase (effect event) its ∙ may))

-- ---- the server by itself

to_world : (w v : World) → KeepsInstallers w v → of_server v ≡ record (of_server w) { server = (of_server v).server; kept = v.kept } → v ≡ record w { server = v.server; kept = v.kept }
to_world w v others is =
    same_world v (record w { server = v.server; kept = v.kept }) (ap (λ (x : World). x.directory) is) (ap (λ (x : World). x.rules) is) refl others.accepted others.acknowledged others.under_way refl

keeping : (w v : World) → of_server v ≡ record (of_server w) { server = (of_server v).server } → v.kept ≡ w.kept
keeping w v is = ap (λ (x : World). x.kept) is

aside : (w v : World) → KeepsInstallers w v → of_server v ≡ record (of_server w) { server = (of_server v).server } → v ≡ record w { server = v.server }
aside w v others is =
    to_world w v others (is ∙ ap (λ (x : List KeptFile). record (of_server w) { server = (of_server v).server; kept = x }) (sym (keeping w v is)))
    ∙ ap (λ (x : List KeptFile). record w { server = v.server; kept = x }) (keeping w v is)

server_moves : (x : Effect) (w v : World) → of_connections x ≡ true → KeepsInstallers w v → MovesBy x (of_server w) (of_server v) → MovesBy x w v
server_moves (lets_in n peer) w v its others moves = aside w v others moves
server_moves (opens n there) w v its others moves =
    let kept = ap (λ (x : World). x.kept) moves.1 in (
      moves.0,
      to_world w v others (moves.1 ∙ ap (λ (x : List KeptFile). record (of_server w) { server = (of_server v).server; kept = x }) (sym kept))
          ∙ ap (λ (x : List KeptFile). record w { server = v.server; kept = x }) kept,
    )
server_moves (decides n decision) w v its others moves = (moves.0, moves.1, moves.2, moves.3, moves.4, aside w v others moves.5)
server_moves (brings n from to) w v its others moves = aside w v others moves
server_moves (lets_go n from) w v its others moves = aside w v others moves
server_moves (comes_to p) w v its others moves = absurd (cc)
server_moves (fails_at p) w v its others moves = absurd (cc)
server_moves ends_all w v its others moves = absurd (cc)

server_step : (w v : World) (event : Event) → ServerSteps w event v → Step w event v
server_step w v event made = record {
  table = subst (λ (p : Option Phase). Happens w.server event (in_phase p v.server)) (sym made.others.phase)
      (happens_in (of_server w).server (of_server v).server w.server.phase event made.its made.step.table);
  moves = server_moves (effect event) w v made.its made.others made.step.moves;
}

-- ---- and back

of_server_kept : (w v : World) (kept : List KeptFile) → v ≡ record w { server = v.server; kept = kept } → of_server v ≡ record (of_server w) { server = (of_server v).server; kept = kept }
of_server_kept w v kept is =
    same_world (of_server v) (record (of_server w) { server = (of_server v).server; kept = kept }) (ap (λ (x : World). x.directory) is) (ap (λ (x : World). x.rules) is) refl refl refl refl (ap (λ (x : World). x.kept) is)

part_moves : (x : Effect) (w v : World) → of_connections x ≡ true → MovesBy x w v → MovesBy x (of_server w) (of_server v)
part_moves (lets_in n peer) w v its moves = of_server_kept w v w.kept moves
part_moves (opens n there) w v its moves = (moves.0, of_server_kept w v _ moves.1)
part_moves (decides n decision) w v its moves = (moves.0, moves.1, moves.2, moves.3, moves.4, of_server_kept w v w.kept moves.5)
part_moves (brings n from to) w v its moves = of_server_kept w v w.kept moves
part_moves (lets_go n from) w v its moves = of_server_kept w v w.kept moves
part_moves (comes_to p) w v its moves = absurd (cc)
part_moves (fails_at p) w v its moves = absurd (cc)
part_moves ends_all w v its moves = absurd (cc)

-- what a step of a connection leaves to the installers
left_over : (x : Effect) (w v : World) → of_connections x ≡ true → MovesBy x w v → (v.accepted ≡ w.accepted) × (v.acknowledged ≡ w.acknowledged) × (v.under_way ≡ w.under_way)
left_over (lets_in n peer) w v its moves = (ap (λ x. x.accepted) moves, ap (λ x. x.acknowledged) moves, ap (λ x. x.under_way) moves)
left_over (opens n there) w v its moves = (ap (λ x. x.accepted) moves.1, ap (λ x. x.acknowledged) moves.1, ap (λ x. x.under_way) moves.1)
left_over (decides n decision) w v its moves = (ap (λ x. x.accepted) moves.5, ap (λ x. x.acknowledged) moves.5, ap (λ x. x.under_way) moves.5)
left_over (brings n from to) w v its moves = (ap (λ x. x.accepted) moves, ap (λ x. x.acknowledged) moves, ap (λ x. x.under_way) moves)
left_over (lets_go n from) w v its moves = (ap (λ x. x.accepted) moves, ap (λ x. x.acknowledged) moves, ap (λ x. x.under_way) moves)
left_over (comes_to p) w v its moves = absurd (cc)
left_over (fails_at p) w v its moves = absurd (cc)
left_over ends_all w v its moves = absurd (cc)

steps_server : (w v : World) (event : Event) → is_connections event ≡ true → Step w event v → ServerSteps w event v
steps_server w v event its step =
    let left = left_over (effect event) w v its step.moves in
    record {
      its = its;
      step = record { table = happens_in w.server v.server None event its step.table; moves = part_moves (effect event) w v its step.moves };
      others = record { phase = ap (λ (s : ServerState). s.phase) (step_is step.table).1 ∙ phase_stays w.server event its; accepted = left.0; acknowledged = left.1; under_way = left.2 };
    }

-- ---- installers by themselves

-- an event of an installation happens whatever connections there are
advances_in : (s t : ServerState) (p : Phase) → t ≡ in_phase t.phase s → Happens (in_phase s.phase (start 0 0)) (Stepped p) (in_phase t.phase (start 0 0)) → Happens s (Stepped p) t
advances_in s t p is happens =
    let (may, next) = step_is happens in
    subst (λ (u : ServerState). Happens s (Stepped p) u) (ap (λ (phase : Option Phase). in_phase phase s) (sym (ap (λ (u : ServerState). u.phase) next)) ∙ sym is) (is_step s (Stepped p) may)

fails_in : (s t : ServerState) (p : Phase) → t ≡ in_phase t.phase s → Happens (in_phase s.phase (start 0 0)) (StepFailed p) (in_phase t.phase (start 0 0)) → Happens s (StepFailed p) t
fails_in s t p is happens =
    let (may, next) = step_is happens in
    subst (λ (u : ServerState). Happens s (StepFailed p) u) (ap (λ (phase : Option Phase). in_phase phase s) (sym (ap (λ (u : ServerState). u.phase) next)) ∙ sym is) (is_step s (StepFailed p) may)

-- what an installation leaves to the connections
of_installers_is : (w v u : World) → KeepsServer w v → of_installers v ≡ record (of_installers u) { server = (of_installers v).server } → u.rules ≡ u.rules → u.kept ≡ w.kept → v ≡ record u { server = v.server }
of_installers_is w v u others is same kept =
    same_world v (record u { server = v.server }) (ap (λ (x : World). x.directory) is) (ap (λ (x : World). x.rules) is) refl (ap (λ (x : World). x.accepted) is) (ap (λ (x : World). x.acknowledged) is) (ap (λ (x : World). x.under_way) is) (others.kept ∙ sym kept)

installer_moves : (p : Phase) (w v : World) → KeepsServer w v → Advances p (of_installers w) (of_installers v) → Advances p w v
installer_moves Fresh w v others moves = (moves.0, moves.1, moves.2, moves.3, moves.4, moves.5, of_installers_is w v (record w { directory = _; accepted = _; under_way = _ }) others moves.6 refl refl)
installer_moves Filling w v others moves = (moves.0, moves.1, of_installers_is w v (record w { directory = _ }) others moves.2 refl refl)
installer_moves Synced w v others moves = (moves.0, moves.1, moves.2, moves.3, of_installers_is w v (record w { directory = _ }) others moves.4 refl refl)
installer_moves Named w v others moves = (moves.0, moves.1, moves.2, moves.3, of_installers_is w v (record w { directory = _ }) others moves.4 refl refl)
installer_moves Done w v others moves = (moves.0, moves.1, moves.2, of_installers_is w v (record w { directory = _; acknowledged = _; under_way = None }) others moves.3 refl refl)

installer_fails : (p : Phase) (w v : World) → KeepsServer w v → FailsTo p (of_installers w) (of_installers v) → FailsTo p w v
installer_fails p w v others moves = (moves.0, moves.1, moves.2, of_installers_is w v (record w { directory = v.directory; under_way = None }) others moves.3 refl refl)

installer_by : (x : Effect) (w v : World) (event : Event) → IsEventOf x event → of_installations x ≡ true → Step (of_installers w) event (of_installers v) → KeepsServer w v → Step w event v
installer_by (comes_to p) w v event is its step others =
    let own = subst (λ (a : Event). Step (of_installers w) a (of_installers v)) is step in
    subst (λ (a : Event). Step w a v) (sym is) (record { table = advances_in w.server v.server p others.server own.table; moves = installer_moves p w v others own.moves })
installer_by (fails_at p) w v event is its step others =
    let own = subst (λ (a : Event). Step (of_installers w) a (of_installers v)) is step in
    subst (λ (a : Event). Step w a v) (sym is) (record { table = fails_in w.server v.server p others.server own.table; moves = installer_fails p w v others own.moves })
installer_by (lets_in n peer) w v event is its step others = absurd (cc)
installer_by (opens n there) w v event is its step others = absurd (cc)
installer_by (decides n decision) w v event is its step others = absurd (cc)
installer_by (brings n from to) w v event is its step others = absurd (cc)
installer_by (lets_go n from) w v event is its step others = absurd (cc)
installer_by ends_all w v event is its step others = absurd (cc)

installer_step : (w v : World) (event : Event) → is_installations event ≡ true → Step (of_installers w) event (of_installers v) → KeepsServer w v → Step w event v
installer_step w v event its step others = installer_by (effect event) w v event (its_event event) its step others

-- ---- and back

part_happens : (s t : ServerState) (p : Phase) → Happens s (Stepped p) t → Happens (in_phase s.phase (start 0 0)) (Stepped p) (in_phase t.phase (start 0 0))
part_happens s t p happens =
    let (may, next) = step_is happens in
    subst (λ (phase : Option Phase). Happens (in_phase s.phase (start 0 0)) (Stepped p) (in_phase phase (start 0 0))) (sym (ap (λ (u : ServerState). u.phase) next)) (is_step (in_phase s.phase (start 0 0)) (Stepped p) may)

part_fails : (s t : ServerState) (p : Phase) → Happens s (StepFailed p) t → Happens (in_phase s.phase (start 0 0)) (StepFailed p) (in_phase t.phase (start 0 0))
part_fails s t p happens =
    let (may, next) = step_is happens in
    subst (λ (phase : Option Phase). Happens (in_phase s.phase (start 0 0)) (StepFailed p) (in_phase phase (start 0 0))) (sym (ap (λ (u : ServerState). u.phase) next)) (is_step (in_phase s.phase (start 0 0)) (StepFailed p) may)

is_of_installers : (w v u : World) → v ≡ record u { server = v.server } → of_installers v ≡ record (of_installers u) { server = (of_installers v).server }
is_of_installers w v u is =
    same_world (of_installers v) (record (of_installers u) { server = (of_installers v).server }) (ap (λ (x : World). x.directory) is) (ap (λ (x : World). x.rules) is) refl (ap (λ (x : World). x.accepted) is) (ap (λ (x : World). x.acknowledged) is) (ap (λ (x : World). x.under_way) is) refl

part_advances : (p : Phase) (w v : World) → Advances p w v → Advances p (of_installers w) (of_installers v)
part_advances Fresh w v moves = (moves.0, moves.1, moves.2, moves.3, moves.4, moves.5, is_of_installers w v (record w { directory = _; accepted = _; under_way = _ }) moves.6)
part_advances Filling w v moves = (moves.0, moves.1, is_of_installers w v (record w { directory = _ }) moves.2)
part_advances Synced w v moves = (moves.0, moves.1, moves.2, moves.3, is_of_installers w v (record w { directory = _ }) moves.4)
part_advances Named w v moves = (moves.0, moves.1, moves.2, moves.3, is_of_installers w v (record w { directory = _ }) moves.4)
part_advances Done w v moves = (moves.0, moves.1, moves.2, is_of_installers w v (record w { directory = _; acknowledged = _; under_way = None }) moves.3)

advance_keeps : (p : Phase) (w v : World) → Advances p w v → v.kept ≡ w.kept
advance_keeps Fresh w v moves = ap (λ (x : World). x.kept) moves.6
advance_keeps Filling w v moves = ap (λ (x : World). x.kept) moves.2
advance_keeps Synced w v moves = ap (λ (x : World). x.kept) moves.4
advance_keeps Named w v moves = ap (λ (x : World). x.kept) moves.4
advance_keeps Done w v moves = ap (λ (x : World). x.kept) moves.3

-- the state but for its phase
only_phase : (s t : ServerState) (phase : Option Phase) → t ≡ in_phase phase s → t ≡ in_phase t.phase s
only_phase s t phase is = is ∙ ap (λ (p : Option Phase). in_phase p s) (sym (ap (λ (u : ServerState). u.phase) is))

steps_advance : (w v : World) (p : Phase) → Step w (Stepped p) v → InstallerSteps w (Stepped p) v
steps_advance w v p step = record {
  its = refl;
  step = record { table = part_happens w.server v.server p step.table; moves = part_advances p w v step.moves };
  others = record { server = only_phase w.server v.server (phase_after p) (step_is step.table).1; kept = advance_keeps p w v step.moves };
}

steps_failure : (w v : World) (p : Phase) → Step w (StepFailed p) v → InstallerSteps w (StepFailed p) v
steps_failure w v p step = record {
  its = refl;
  step = record {
    table = part_fails w.server v.server p step.table;
    moves = (step.moves.0, step.moves.1, step.moves.2, is_of_installers w v (record w { directory = v.directory; under_way = None }) step.moves.3);
  };
  others = record { server = only_phase w.server v.server None (step_is step.table).1; kept = ap (λ (x : World). x.kept) step.moves.3 };
}

-- ---- histories

pub one_history : {w v : World} {history : List Event} → Woven w history v → Legal w history v
one_history none = no_more
one_history (serves {u} {v} {w} {event} {events} made rest) = more (server_step u v event made) (one_history rest)
one_history (installs {u} {v} {w} {event} {events} made rest) = more (installer_step u v event made.its made.step made.others) (one_history rest)
one_history (stops step rest) = more step (one_history rest)
one_history (outside out rest) = beside out (one_history rest)

by_effect : {u v w : World} {events : List Event} (x : Effect) (event : Event) → effect event ≡ x → IsEventOf x event → Step u event v → Woven v events w → Woven u (event ∷ events) w
by_effect {u} {v} {w} {events} (comes_to p) event is its step rest =
    subst (λ (a : Event). Woven u (a ∷ events) w) (sym its) (installs (steps_advance u v p (subst (λ (a : Event). Step u a v) its step)) rest)
by_effect {u} {v} {w} {events} (fails_at p) event is its step rest =
    subst (λ (a : Event). Woven u (a ∷ events) w) (sym its) (installs (steps_failure u v p (subst (λ (a : Event). Step u a v) its step)) rest)
by_effect {u} {v} {w} {events} ends_all event is its step rest =
    subst (λ (a : Event). Woven u (a ∷ events) w) (sym its) (stops (subst (λ (a : Event). Step u a v) its step) rest)
by_effect {u} {v} (lets_in n peer) event is its step rest = serves (steps_server u v event (ap of_connections is) step) rest
by_effect {u} {v} (opens n there) event is its step rest = serves (steps_server u v event (ap of_connections is) step) rest
by_effect {u} {v} (decides n decision) event is its step rest = serves (steps_server u v event (ap of_connections is) step) rest
by_effect {u} {v} (brings n from to) event is its step rest = serves (steps_server u v event (ap of_connections is) step) rest
by_effect {u} {v} (lets_go n from) event is its step rest = serves (steps_server u v event (ap of_connections is) step) rest

pub its_parts : {w v : World} {history : List Event} → Legal w history v → Woven w history v
its_parts no_more = none
its_parts (more {u} {v} {w} {event} {events} step rest) = by_effect (effect event) event refl (its_event event) step (its_parts rest)
its_parts (beside out rest) = outside out (its_parts rest)
