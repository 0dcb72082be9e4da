-- A yard without an event has an empty run, and a run goes on by each event of a connection that is noted.
use Rattle.std.proofs.Common.{◌≡◌, ◌∙◌, ◌-◌, ◌^◌, ◌++◌, true, ℕ, List, [], ◌∷◌, Option, length, length-append, refl, sym, ap, subst, arith}
use Rattle.std.specs.Prelude.{IfSome, map, min}
use mathlib.Core.Logic.{∥∥₁_map}
use Rattle.server_events.specs.Journals.{Books}
use Rattle.server_events.specs.declared.journal.Noted.{Noted}
use Rattle.server_events.specs.ServerState.{ServerState, after, is_legal, may_happen, start, state_after, is_connections}
use Rattle.server_events.specs.declared.event.Event.{Event}
use Rattle.server_events.proofs.History.{is_legal-snoc, state_after-snoc}
use Rattle.server_events.proofs.Limits.{limit_after, per_address_after}
use Rattle.server_yard.specs.Rolls.{HasHistory, IsHistory, Notes, Roll}
use Rattle.server_yard.specs.Runs.{AreConnections, HasRunTo, IsRun}
use Rattle.server_yard.proofs.Histories.{OneMore, stored_on}

-- ---- no event

-- no event is counted if there was none
none_counted : (history : List Event) → 0 ≡ min (length history) (2 ^ 64 - 1) → history ≡ []
none_counted [] number = refl
none_counted (event ∷ history) number = absurd (omega (arith, number))

empty_run : (books : Books) (s : ServerState) (history : List Event) → books.count ≡ 0 → IsHistory books s history → IsRun books s []
empty_run books s history none is =
    let nothing = none_counted history (sym none ∙ is.tells.number) in
    record {
      connections = tt;
      legal = refl;
      leads = is.leads ∙ ap (λ (es : List Event). state_after (start s.limit s.per_address) es) nothing;
      number = none;
      stores = subst (λ (es : List Event). IfSome books.notes (λ notes. map (λ (n : Noted). n.event) notes ≡ es)) nothing is.stores;
    }

pub run_of_none : (books : Books) (s : ServerState) → HasHistory books s → books.count ≡ 0 → HasRunTo books s
run_of_none books s has none =
    ∥∥₁_map has (λ (x : (h : List Event) × IsHistory books s h). ([], empty_run books s x.0 none x.1))

-- ---- one event more, or none

one_more_of_them : (events : List Event) (event : Event) → AreConnections events → is_connections event ≡ true → AreConnections (events ++ event ∷ [])
one_more_of_them [] event all own = (own, tt)
one_more_of_them (e ∷ events) event all own = (all.0, one_more_of_them events event all.1 own)

pub run_with : (old new : Roll) (event : Event) (events : List Event) → is_connections event ≡ true → Notes event old new
    → IsRun old.books old.server events → IsRun new.books new.server (events ++ event ∷ [])
run_with old new event events own noted run =
    let first = start old.server.limit old.server.per_address in
    let same : start new.server.limit new.server.per_address ≡ first =
    ap (λ (u : ServerState). start u.limit u.per_address) noted.happens
    ∙ ap (λ (l : ℕ). start l (after old.server event).per_address) (limit_after old.server event)
    ∙ ap (λ (p : ℕ). start old.server.limit p) (per_address_after old.server event) in
    let goes : is_legal first (events ++ event ∷ []) ≡ true =
    is_legal-snoc first events event run.legal ∙ ap (λ (u : ServerState). may_happen u event) (sym run.leads) ∙ noted.may in
    record {
      connections = one_more_of_them events event run.connections own;
      legal = ap (λ (u : ServerState). is_legal u (events ++ event ∷ [])) same ∙ goes;
      leads =
          noted.happens ∙ ap (λ (u : ServerState). after u event) run.leads ∙ sym (state_after-snoc first events event)
          ∙ ap (λ (u : ServerState). state_after u (events ++ event ∷ [])) (sym same);
      number = omega (arith, noted.counts, run.number, length-append events (event ∷ []));
      stores = subst (λ (o : Option (List Noted)). IfSome o (λ notes. map (λ (x : Noted). x.event) notes ≡ events ++ event ∷ []))
          (sym noted.stores) (stored_on old.books.notes (record { event = event; caller = old.speaker }) events run.stores);
    }

pub ran_on : {books books' : Books} {s s' : ServerState} {event : Event} {caller : ℕ} → OneMore books s event caller books' s'
    → is_connections event ≡ true → HasRunTo books s → HasRunTo books' s'
ran_on {books} {books'} {s} {s'} {event} {caller} more own ran =
    let old : Roll = record { server = s; books = books; room = λ n. true; speaker = caller } in
    let new : Roll = record { server = s'; books = books'; room = λ n. true; speaker = caller } in
    let noted : Notes event old new = record { may = more.may; happens = more.happens; speaks = refl; tells = more.tells_so; counts = more.counts; stores = more.stores } in
    ∥∥₁_map ran (λ (x : (events : List Event) × IsRun books s events). (x.0 ++ event ∷ [], run_with old new event x.0 own noted x.1))

same_run : {books books' : Books} {s : ServerState} → books'.count ≡ books.count → books'.notes ≡ books.notes
    → (events : List Event) → IsRun books s events → IsRun books' s events
same_run count notes events run = record {
  connections = run.connections;
  legal = run.legal;
  leads = run.leads;
  number = count ∙ run.number;
  stores = subst (λ (o : Option (List Noted)). IfSome o (λ notes. map (λ (x : Noted). x.event) notes ≡ events)) (sym notes) run.stores;
}

-- the same run, of what counts and stores the same
pub ran_same : {books books' : Books} {s s' : ServerState} → books'.count ≡ books.count → books'.notes ≡ books.notes → s' ≡ s
    → HasRunTo books s → HasRunTo books' s'
ran_same {books} {books'} {s} {s'} count notes same ran = subst (HasRunTo books') (sym same)
    (∥∥₁_map ran (λ (x : (events : List Event) × IsRun books s events). (x.0, same_run count notes x.0 x.1)))

pub ran_kept : {books books' : Books} {s s' : ServerState} → books' ≡ books → s' ≡ s → HasRunTo books s → HasRunTo books' s'
ran_kept b same ran = ran_same (ap (λ (x : Books). x.count) b) (ap (λ (x : Books). x.notes) b) same ran
