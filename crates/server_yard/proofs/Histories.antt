-- The history of a yard, and one event more.
use Rattle.std.proofs.Common.{◌≡◌, ℕ, ◌<◌, ◌^◌, List, [], ◌∷◌, ◌++◌, map, true, false, Option, None, Some, refl, sym, ap, subst, ◌∙◌}
use Rattle.std.specs.Prelude.{IfSome, is_some, option_map}
use Rattle.std.proofs.Props.{props}
use mathlib.Core.Logic.{∥∥₁_map, ∥∥₁_elim}
use Rattle.server_events.specs.Journals.{Books, FitsSerial, TellsOf, next_report, one_more}
use Rattle.server_events.specs.declared.journal.Noted.{Noted}
use Rattle.server_events.proofs.ReportSteps.{goes_on as told_on}
use Rattle.server_events.specs.declared.event.Event.{Event}
use Rattle.server_events.specs.ServerState.{ServerState, after, is_legal, may_happen, stage_of, start, state_after, without, peer_of}
use Rattle.server_events.proofs.History.{is_legal-snoc, state_after-snoc}
use Rattle.server_events.proofs.Limits.{limit_after, per_address_after}
use Rattle.server_events.proofs.LiveLemmas.{tells}
use Rattle.server_events.proofs.Peers.{stage_of-without, peer_of-without}
use Rattle.server_events.proofs.Serials.{Rise}
use Rattle.server_yard.specs.Rolls.{HasHistory, IsHistory, StoresNothing}

-- the empty history
pub none_yet : (books : Books) (limit per_address : ℕ) → TellsOf books [] → StoresNothing books → IsHistory books (start limit per_address) []
none_yet books limit per_address tells_none stores_none = record {
  tells = tells_none;
  legal = refl;
  leads = refl;
  stores = go books.notes stores_none;
}
  where
    go : (o : Option (List Noted)) → IfSome o (λ notes. notes ≡ []) → IfSome o (λ notes. map (λ (n : Noted). n.event) notes ≡ [])
    go None none = tt
    go (Some notes) none = ap (λ (ns : List Noted). map (λ (n : Noted). n.event) ns) none

map-push : (notes : List Noted) (n : Noted) → map (λ (x : Noted). x.event) (notes ++ n ∷ []) ≡ map (λ (x : Noted). x.event) notes ++ n.event ∷ []
map-push [] n = refl
map-push (x ∷ xs) n = ap (λ (es : List Event). x.event ∷ es) (map-push xs n)

pub stored_on : (stored : Option (List Noted)) (n : Noted) (h : List Event) → IfSome stored (λ notes. map (λ (x : Noted). x.event) notes ≡ h)
    → IfSome (option_map (λ (notes : List Noted). notes ++ n ∷ []) stored) (λ notes. map (λ (x : Noted). x.event) notes ≡ h ++ n.event ∷ [])
stored_on None n h same = tt
stored_on (Some notes) n h same = map-push notes n ∙ ap (λ (es : List Event). es ++ n.event ∷ []) same

-- what a yard has after an event, and what its journal tells then
pub record OneMore (books : Books) (s : ServerState) (e : Event) (caller : ℕ) (books' : Books) (s' : ServerState) : Type 0 where
  pub small : s.limit < 2 ^ 64
  pub fits : FitsSerial e
  pub may : may_happen s e ≡ true
  pub happens : s' ≡ after s e
  pub tells_so : books'.report ≡ next_report books.report e
  pub counts : books'.count ≡ one_more books.count
  pub stores : books'.notes ≡ option_map (λ notes. notes ++ record { event = e; caller = caller } ∷ []) books.notes

module _ {books books' : Books} {s s' : ServerState} {e : Event} {caller : ℕ} (more : OneMore books s e caller books' s') where
  starts_same : start s'.limit s'.per_address ≡ start s.limit s.per_address
  starts_same =
      ap (λ (u : ServerState). start u.limit u.per_address) more.happens
      ∙ ap (λ (l : ℕ). start l (after s e).per_address) (limit_after s e)
      ∙ ap (λ (p : ℕ). start s.limit p) (per_address_after s e)

  pub history_on : (h : List Event) → IsHistory books s h → IsHistory books' s' (h ++ e ∷ [])
  history_on h is =
      let w = start s.limit s.per_address in
      let goes : is_legal w (h ++ e ∷ []) ≡ true = is_legal-snoc w h e is.legal ∙ ap (λ (u : ServerState). may_happen u e) (sym is.leads) ∙ more.may in
      record {
        tells = told_on books books' e more.tells_so more.counts s.limit s.per_address h more.small more.fits is.tells goes;
        legal = ap (λ (u : ServerState). is_legal u (h ++ e ∷ [])) starts_same ∙ goes;
        leads =
            more.happens ∙ ap (λ (u : ServerState). after u e) is.leads ∙ sym (state_after-snoc w h e)
            ∙ ap (λ (u : ServerState). state_after u (h ++ e ∷ [])) (sym starts_same);
        stores = subst (λ (o : Option (List Noted)). IfSome o (λ notes. map (λ (x : Noted). x.event) notes ≡ h ++ e ∷ [])) (sym more.stores) (stored_on books.notes (record { event = e; caller = caller }) h is.stores);
      }

  pub has_history_on : HasHistory books s → HasHistory books' s'
  has_history_on has = ∥∥₁_map has (λ (x : (h : List Event) × IsHistory books s h). (x.0 ++ e ∷ [], history_on x.0 x.1))

-- the same history, of what tells the same
pub history_same : {books books' : Books} {s s' : ServerState} → books'.report ≡ books.report → books'.count ≡ books.count
    → books'.notes ≡ books.notes → s' ≡ s
    → (h : List Event) → IsHistory books s h → IsHistory books' s' h
history_same {books} {books'} {s} {s'} r c n w h is = subst (λ (x : ServerState). IsHistory books' x h) (sym w) (record {
  tells = record { report = r ∙ is.tells.report; number = c ∙ is.tells.number };
  legal = is.legal;
  leads = is.leads;
  stores = subst (λ (o : Option (List Noted)). IfSome o (λ notes. map (λ (x : Noted). x.event) notes ≡ h)) (sym n) is.stores;
})

pub has_history_same : {books books' : Books} {s s' : ServerState} → books'.report ≡ books.report → books'.count ≡ books.count
    → books'.notes ≡ books.notes → s' ≡ s
    → HasHistory books s → HasHistory books' s'
has_history_same {books} {books'} {s} {s'} r c n w has =
    ∥∥₁_map has (λ (x : (h : List Event) × IsHistory books s h). (x.0, history_same r c n w x.0 x.1))

-- and of the very same books
pub has_history_kept : {books books' : Books} {s s' : ServerState} → books' ≡ books → s' ≡ s → HasHistory books s → HasHistory books' s'
has_history_kept b w has = has_history_same (ap (λ (x : Books). x.report) b) (ap (λ (x : Books). x.count) b) (ap (λ (x : Books). x.notes) b) w has

-- the serials of a state that a history leads to rise
pub rises : (books : Books) (s : ServerState) (h : List Event) → IsHistory books s h → Rise 0 s.connections s.last
rises books s h is =
    subst (λ (u : ServerState). Rise 0 u.connections u.last) (sym is.leads) (tells s.limit s.per_address h is.legal).rise

none_is : {X : Type 0} (o : Option X) → o ≡ None → is_some o ≡ false
none_is o is = ap (λ (x : Option _). is_some x) is

-- no connection has the serial of one that is gone
pub record Distinct (s : ServerState) : Type 0 where
  pub gone_peer : (n : ℕ) → is_some (peer_of n (without n s.connections)) ≡ false
  pub gone_stage : (n : ℕ) → is_some (stage_of n (without n s.connections)) ≡ false

pub distinct : (books : Books) (s : ServerState) → HasHistory books s → Distinct s
distinct books s has = record {
  gone_peer = λ n. ∥∥₁_elim has (hlevel props) (λ (x : (h : List Event) × IsHistory books s h). none_is _ (peer_of-without n 0 s.connections s.last (rises books s x.0 x.1)));
  gone_stage = λ n. ∥∥₁_elim has (hlevel props) (λ (x : (h : List Event) × IsHistory books s h). none_is _ (stage_of-without n 0 s.connections s.last (rises books s x.0 x.1)));
}

-- where the option is empty there is nothing
pub nothing : {X : Type 0} (o : Option X) → is_some o ≡ false → o ≡ None
nothing None e = refl
nothing (Some x) e = absurd (cc)
