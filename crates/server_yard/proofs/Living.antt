-- The history of a yard keeps its limits, and is stored as it is counted.
use Rattle.std.proofs.Common.{◌≡◌, ◌-◌, ◌^◌, ℕ, List, length, map, Option, None, Some, sym, ap, ◌∙◌}
use Rattle.std.specs.Prelude.{IfSome, min}
use Rattle.std.proofs.Props.{props}
use Rattle.std.proofs.lemmas.List.{length-map}
use mathlib.Core.Logic.{∥∥₁_elim, ∥∥₁_map}
use Rattle.server_events.specs.Journals.{Books}
use Rattle.server_events.specs.declared.journal.Noted.{Noted}
use Rattle.server_events.specs.ServerState.{ServerState}
use Rattle.server_events.specs.declared.event.Event.{Event}
use Rattle.server_events.proofs.Allowed.{alive_within, from_one_within}
use Rattle.server_yard.specs.Rolls.{CountsStored, HasHistory, IsHistory, Lived}

-- along it the limits hold
pub lived : (books : Books) (s : ServerState) → HasHistory books s → ∥ Lived books s ∥₁
lived books s has = ∥∥₁_map has (λ (x : (h : List Event) × IsHistory books s h). record {
  history = x.0;
  is_history = x.1;
  limit = λ k. alive_within s.limit s.per_address x.0 x.1.legal k;
  per_address = λ ip k. from_one_within s.limit s.per_address x.0 x.1.legal ip k;
})

-- as many are stored as are counted
stored_of : (count : ℕ) (history : List Event) (stored : Option (List Noted)) → count ≡ min (length history) (2 ^ 64 - 1)
    → IfSome stored (λ notes. map (λ (n : Noted). n.event) notes ≡ history)
    → IfSome stored (λ notes. count ≡ min (length notes) (2 ^ 64 - 1))
stored_of count history None number stores = tt
stored_of count history (Some notes) number stores =
    number ∙ ap (λ (k : ℕ). min k (2 ^ 64 - 1)) (sym (ap (λ (es : List Event). length es) stores) ∙ length-map notes (λ (n : Noted). n.event))

counts_stored-prop : (books : Books) → IsProp (CountsStored books)
counts_stored-prop books = hlevel props

pub counts_stored : (books : Books) (s : ServerState) → HasHistory books s → CountsStored books
counts_stored books s has = ∥∥₁_elim has (counts_stored-prop books) (λ (x : (h : List Event) × IsHistory books s h). stored_of books.count x.0 books.notes x.1.tells.number x.1.stores)
