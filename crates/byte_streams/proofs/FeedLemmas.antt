-- Pieces that are fed one after the other.
use Rattle.std.proofs.Common.{◌≡◌, ℕ, ◌≤◌, List, [], ◌∷◌, ◌++◌, length, refl, sym, ap, ◌∙◌, append_assoc, arith, length-append}
use Rattle.std.specs.Prelude.{Err, Ok, OnOk, Result}
use Rattle.std.specs.declared.alloc.AllocError.{AllocError}
use Rattle.std.proofs.lemmas.List.{append-nil}
use Rattle.byte_streams.specs.Wrappers.{Extends, Feeds}

-- a part of a piece went in, and the rest of it did not yet
pub record Goes (old new : List ℕ → List ℕ) (piece rest before after : List ℕ) : Type 0 where
  pub given : List ℕ
  pub added : after ≡ before ++ given
  pub gives : (later : List ℕ) → old (piece ++ later) ≡ given ++ new (rest ++ later)
  pub within : length rest ≤ length piece

pub goes_extends : {old new : List ℕ → List ℕ} {piece rest before after : List ℕ} → Goes old new piece rest before after → Extends before after
goes_extends goes = (goes.given, goes.added)

pub extends_more : (before mid after : List ℕ) → Extends before mid → Extends mid after → Extends before after
extends_more before mid after one two = (one.0 ++ two.0, two.1 ∙ ap (λ x. x ++ two.0) one.1 ∙ append_assoc before one.0 two.0)

-- nothing went in yet
pub goes_none : (old : List ℕ → List ℕ) (piece before : List ℕ) → Goes old old piece piece before before
goes_none old piece before = record { given = []; added = sym (append-nil before); gives = λ later. refl; within = omega arith }

-- a line went in
pub goes_line : {old mid next new : List ℕ → List ℕ} {piece rest before so_far after final : List ℕ} (front behind ending : List ℕ) → rest ≡ front ++ 10 ∷ behind → Goes old mid piece rest before so_far → Feeds mid next front so_far after → ((later : List ℕ) → next (10 ∷ later) ≡ ending ++ new later) → final ≡ after ++ ending → Goes old new piece behind before final
goes_line {old} {mid} {next} {new} {piece} {rest} {before} {so_far} {after} {final} front behind ending cut goes feeds feed is = record {
  given = goes.given ++ (feeds.given ++ ending);
  added = is
      ∙ ap (λ x. x ++ ending) (feeds.added ∙ ap (λ x. x ++ feeds.given) goes.added ∙ append_assoc before goes.given feeds.given)
      ∙ append_assoc before (goes.given ++ feeds.given) ending
      ∙ ap (λ x. before ++ x) (append_assoc goes.given feeds.given ending);
  gives = λ later. goes.gives later
      ∙ ap (λ x. goes.given ++ mid (x ++ later)) cut
      ∙ ap (λ x. goes.given ++ mid x) (append_assoc front (10 ∷ behind) later)
      ∙ ap (λ x. goes.given ++ x) (feeds.gives (10 ∷ (behind ++ later)) ∙ ap (λ x. feeds.given ++ x) (feed (behind ++ later)) ∙ sym (append_assoc feeds.given ending (new (behind ++ later))))
      ∙ sym (append_assoc goes.given (feeds.given ++ ending) (new (behind ++ later)));
  within = omega (arith, goes.within, simp length-append at (ap length cut));
}

-- the rest of the piece went in
pub goes_rest : {old mid new : List ℕ → List ℕ} {piece rest before so_far after : List ℕ} → Goes old mid piece rest before so_far → Feeds mid new rest so_far after → Feeds old new piece before after
goes_rest {old} {mid} {new} {piece} {rest} {before} {so_far} {after} goes feeds = record {
  given = goes.given ++ feeds.given;
  added = feeds.added ∙ ap (λ x. x ++ feeds.given) goes.added ∙ append_assoc before goes.given feeds.given;
  gives = λ later. goes.gives later ∙ ap (λ x. goes.given ++ x) (feeds.gives later) ∙ sym (append_assoc goes.given feeds.given (new later));
}

-- the last piece went in, and the text ended
pub ends_text : {old new : List ℕ → List ℕ} {piece before so_far after : List ℕ} → Feeds old new piece before so_far → after ≡ so_far ++ new [] → after ≡ before ++ old piece
ends_text {old} {new} {piece} {before} {so_far} {after} feeds is =
    is ∙ ap (λ x. x ++ new []) feeds.added
    ∙ append_assoc before feeds.given (new [])
    ∙ ap (λ x. before ++ x) (sym (feeds.gives []) ∙ ap old (append-nil piece))

-- ---- by the result of the last call

pub ends_ok : {old mid new : List ℕ → List ℕ} {piece before so_far : List ℕ} (after : List ℕ) (result : Result (Unit {0}) AllocError) → Feeds old mid piece before so_far → new ≡ mid → OnOk result (after ≡ so_far ++ new []) → OnOk result (after ≡ before ++ old piece)
ends_ok {so_far = so_far} after (Ok _) feeds same is = ends_text feeds (is ∙ ap (λ f. so_far ++ f []) same)
ends_ok after (Err _) feeds same is = tt
