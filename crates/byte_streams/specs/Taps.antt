-- What a tap sees.
use Rattle.std.specs.Prelude.{◌≡◌, Bool, true, false, ℕ, List, [], ◌∷◌, IsSomeAnd, MatchOption, Option, None, Some}
use Rattle.byte_streams.specs.declared.recording.Way.{Way}
use Rattle.byte_streams.specs.declared.recording.Way.TheVariants.{Input}

-- it was shown these pieces, in this order, each once
abbrev pub SeesAll : {T : Type 0} → (T → List ℕ → T → Type 0) → T → List (List ℕ) → T → Type 0
SeesAll sees old [] new = new ≡ old
SeesAll {T} sees old (piece ∷ pieces) new = (mid : T) × sees old piece mid × SeesAll sees mid pieces new

-- it was told that the stream has ended, if it has
abbrev pub IsTold : {T : Type 0} → (T → T → Type 0) → Bool → T → T → Type 0
IsTold ends true old new = ends old new
IsTold ends false old new = new ≡ old

-- it was shown these pieces, and then told of the end, if the stream has ended
abbrev pub Watches : {T : Type 0} → (T → List ℕ → T → Type 0) → (T → T → Type 0) → Bool → T → List (List ℕ) → T → Type 0
Watches {T} sees ends at_end old pieces new = (mid : T) × SeesAll sees old pieces mid × IsTold ends at_end mid new

-- a tap from one moment to another: the way that it watches, and how being shown pieces changed it, if the stream has
-- ended and if it has not
pub record Shown : Type 1 where
  pub way : Way
  pub shows : Bool → List (List ℕ) → Type 0

-- a tap, old and new; the functions say which way it watches, what it sees, and what it is told of the end
abbrev pub shown_to : {T : Type 0} → (T → Way) → (T → List ℕ → T → Type 0) → (T → T → Type 0) → T → T → Shown
shown_to watches sees ends old new =
    record { way = watches old; shows = λ at_end pieces. Watches sees ends at_end old pieces new }

-- of a tap that may be left out: the way that it watches, and how it changes; without one nothing does
abbrev pub watched_by : {T : Type 0} → (T → Way) → Option T → Way
watched_by watches None = Input
watched_by watches (Some tap) = watches tap

abbrev pub changed_by : {T : Type 0} → (T → T → Type 0) → (old new : Option T) → Type 0
changed_by changes old new = MatchOption old (new ≡ old) (λ tap. IsSomeAnd new (changes tap))
