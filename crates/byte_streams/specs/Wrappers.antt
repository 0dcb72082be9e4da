-- What line wrappers will still write.
use Rattle.std.specs.Prelude.{◌≡◌, ℕ, Bool, true, false, List, [], ◌∷◌, ◌++◌, drop}
use Rattle.byte_streams.specs.Wrapped.{deleted, fixed}

-- what `delcr` will still write if this is the rest of the text: it may keep a carriage return back
abbrev pub deleted_from : Bool → List ℕ → List ℕ
deleted_from false text = deleted text
deleted_from true text = deleted (13 ∷ text)

-- what `fixcrio` will still write: its last byte may have been a carriage return, which it wrote
abbrev pub fixed_from : Bool → List ℕ → List ℕ
fixed_from false text = fixed text
fixed_from true text = drop 1 (fixed (13 ∷ text))

-- a piece of the text went in, and a piece came out: whatever comes later, the second piece and what will still be
-- written are what was still to be written of the first and the rest
abbrev pub Gives : (old new : List ℕ → List ℕ) → List ℕ → List ℕ → Type 0
Gives old new piece given = (later : List ℕ) → old (piece ++ later) ≡ given ++ new later

-- the same of bytes that were added to others
pub record Feeds (old new : List ℕ → List ℕ) (piece before after : List ℕ) : Type 0 where
  pub given : List ℕ
  pub added : after ≡ before ++ given
  pub gives : Gives old new piece given

-- bytes were added to others
abbrev pub Extends : List ℕ → List ℕ → Type 0
Extends before after = (given : List ℕ) × (after ≡ before ++ given)

-- what each line wrapper will write of a text
abbrev pub Writing : Type 0 → Type 0
Writing S = S → List ℕ → List ℕ

-- what is written through all of these, the first one first
abbrev pub through : {S : Type 0} → Writing S → List S → List ℕ → List ℕ
through rest [] text = text
through rest (wrapper ∷ wrappers) text = through rest wrappers (rest wrapper text)
