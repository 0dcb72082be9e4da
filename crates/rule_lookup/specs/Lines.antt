-- A text cut into lines, and a line trimmed at its end.
use Rattle.std.specs.Prelude.{◌≡◌, ◌⊎◌, ℕ, Bool, true, false, ◌&&◌, ◌||◌, ◌==◌, List, [], ◌∷◌, ◌++◌, length, if◌then◌else◌}
use Rattle.std.specs.List.{list_any}

-- whether a byte stands among them
abbrev pub has_byte : ℕ → List ℕ → Bool
has_byte b bytes = list_any (λ x. x == b) bytes

-- the bytes between two separators, and whether a separator ended them
pub record Line : Type 0 where
  pub bytes : List ℕ
  pub ended : Bool

-- a line with nothing in it, which a separator ended
abbrev pub empty_line : Line
empty_line = record { bytes = []; ended = true }

-- the lines with a byte put before the first
abbrev pub onto_line : ℕ → List Line → List Line
onto_line b [] = record { bytes = b ∷ []; ended = false } ∷ []
onto_line b (line ∷ lines) = record { bytes = b ∷ line.bytes; ended = line.ended } ∷ lines

-- the pieces between the separators; the last one only if it is not empty
abbrev pub pieces_of : ℕ → List ℕ → List Line
pieces_of separator [] = []
pieces_of separator (b ∷ bs) =
    if b == separator then empty_line ∷ pieces_of separator bs else onto_line b (pieces_of separator bs)

-- the lines of a text: its pieces between line feeds
abbrev pub lines_of : List ℕ → List Line
lines_of text = pieces_of 10 text

-- the first line of a text, whether or not a line feed ended it, and what follows it
abbrev pub IsFirstLine : List ℕ → List ℕ → List ℕ → Type 0
IsFirstLine text line rest = (ended : Bool) × (lines_of text ≡ record { bytes = line; ended = ended } ∷ lines_of rest)

-- what stands before a line feed and what follows it; or all, and nothing
abbrev pub IsCutAtFeed : List ℕ → List ℕ → List ℕ → Type 0
IsCutAtFeed text line rest = (text ≡ line ++ 10 ∷ rest) ⊎ ((text ≡ line) × (rest ≡ []))

-- a space or a tab
abbrev pub is_blank : ℕ → Bool
is_blank b = b == 32 || b == 9

-- without the blanks at the end
abbrev pub trimmed : List ℕ → List ℕ
trimmed [] = []
trimmed (b ∷ bs) = if is_blank b && length (trimmed bs) == 0 then [] else b ∷ trimmed bs
