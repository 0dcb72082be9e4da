-- The texts that line wrappers make of whole texts.
use Rattle.std.specs.Prelude.{◌≡◌, ℕ, ◌-◌, Bool, false, ◌==◌, List, [], ◌∷◌, ◌++◌, length, take, if◌then◌else◌}
use Rattle.std.specs.List.{All, slice_split}

-- the lines of a text, without their line feeds; behind the last one stands the rest of the text, which may be empty
abbrev pub parts_of : List ℕ → List (List ℕ)
parts_of text = slice_split (λ b. b == 10) text

-- none of these bytes is a line feed
abbrev pub IsOneLine : List ℕ → Type 0
IsOneLine bytes = All (λ b. (b == 10) ≡ false) bytes

-- each line as it is written with its end, and the rest as it is written
abbrev pub written : (List ℕ → List ℕ) → (List ℕ → List ℕ) → List (List ℕ) → List ℕ
written line rest [] = []
written line rest (part ∷ []) = rest part
written line rest (part ∷ next ∷ parts) = line part ++ written line rest (next ∷ parts)

-- whether a carriage return is the last byte
abbrev pub ends_with_cr : List ℕ → Bool
ends_with_cr [] = false
ends_with_cr (b ∷ []) = b == 13
ends_with_cr (b ∷ c ∷ bs) = ends_with_cr (c ∷ bs)

-- without one carriage return at the end, and with one
abbrev pub without_cr : List ℕ → List ℕ
without_cr part = if ends_with_cr part then take (length part - 1) part else part

abbrev pub with_cr : List ℕ → List ℕ
with_cr part = if ends_with_cr part then part else part ++ 13 ∷ []

-- a carriage return before each line feed
abbrev pub added : List ℕ → List ℕ
added text = written (λ line. line ++ 13 ∷ 10 ∷ []) (λ rest. rest) (parts_of text)

-- one carriage return less at the end of each line, and of what stands behind the last
abbrev pub deleted : List ℕ → List ℕ
deleted text = written (λ line. without_cr line ++ 10 ∷ []) without_cr (parts_of text)

-- a carriage return before each line feed that has none
abbrev pub fixed : List ℕ → List ℕ
fixed text = written (λ line. with_cr line ++ 10 ∷ []) (λ rest. rest) (parts_of text)
