-- What the letters of a program say.
use Rattle.std.specs.Prelude.{ℕ, Bool, ◌==◌, ◌||◌, List, [], ◌∷◌, if◌then◌else◌}
use Rattle.server_words.specs.declared.letter.Meaning.{Meaning}
use Rattle.server_words.specs.declared.letter.Meaning.TheVariants.{Unknown, NotInProfile, Valued, Plain}

-- `:`, `!` and `-` are no letters
abbrev pub is_mark : ℕ → Bool
is_mark c = c == 58 || (c == 33 || c == 45)

-- what stands after a letter says of it: `:` that it takes a value, `!` that it is not in this profile
abbrev pub marked_by : List ℕ → Meaning
marked_by [] = Plain
marked_by (c ∷ cs) = if c == 58 then Valued else (if c == 33 then NotInProfile else Plain)

-- what stands after a character where it first stands
abbrev pub listed_as : List ℕ → ℕ → Meaning
listed_as [] letter = Unknown
listed_as (c ∷ cs) letter = if c == letter then marked_by cs else listed_as cs letter

-- what the letters say of a character
unfoldable pub meaning_of : List ℕ → ℕ → Meaning
meaning_of letters c = if is_mark c then Unknown else listed_as letters c
