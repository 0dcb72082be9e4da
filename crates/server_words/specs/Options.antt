-- What the options given say, by their letters.
use Rattle.std.specs.Prelude.{ℕ, ◌==◌, Bool, false, List, [], ◌∷◌}
use Rattle.std.specs.Option.{option_map_or}
use Rattle.server_words.specs.OptionWords.{last_of}
use Rattle.server_words.specs.Words.{LetterGiven}

-- the letter that a text of one is
abbrev pub letter : List ℕ → ℕ
letter [] = 0
letter (c ∷ cs) = c

-- whether an option is the last given of two
abbrev pub is_last : List LetterGiven → ℕ → ℕ → Bool
is_last options one other = option_map_or (λ last. last == one) (last_of options (one ∷ other ∷ [])) false
