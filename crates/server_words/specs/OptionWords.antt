-- What the options given say. Of an option that is given more than once the last counts.
use Rattle.std.specs.Prelude.{◌≡◌, ℕ, ◌==◌, ◌&&◌, Bool, List, reverse, Option, is_some, is_none, option_map, option_and_then, find, true, false}
use Rattle.std.specs.List.{list_any}
use Rattle.std.specs.Borrow.{Bor}
use Rattle.server_words.specs.declared.option_fault.WordFault.{WordFault}
use Rattle.server_words.specs.declared.option_fault.WordFault.TheVariants as fault
use Rattle.server_words.specs.declared.options.OptionGiven.{OptionGiven}
use Rattle.server_words.specs.Numbers.{number_in}
use Rattle.server_words.specs.Words.{LetterGiven}

-- the text that a value is
abbrev pub text_of : Option (Bor (List ℕ)) → Option (List ℕ)
text_of value = option_map (λ (text : Bor (List ℕ)). text.now) value

-- a letter with its value
abbrev pub letter_of : OptionGiven → LetterGiven
letter_of given = record { letter = given.letter; value = text_of given.value }

-- the last of the options with this letter
abbrev pub last_given : List LetterGiven → ℕ → Option LetterGiven
last_given options letter = find (λ (g : LetterGiven). g.letter == letter) (reverse options)

-- the value of a letter
abbrev pub value_of : List LetterGiven → ℕ → Option (List ℕ)
value_of options letter = option_and_then (λ (g : LetterGiven). g.value) (last_given options letter)

-- whether a letter is given
abbrev pub is_given : List LetterGiven → ℕ → Bool
is_given options letter = list_any (λ (g : LetterGiven). g.letter == letter) options

-- the last given of some letters
abbrev pub last_of : List LetterGiven → List ℕ → Option ℕ
last_of options letters =
    option_map (λ (g : LetterGiven). g.letter) (find (λ (g : LetterGiven). list_any (λ letter. letter == g.letter) letters) (reverse options))

-- an option with a number: its letter, and the least and the greatest number
pub record NumberOption : Type 0 where
  pub letter : ℕ
  pub least : ℕ
  pub greatest : ℕ

abbrev pub number_option : ℕ → ℕ → ℕ → NumberOption
number_option letter least greatest = record { letter = letter; least = least; greatest = greatest }

-- the number of such an option, where its value is one in the range
abbrev pub number_of : List LetterGiven → NumberOption → Option ℕ
number_of options option =
    option_and_then (λ text. number_in text option.least option.greatest) (value_of options option.letter)

-- its value is no number in the range
abbrev pub has_bad : List LetterGiven → NumberOption → Bool
has_bad options option = is_some (value_of options option.letter) && is_none (number_of options option)

-- what is read of such an option: its number, where that is not bad
abbrev pub IsNumberOf : List LetterGiven → NumberOption → Option ℕ → Type 0
IsNumberOf options option number = (has_bad options option ≡ false) × (number ≡ number_of options option)

-- or the fault that it is
abbrev pub IsBadBy : List LetterGiven → NumberOption → WordFault → Type 0
IsBadBy options option f = (has_bad options option ≡ true) × (f ≡ fault.BadNumber option.letter)
