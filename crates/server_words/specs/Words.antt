-- The reading of option words: as a function, and as a relation with a rule for each case.
use Rattle.std.specs.Prelude.{◌≡◌, ◌≢◌, ℕ, ◌==◌, ◌&&◌, List, [], ◌∷◌, ◌++◌, Option, Some, None, Result, Ok, Err, if◌then◌else◌, length}
use Rattle.std.specs.Str.{chars, encode_utf8_all}
use Rattle.server_words.specs.declared.option_fault.WordFault.{WordFault}
use Rattle.server_words.specs.declared.option_fault.WordFault.TheVariants as fault
use Rattle.server_words.specs.declared.letter.Meaning.{Meaning}
use Rattle.server_words.specs.declared.letter.Meaning.TheVariants.{Unknown, NotInProfile, Valued, Plain}
use Rattle.server_words.specs.declared.option_words.Word.{Word}
use Rattle.server_words.specs.declared.option_words.Word.TheVariants as word
use Rattle.server_words.specs.Letters.{meaning_of}

-- a letter that was given, with the text of its value if it takes one
pub record LetterGiven : Type 0 where
  pub letter : ℕ
  pub value : Option (List ℕ)

-- the options given, in their order, and the words after them
pub record Reading : Type 0 where
  pub options : List LetterGiven
  pub rest : List (List ℕ)

-- what a reading answers: what it gives, or why the words are refused
abbrev pub Answer : Type 0
Answer = Result Reading WordFault

-- what the letters of one word give, and the letter that takes the next word as its value, if one does
pub record WordRead : Type 0 where
  pub options : List LetterGiven
  pub wanting : Option ℕ

-- what a word is: `--`, one that holds letters, or another
pub data WordKind : Type 0 where
  EndMark : WordKind
  Letters : List ℕ → WordKind
  Ordinary : WordKind

abbrev pub kind_after_dash : List ℕ → WordKind
kind_after_dash [] = Ordinary
kind_after_dash (c ∷ cs) = if c == 45 && length cs == 0 then EndMark else Letters (c ∷ cs)

-- the kind of a word with these characters
abbrev pub kind_of : List ℕ → WordKind
kind_of [] = Ordinary
kind_of (c ∷ cs) = if c == 45 then kind_after_dash cs else Ordinary

-- the kind that a word was found to be
abbrev pub word_kind : Word → WordKind
word_kind word.EndMark = EndMark
word_kind (word.Letters text) = Letters (chars text.now)
word_kind word.Ordinary = Ordinary

abbrev pub without_value : ℕ → LetterGiven
without_value letter = record { letter = letter; value = None }

abbrev pub with_value : ℕ → List ℕ → LetterGiven
with_value letter text = record { letter = letter; value = Some text }

-- no options, and these words after them
abbrev pub no_options : List (List ℕ) → Answer
no_options words = Ok (record { options = []; rest = words })

-- the same reading after more options
abbrev pub before : List LetterGiven → Answer → Answer
before options (Ok reading) = Ok (record { options = options ++ reading.options; rest = reading.rest })
before options (Err fault) = Err fault

-- the same reading after one more option
abbrev pub before_option : LetterGiven → Answer → Answer
before_option option answer = before (option ∷ []) answer

abbrev pub before_letters : List LetterGiven → Result WordRead WordFault → Result WordRead WordFault
before_letters options (Ok read) = Ok (record { options = options ++ read.options; wanting = read.wanting })
before_letters options (Err fault) = Err fault

-- a letter with a value takes the rest of its word, unless that is empty
abbrev pub value_in_rest : ℕ → List ℕ → WordRead
value_in_rest letter [] = record { options = []; wanting = Some letter }
value_in_rest letter (c ∷ cs) = record { options = with_value letter (encode_utf8_all (c ∷ cs)) ∷ []; wanting = None }

-- a letter with this meaning, the rest of its word, and what the rest gives as letters
abbrev pub by_meaning : Meaning → ℕ → List ℕ → Result WordRead WordFault → Result WordRead WordFault
by_meaning Plain letter rest later = before_letters (without_value letter ∷ []) later
by_meaning Valued letter rest later = Ok (value_in_rest letter rest)
by_meaning NotInProfile letter rest later = Err (fault.NotInProfile letter)
by_meaning Unknown letter rest later = Err (fault.Unknown letter)

-- what the letters of a word give
abbrev pub letters_read : List ℕ → List ℕ → Result WordRead WordFault
letters_read letters [] = Ok (record { options = []; wanting = None })
letters_read letters (c ∷ cs) = by_meaning (meaning_of letters c) c cs (letters_read letters cs)

-- a word's letters, and what the words after it give
abbrev pub after_letters : Result WordRead WordFault → (Option ℕ → Answer) → Answer
after_letters (Ok read) later = before read.options (later read.wanting)
after_letters (Err fault) later = Err fault

-- a word of this kind, the words after it, and what those give
abbrev pub by_kind : WordKind → List ℕ → List ℕ → List (List ℕ) → (Option ℕ → Answer) → Answer
by_kind EndMark letters word words later = no_options words
by_kind Ordinary letters word words later = no_options (word ∷ words)
by_kind (Letters cs) letters word words later = after_letters (letters_read letters cs) later

-- what no more words give, where a letter may want a value
abbrev pub at_end : Option ℕ → Answer
at_end None = no_options []
at_end (Some letter) = Err (fault.NoValue letter)

-- a word and the words after it, where a letter may want the word as its value
abbrev pub at_word : Option ℕ → List ℕ → List ℕ → List (List ℕ) → (Option ℕ → Answer) → Answer
at_word (Some letter) letters word words later = before_option (with_value letter word) (later None)
at_word None letters word words later = by_kind (kind_of (chars word)) letters word words later

-- the reading of words, the first of which a letter may want as its value
abbrev pub reading_from : List ℕ → List (List ℕ) → Option ℕ → Answer
reading_from letters [] wanting = at_end wanting
reading_from letters (word ∷ words) wanting = at_word wanting letters word words (reading_from letters words)

-- the reading of a program's words by the text of its letters
abbrev pub reading : List ℕ → List (List ℕ) → Answer
reading letters words = reading_from (chars letters) words None

-- the word is `--`
abbrev pub IsEndMark : List ℕ → Type 0
IsEndMark word = chars word ≡ 45 ∷ 45 ∷ []

-- the word is not longer than one `-`, or begins otherwise
abbrev pub IsOrdinary : List ℕ → Type 0
IsOrdinary word = (c : ℕ) (cs : List ℕ) → chars word ≢ 45 ∷ c ∷ cs

-- `Reads letters pending words answer`: with these characters still to be read of a word, and these words after it, the
-- answer is this
pub data Reads (letters : List ℕ) : List ℕ → List (List ℕ) → Answer → Type 0 where
  -- no more words
  no_words : Reads letters [] [] (no_options [])
  -- `--` ends the options and is dropped
  end_mark : (word : List ℕ) (words : List (List ℕ)) → IsEndMark word → Reads letters [] (word ∷ words) (no_options words)
  -- the first word that is not longer than one `-`, or begins otherwise, ends them and is kept
  other_word : (word : List ℕ) (words : List (List ℕ)) → IsOrdinary word → Reads letters [] (word ∷ words) (no_options (word ∷ words))
  -- another word holds letters
  letter_word : (word : List ℕ) (words : List (List ℕ)) (c : ℕ) (cs : List ℕ) (result : Answer)
      → chars word ≡ 45 ∷ c ∷ cs → ¬ IsEndMark word → Reads letters (c ∷ cs) words result → Reads letters [] (word ∷ words) result
  -- a letter without a value
  plain_letter : (c : ℕ) (cs : List ℕ) (words : List (List ℕ)) (result : Answer)
      → meaning_of letters c ≡ Plain → Reads letters cs words result → Reads letters (c ∷ cs) words (before_option (without_value c) result)
  -- a letter takes the rest of its word
  value_in_word : (c d : ℕ) (cs : List ℕ) (words : List (List ℕ)) (result : Answer)
      → meaning_of letters c ≡ Valued → Reads letters [] words result
      → Reads letters (c ∷ d ∷ cs) words (before_option (with_value c (encode_utf8_all (d ∷ cs))) result)
  -- a letter takes the next word, whatever that is
  value_in_next : (c : ℕ) (word : List ℕ) (words : List (List ℕ)) (result : Answer)
      → meaning_of letters c ≡ Valued → Reads letters [] words result
      → Reads letters (c ∷ []) (word ∷ words) (before_option (with_value c word) result)
  -- a letter has neither
  no_value : (c : ℕ) → meaning_of letters c ≡ Valued → Reads letters (c ∷ []) [] (Err (fault.NoValue c))
  -- a letter of another profile
  not_in_profile : (c : ℕ) (cs : List ℕ) (words : List (List ℕ))
      → meaning_of letters c ≡ NotInProfile → Reads letters (c ∷ cs) words (Err (fault.NotInProfile c))
  -- no letter of the program
  unknown : (c : ℕ) (cs : List ℕ) (words : List (List ℕ))
      → meaning_of letters c ≡ Unknown → Reads letters (c ∷ cs) words (Err (fault.Unknown c))

-- a refusal of words is what the rules give, or for want of memory
abbrev pub RefusesWords : List ℕ → List (List ℕ) → WordFault → Type 0
RefusesWords letters words fault.OutOfMemory = Unit {0}
RefusesWords letters words (fault.Unknown c) = Reads letters [] words (Err (fault.Unknown c))
RefusesWords letters words (fault.NoValue c) = Reads letters [] words (Err (fault.NoValue c))
RefusesWords letters words (fault.NotInProfile c) = Reads letters [] words (Err (fault.NotInProfile c))
RefusesWords letters words (fault.BadNumber c) = Reads letters [] words (Err (fault.BadNumber c))

-- a refusal is the one that is expected, or for want of memory
abbrev pub Refuses : {T : Type 0} → Result T WordFault → WordFault → Type 0
Refuses expected fault.OutOfMemory = Unit {0}
Refuses expected (fault.Unknown c) = expected ≡ Err (fault.Unknown c)
Refuses expected (fault.NoValue c) = expected ≡ Err (fault.NoValue c)
Refuses expected (fault.NotInProfile c) = expected ≡ Err (fault.NotInProfile c)
Refuses expected (fault.BadNumber c) = expected ≡ Err (fault.BadNumber c)
