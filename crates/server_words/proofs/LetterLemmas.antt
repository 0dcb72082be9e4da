-- What the letters of a word give, letter by letter.
use Rattle.std.proofs.Common.{◌≡◌, ℕ, ◌<◌, List, [], ◌∷◌, ◌++◌, length, Option, Some, None, Result, Ok, Err, refl, sym, ap, ◌∙◌, arith, append_assoc}
use Rattle.std.specs.Str.{IsUtf8, chars, encode_utf8_all}
use Rattle.std.proofs.lemmas.List.{append-nil}
use Rattle.std.proofs.lemmas.Str.{chars-nil, encodes-chars}
use Rattle.server_words.specs.declared.option_fault.WordFault.{WordFault}
use Rattle.server_words.specs.declared.option_fault.WordFault.TheVariants as fault
use Rattle.server_words.specs.declared.letter.Meaning.{Meaning}
use Rattle.server_words.specs.declared.letter.Meaning.TheVariants.{Unknown, NotInProfile, Valued, Plain}
use Rattle.server_words.specs.Letters.{meaning_of}
use Rattle.server_words.specs.Words.{LetterGiven, WordRead, Refuses, without_value, with_value, before_letters, value_in_rest, by_meaning, letters_read}

-- options before options
pub before_letters-append : (gs hs : List LetterGiven) (r : Result WordRead WordFault) → before_letters (gs ++ hs) r ≡ before_letters gs (before_letters hs r)
before_letters-append gs hs (Ok read) =
    ap (λ (os : List LetterGiven). Ok (record { options = os; wanting = read.wanting })) (append_assoc gs hs read.options)
before_letters-append gs hs (Err f) = refl

-- nothing after the options
pub before_letters-nil : (gs : List LetterGiven) (wanting : Option ℕ) → before_letters gs (Ok (record { options = []; wanting = wanting })) ≡ Ok (record { options = gs; wanting = wanting })
before_letters-nil gs wanting =
    ap (λ (os : List LetterGiven). Ok (record { options = os; wanting = wanting })) (append-nil gs)

-- where nothing is left of its word, a letter wants the next one
pub value_in_rest-nothing : (letter : ℕ) (rest : List ℕ) → length rest ≡ 0 → value_in_rest letter (chars rest) ≡ record { options = []; wanting = Some letter }
value_in_rest-nothing letter [] empty = ap (value_in_rest letter) chars-nil
value_in_rest-nothing letter (b ∷ bs) empty = absurd (omega arith)

value_in_rest-encodes : (letter : ℕ) (cs rest : List ℕ) → encode_utf8_all cs ≡ rest → 0 < length rest → value_in_rest letter cs ≡ record { options = with_value letter rest ∷ []; wanting = None }
value_in_rest-encodes letter [] rest same some = absurd (omega (arith, ap length same))
value_in_rest-encodes letter (c ∷ cs) rest same some =
    ap (λ (text : List ℕ). record { options = with_value letter text ∷ []; wanting = None }) same

-- else it takes what is left
pub value_in_rest-rest : (letter : ℕ) (rest : List ℕ) → IsUtf8 rest → 0 < length rest → value_in_rest letter (chars rest) ≡ record { options = with_value letter rest ∷ []; wanting = None }
value_in_rest-rest letter rest utf8 some = value_in_rest-encodes letter (chars rest) rest (encodes-chars rest utf8) some

module _ (letters : List ℕ) (options : List LetterGiven) (cs ds : List ℕ) (c : ℕ) (first : cs ≡ c ∷ ds) where
  at_first : (meaning : Meaning) → meaning_of letters c ≡ meaning → before_letters options (letters_read letters cs) ≡ before_letters options (by_meaning meaning c ds (letters_read letters ds))
  at_first meaning is =
      ap (λ xs. before_letters options (letters_read letters xs)) first
      ∙ ap (λ m. before_letters options (by_meaning m c ds (letters_read letters ds))) is

  -- a letter without a value
  pub letters_read-without_value : (more : List LetterGiven) → meaning_of letters c ≡ Plain → more ≡ options ++ without_value c ∷ [] → before_letters more (letters_read letters ds) ≡ before_letters options (letters_read letters cs)
  letters_read-without_value more is added =
      ap (λ os. before_letters os (letters_read letters ds)) added
      ∙ before_letters-append options (without_value c ∷ []) (letters_read letters ds) ∙ sym (at_first Plain is)

  -- one with a value
  pub letters_read-value_in_rest : meaning_of letters c ≡ Valued → before_letters options (letters_read letters cs) ≡ before_letters options (Ok (value_in_rest c ds))
  letters_read-value_in_rest is = at_first Valued is

  -- one that is not in this profile
  pub letters_read-not_in_profile : meaning_of letters c ≡ NotInProfile → before_letters options (letters_read letters cs) ≡ Err (fault.NotInProfile c)
  letters_read-not_in_profile is = at_first NotInProfile is

  -- no letter
  pub letters_read-unknown : meaning_of letters c ≡ Unknown → before_letters options (letters_read letters cs) ≡ Err (fault.Unknown c)
  letters_read-unknown is = at_first Unknown is

-- no letters
pub letters_read-nil : (letters : List ℕ) (options : List LetterGiven) (cs : List ℕ) → cs ≡ [] → before_letters options (letters_read letters cs) ≡ Ok (record { options = options; wanting = None })
letters_read-nil letters options cs none =
    ap (λ xs. before_letters options (letters_read letters xs)) none ∙ before_letters-nil options None

-- an expected fault is a refusal
pub Refuses-same : {T : Type 0} (expected : Result T WordFault) (f : WordFault) → expected ≡ Err f → Refuses expected f
Refuses-same expected fault.OutOfMemory is = tt
Refuses-same expected (fault.Unknown c) is = is
Refuses-same expected (fault.NoValue c) is = is
Refuses-same expected (fault.NotInProfile c) is = is
Refuses-same expected (fault.BadNumber c) is = is

-- a refusal of a part is one of the whole
pub Refuses-whole : {S T : Type 0} (part : Result S WordFault) (whole : Result T WordFault) (f : WordFault) → ((g : WordFault) → part ≡ Err g → whole ≡ Err g) → Refuses part f → Refuses whole f
Refuses-whole part whole fault.OutOfMemory on is = tt
Refuses-whole part whole (fault.Unknown c) on is = on (fault.Unknown c) is
Refuses-whole part whole (fault.NoValue c) on is = on (fault.NoValue c) is
Refuses-whole part whole (fault.NotInProfile c) on is = on (fault.NotInProfile c) is
Refuses-whole part whole (fault.BadNumber c) on is = on (fault.BadNumber c) is
