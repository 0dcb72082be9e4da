-- Options in their places.
use Rattle.std.proofs.Common.{◌≡◌, ◌≢◌, ℕ, ◌+◌, ◌<◌, Bool, true, false, cond, ◌||◌, List, [], ◌∷◌, ◌++◌, map, reverse, length, take, get_or, Option, Some, option_map, find, ◌==◌, refl, sym, ap, ◌∙◌}
use Rattle.std.specs.Borrow.{Bor}
use Rattle.std.specs.List.{list_any}
use Rattle.std.proofs.lemmas.Bool.{eq-eqb, eqb-true, false_from_ne_true}
use Rattle.std.proofs.lemmas.List.{reverse-append, map_more}
use Rattle.server_words.specs.declared.options.OptionGiven.{OptionGiven}
use Rattle.server_words.specs.OptionWords.{letter_of, last_given, last_of}
use Rattle.server_words.specs.Words.{LetterGiven}

-- a test of the letters
pub list_any-letters : (p : LetterGiven → Bool) (gs : List OptionGiven) → list_any (λ g. p (letter_of g)) gs ≡ list_any p (map letter_of gs)
list_any-letters p [] = refl
list_any-letters p (g ∷ gs) = ap (λ t. p (letter_of g) || t) (list_any-letters p gs)

-- the last that passes a test, with one option more
find_last-more : (p : LetterGiven → Bool) (gs : List LetterGiven) (g : LetterGiven) → find p (reverse (gs ++ g ∷ [])) ≡ cond (p g) (Some g) (find p (reverse gs))
find_last-more p gs g = ap (find p) (reverse-append gs (g ∷ []))

letter_chosen : (b : Bool) (g : LetterGiven) (found : Option LetterGiven) → option_map (λ (g : LetterGiven). g.letter) (cond b (Some g) found) ≡ cond b (Some (g.letter)) (option_map (λ (g : LetterGiven). g.letter) found)
letter_chosen true g found = refl
letter_chosen false g found = refl

module _ (gs : List OptionGiven) (i : ℕ) (d : OptionGiven) (within : i < length gs) where
  last_given-more : (letter : ℕ) → last_given (map letter_of (take (i + 1) gs)) letter ≡ cond ((get_or gs i d).letter == letter) (Some (letter_of (get_or gs i d))) (last_given (map letter_of (take i gs)) letter)
  last_given-more letter =
      ap (λ (os : List LetterGiven). last_given os letter) (map_more letter_of gs i d within)
      ∙ find_last-more (λ (g : LetterGiven). g.letter == letter) (map letter_of (take i gs)) (letter_of (get_or gs i d))

  last_of-more : (letters : List ℕ) → last_of (map letter_of (take (i + 1) gs)) letters ≡ cond (list_any (λ letter. letter == (get_or gs i d).letter) letters) (Some ((get_or gs i d).letter)) (last_of (map letter_of (take i gs)) letters)
  last_of-more letters =
      ap (λ (os : List LetterGiven). last_of os letters) (map_more letter_of gs i d within)
      ∙ ap (option_map (λ (g : LetterGiven). g.letter)) (find_last-more (λ (g : LetterGiven). list_any (λ letter. letter == g.letter) letters) (map letter_of (take i gs)) (letter_of (get_or gs i d)))
      ∙ letter_chosen (list_any (λ letter. letter == (get_or gs i d).letter) letters) (letter_of (get_or gs i d)) (find (λ (g : LetterGiven). list_any (λ letter. letter == g.letter) letters) (reverse (map letter_of (take i gs))))

  -- an option with the letter, and one with another
  pub last_given-this : (letter : ℕ) (now : Option (Bor OptionGiven)) (g : Bor OptionGiven) → now ≡ Some g → g.now ≡ get_or gs i d → (get_or gs i d).letter ≡ letter → option_map (λ (given : Bor OptionGiven). letter_of given.now) now ≡ last_given (map letter_of (take (i + 1) gs)) letter
  last_given-this letter now g is here same =
      ap (option_map (λ (given : Bor OptionGiven). letter_of given.now)) is ∙ ap (λ (given : OptionGiven). Some (letter_of given)) here
      ∙ sym (last_given-more letter ∙ ap (λ b. cond b (Some (letter_of (get_or gs i d))) (last_given (map letter_of (take i gs)) letter)) (eq-eqb ((get_or gs i d).letter) letter same))

  pub last_given-other : (letter : ℕ) (now before : Option (Bor OptionGiven)) → now ≡ before → option_map (λ (given : Bor OptionGiven). letter_of given.now) before ≡ last_given (map letter_of (take i gs)) letter → (get_or gs i d).letter ≢ letter → option_map (λ (given : Bor OptionGiven). letter_of given.now) now ≡ last_given (map letter_of (take (i + 1) gs)) letter
  last_given-other letter now before is so_far other =
      ap (option_map (λ (given : Bor OptionGiven). letter_of given.now)) is ∙ so_far
      ∙ sym (last_given-more letter ∙ ap (λ b. cond b (Some (letter_of (get_or gs i d))) (last_given (map letter_of (take i gs)) letter)) (false_from_ne_true ((get_or gs i d).letter == letter) (λ same. other (eqb-true ((get_or gs i d).letter) letter same))))

  -- an option with one of the letters, and one with none
  pub last_of-this : (letters : List ℕ) (now : Option ℕ) → now ≡ Some ((get_or gs i d).letter) → list_any (λ letter. letter == (get_or gs i d).letter) letters ≡ true → now ≡ last_of (map letter_of (take (i + 1) gs)) letters
  last_of-this letters now is any =
      is ∙ sym (last_of-more letters ∙ ap (λ b. cond b (Some ((get_or gs i d).letter)) (last_of (map letter_of (take i gs)) letters)) any)

  pub last_of-other : (letters : List ℕ) (now before : Option ℕ) → now ≡ before → before ≡ last_of (map letter_of (take i gs)) letters → list_any (λ letter. letter == (get_or gs i d).letter) letters ≡ false → now ≡ last_of (map letter_of (take (i + 1) gs)) letters
  last_of-other letters now before is so_far none =
      is ∙ so_far ∙ sym (last_of-more letters ∙ ap (λ b. cond b (Some ((get_or gs i d).letter)) (last_of (map letter_of (take i gs)) letters)) none)
