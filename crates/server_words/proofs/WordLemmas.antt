-- What words give, word by word.
use Rattle.std.proofs.Common.{◌≡◌, ◌≢◌, ℕ, false, cond, eqb, ◌&&◌, List, [], ◌∷◌, ◌++◌, length, Option, None, Result, Ok, Err, refl, sym, ap, ◌∙◌, arith, append_assoc}
use Rattle.std.specs.Str.{IsUtf8, chars, encode_utf8_all}
use Rattle.std.proofs.lemmas.Bool.{eqb-true, and_parts, false_from_ne_true}
use Rattle.std.proofs.lemmas.List.{append-nil}
use Rattle.std.proofs.lemmas.Str.{chars-nil, encodes-chars}
use Rattle.server_words.specs.declared.option_fault.WordFault.{WordFault}
use Rattle.server_words.specs.Words.{LetterGiven, WordRead, Reading, WordKind, EndMark, Letters, Ordinary, kind_of, before, before_letters, letters_read, after_letters, by_kind, reading_from, Refuses}
use Rattle.server_words.proofs.LetterLemmas.{Refuses-whole}

-- options before options
pub before-append : (gs hs : List LetterGiven) (r : Result Reading WordFault) → before (gs ++ hs) r ≡ before gs (before hs r)
before-append gs hs (Ok reading) =
    ap (λ (os : List LetterGiven). Ok (record { options = os; rest = reading.rest })) (append_assoc gs hs reading.options)
before-append gs hs (Err f) = refl

-- no options before
pub before-none : (r : Result Reading WordFault) → before [] r ≡ r
before-none (Ok reading) = refl
before-none (Err f) = refl

-- no options after
pub before-nil : (gs : List LetterGiven) (rest : List (List ℕ)) → before gs (Ok (record { options = []; rest = rest })) ≡ Ok (record { options = gs; rest = rest })
before-nil gs rest = ap (λ (os : List LetterGiven). Ok (record { options = os; rest = rest })) (append-nil gs)

-- options before a word's letters
pub after_letters-before : (gs : List LetterGiven) (r : Result WordRead WordFault) (later : Option ℕ → Result Reading WordFault) → after_letters (before_letters gs r) later ≡ before gs (after_letters r later)
after_letters-before gs (Ok read) later = before-append gs read.options (later read.wanting)
after_letters-before gs (Err f) later = refl

module _ (letters : List ℕ) (options : List LetterGiven) (word : List ℕ) (words : List (List ℕ)) where
  at_kind : (kind : WordKind) → kind ≡ kind_of (chars word) → before options (reading_from letters (word ∷ words) None) ≡ before options (by_kind kind letters word words (reading_from letters words))
  at_kind kind is =
      ap (λ k. before options (by_kind k letters word words (reading_from letters words))) (sym is)

  -- `--`
  pub reading_from-end_mark : EndMark ≡ kind_of (chars word) → before options (reading_from letters (word ∷ words) None) ≡ Ok (record { options = options; rest = words })
  reading_from-end_mark is = at_kind EndMark is ∙ before-nil options words

  -- another word
  pub reading_from-ordinary : Ordinary ≡ kind_of (chars word) → before options (reading_from letters (word ∷ words) None) ≡ Ok (record { options = options; rest = word ∷ words })
  reading_from-ordinary is = at_kind Ordinary is ∙ before-nil options (word ∷ words)

  at_letters : (cs : List ℕ) → Letters cs ≡ kind_of (chars word) → before options (reading_from letters (word ∷ words) None) ≡ after_letters (before_letters options (letters_read letters cs)) (reading_from letters words)
  at_letters cs is =
      at_kind (Letters cs) is ∙ sym (after_letters-before options (letters_read letters cs) (reading_from letters words))

  -- letters that are read
  pub reading_from-letters : (cs : List ℕ) (more : List LetterGiven) (wanting : Option ℕ) → Letters cs ≡ kind_of (chars word) → before_letters options (letters_read letters cs) ≡ Ok (record { options = more; wanting = wanting }) → before options (reading_from letters (word ∷ words) None) ≡ before more (reading_from letters words wanting)
  reading_from-letters cs more wanting is read =
      at_letters cs is ∙ ap (λ r. after_letters r (reading_from letters words)) read

  -- letters that are refused
  pub reading_from-refused : (cs : List ℕ) (f : WordFault) → Letters cs ≡ kind_of (chars word) → before_letters options (letters_read letters cs) ≡ Err f → before options (reading_from letters (word ∷ words) None) ≡ Err f
  reading_from-refused cs f is refused =
      at_letters cs is ∙ ap (λ r. after_letters r (reading_from letters words)) refused

-- a list without elements
pub nil_from_length : {T : Type 0} (xs : List T) → length xs ≡ 0 → xs ≡ []
nil_from_length [] none = refl
nil_from_length (x ∷ xs) none = absurd (omega arith)

-- a text without bytes has no characters, and one with bytes has some
pub chars-empty : (text : List ℕ) → length text ≡ 0 → chars text ≡ []
chars-empty text none = ap chars (nil_from_length text none) ∙ chars-nil

pub chars-some : (text : List ℕ) → IsUtf8 text → (length text ≡ 0 → ⊥) → chars text ≢ []
chars-some text utf8 some none = some (ap length (sym (encodes-chars text utf8) ∙ ap encode_utf8_all none))

-- `--`
pub kind_of-end_mark : (cs ds es : List ℕ) (a b : ℕ) → cs ≡ a ∷ ds → a ≡ 45 → ds ≡ b ∷ es → b ≡ 45 → es ≡ [] → EndMark ≡ kind_of cs
kind_of-end_mark cs ds es a b first dash second end none =
    let is : cs ≡ 45 ∷ 45 ∷ [] = cc in
    sym (ap kind_of is)

-- a word of letters
pub kind_of-letters : (cs ds es : List ℕ) (a b : ℕ) → cs ≡ a ∷ ds → a ≡ 45 → ds ≡ b ∷ es → (b ≡ 45 → es ≢ []) → Letters ds ≡ kind_of cs
kind_of-letters cs ds es a b first dash second no_end =
    let is : cs ≡ 45 ∷ b ∷ es = cc in
    let test : eqb b 45 && eqb (length es) 0 ≡ false = false_from_ne_true (eqb b 45 && eqb (length es) 0) (λ both.
    let parts = and_parts (eqb b 45) (eqb (length es) 0) both in
    no_end (eqb-true b 45 parts.0) (nil_from_length es (eqb-true (length es) 0 parts.1))) in
    ap Letters second ∙ sym (ap kind_of is ∙ ap (λ t. cond t EndMark (Letters (b ∷ es))) test)

-- a refusal of what follows a word of letters
pub Refuses-later : (letters : List ℕ) (options more : List LetterGiven) (words rest : List (List ℕ)) (word : List ℕ) (after : List (List ℕ)) (cs : List ℕ) (wanting : Option ℕ) (f : WordFault) → before options (reading_from letters rest None) ≡ reading_from letters words None → rest ≡ word ∷ after → Letters cs ≡ kind_of (chars word) → before_letters options (letters_read letters cs) ≡ Ok (record { options = more; wanting = wanting }) → Refuses (reading_from letters after wanting) f → Refuses (reading_from letters words None) f
Refuses-later letters options more words rest word after cs wanting f so_far first is read refused =
    let whole : before more (reading_from letters after wanting) ≡ reading_from letters words None =
    sym (reading_from-letters letters options word after cs more wanting is read)
    ∙ (sym (ap (λ ws. before options (reading_from letters ws None)) first) ∙ so_far) in
    Refuses-whole (reading_from letters after wanting) (reading_from letters words None) f (λ g e. sym whole ∙ ap (before more) e) refused
