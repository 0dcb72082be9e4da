-- The reading of words is exactly what the rules allow.
use Rattle.std.proofs.Common.{◌≡◌, ◌≢◌, ℕ, Bool, true, false, cond, eqb, ◌&&◌, List, [], ◌∷◌, length, Some, None, Result, refl, sym, ap, ◌∙◌, subst}
use Rattle.std.specs.Str.{chars, encode_utf8_all}
use Rattle.std.proofs.lemmas.Bool.{false≢true, and_parts, eqb-true}
use Rattle.server_words.specs.declared.option_fault.WordFault.{WordFault}
use Rattle.server_words.specs.declared.option_fault.WordFault.TheVariants as fault
use Rattle.server_words.specs.declared.letter.Meaning.{Meaning}
use Rattle.server_words.specs.declared.letter.Meaning.TheVariants.{Unknown, NotInProfile, Valued, Plain}
use Rattle.server_words.specs.Letters.{meaning_of}
use Rattle.server_words.specs.Words.{Reading, EndMark, Letters, Ordinary, Reads, no_words, end_mark, other_word, letter_word, plain_letter, value_in_word, value_in_next, no_value, not_in_profile, unknown, kind_after_dash, kind_of, without_value, with_value, before, by_meaning, letters_read, after_letters, by_kind, reading, reading_from, Refuses, RefusesWords}
use Rattle.server_words.proofs.WordLemmas.{before-none, after_letters-before, nil_from_length}

-- a word that is no option
dashed : (c d : ℕ) (ds : List ℕ) (t : Bool) → eqb c 45 ≡ t → ((e : ℕ) (es : List ℕ) → c ∷ d ∷ ds ≢ 45 ∷ e ∷ es) → cond t (kind_after_dash (d ∷ ds)) Ordinary ≡ Ordinary
dashed c d ds true dash other = absurd (other d ds (ap (λ x. x ∷ d ∷ ds) (eqb-true c 45 dash)))
dashed c d ds false dash other = refl

kind_of-other : (cs : List ℕ) → ((c : ℕ) (ds : List ℕ) → cs ≢ 45 ∷ c ∷ ds) → kind_of cs ≡ Ordinary
kind_of-other [] other = refl
kind_of-other (c ∷ []) other = elim (eqb c 45) as (λ t. cond t Ordinary Ordinary ≡ Ordinary) [ true ↦ refl | false ↦ refl ]
kind_of-other (c ∷ d ∷ ds) other = dashed c d ds (eqb c 45) refl other

-- `-` alone behind the first one
alone : (c : ℕ) (ds : List ℕ) → eqb c 45 && eqb (length ds) 0 ≡ true → 45 ∷ c ∷ ds ≡ 45 ∷ 45 ∷ []
alone c ds both =
    let first : c ≡ 45 = eqb-true c 45 (and_parts (eqb c 45) (eqb (length ds) 0) both).0 in
    let none : ds ≡ [] = nil_from_length ds (eqb-true (length ds) 0 (and_parts (eqb c 45) (eqb (length ds) 0) both).1) in
    cc

not_end : (c : ℕ) (ds : List ℕ) (t : Bool) → eqb c 45 && eqb (length ds) 0 ≡ t → (45 ∷ c ∷ ds ≢ 45 ∷ 45 ∷ []) → cond t EndMark (Letters (c ∷ ds)) ≡ Letters (c ∷ ds)
not_end c ds true both no_end = absurd (no_end (alone c ds both))
not_end c ds false both no_end = refl

-- a word of letters
kind_of-letters : (cs : List ℕ) (c : ℕ) (ds : List ℕ) → cs ≡ 45 ∷ c ∷ ds → cs ≢ 45 ∷ 45 ∷ [] → kind_of cs ≡ Letters (c ∷ ds)
kind_of-letters cs c ds is no_end = ap kind_of is ∙ not_end c ds (eqb c 45 && eqb (length ds) 0) refl (λ end. no_end (is ∙ end))

-- what stands behind a `-` in `--`
is_end : (word : List ℕ) (d : ℕ) (es : List ℕ) → chars word ≡ 45 ∷ d ∷ es → chars word ≡ 45 ∷ 45 ∷ [] → eqb d 45 && eqb (length es) 0 ≡ true
is_end word d es is same =
    let first : d ≡ 45 = cc in
    let none : es ≡ [] = cc in
    ap (λ x. eqb x 45 && eqb (length es) 0) first ∙ ap (λ xs. eqb (length xs) 0) none

module _ (letters : List ℕ) where
  -- what the letters still to be read and the words after them give
  abbrev whole : List ℕ → List (List ℕ) → Result Reading WordFault
  whole pending words = after_letters (letters_read letters pending) (reading_from letters words)

  at_meaning : (c : ℕ) (cs : List ℕ) (words : List (List ℕ)) (meaning : Meaning) → meaning_of letters c ≡ meaning → after_letters (by_meaning meaning c cs (letters_read letters cs)) (reading_from letters words) ≡ whole (c ∷ cs) words
  at_meaning c cs words meaning is =
      sym (ap (λ m. after_letters (by_meaning m c cs (letters_read letters cs)) (reading_from letters words)) is)

  -- what the rules allow is the reading
  reads-whole : {pending : List ℕ} {words : List (List ℕ)} {result : Result Reading WordFault} → Reads letters pending words result → result ≡ whole pending words
  reads-whole no_words = refl
  reads-whole (end_mark word words is) =
      sym (ap (λ cs. before [] (by_kind (kind_of cs) letters word words (reading_from letters words))) is)
  reads-whole (other_word word words other) =
      sym (ap (λ k. before [] (by_kind k letters word words (reading_from letters words))) (kind_of-other (chars word) other))
  reads-whole (letter_word word words c cs result is no_end reads) =
      reads-whole reads ∙ sym (before-none (whole (c ∷ cs) words))
      ∙ sym (ap (λ k. before [] (by_kind k letters word words (reading_from letters words))) (kind_of-letters (chars word) c cs is no_end))
  reads-whole (plain_letter c cs words result is reads) =
      ap (before (without_value c ∷ [])) (reads-whole reads)
      ∙ sym (after_letters-before (without_value c ∷ []) (letters_read letters cs) (reading_from letters words)) ∙ at_meaning c cs words Plain is
  reads-whole (value_in_word c d cs words result is reads) =
      ap (before (with_value c (encode_utf8_all (d ∷ cs)) ∷ [])) (reads-whole reads ∙ before-none (reading_from letters words None))
      ∙ at_meaning c (d ∷ cs) words Valued is
  reads-whole (value_in_next c word words result is reads) =
      ap (before (with_value c word ∷ [])) (reads-whole reads ∙ before-none (reading_from letters words None))
      ∙ sym (before-none (before (with_value c word ∷ []) (reading_from letters words None))) ∙ at_meaning c [] (word ∷ words) Valued is
  reads-whole (no_value c is) = at_meaning c [] [] Valued is
  reads-whole (not_in_profile c cs words is) = at_meaning c cs words NotInProfile is
  reads-whole (unknown c cs words is) = at_meaning c cs words Unknown is

  -- the reading is what the rules allow, given that it is so from the next word on
  module _ (words : List (List ℕ)) (next : Reads letters [] words (reading_from letters words None)) (taking : (c : ℕ) → meaning_of letters c ≡ Valued → Reads letters (c ∷ []) words (reading_from letters words (Some c))) where
    pending-value_in_rest : (c : ℕ) (cs : List ℕ) → meaning_of letters c ≡ Valued → Reads letters (c ∷ cs) words (after_letters (by_meaning Valued c cs (letters_read letters cs)) (reading_from letters words))
    pending-value_in_rest c [] is =
        subst (λ r. Reads letters (c ∷ []) words r) (sym (before-none (reading_from letters words (Some c)))) (taking c is)
    pending-value_in_rest c (d ∷ ds) is = value_in_word c d ds words (reading_from letters words None) is next

    pending-by : (c : ℕ) (cs : List ℕ) (meaning : Meaning) → meaning_of letters c ≡ meaning → Reads letters cs words (whole cs words) → Reads letters (c ∷ cs) words (after_letters (by_meaning meaning c cs (letters_read letters cs)) (reading_from letters words))
    pending-by c cs Plain is later =
        subst (λ r. Reads letters (c ∷ cs) words r) (sym (after_letters-before (without_value c ∷ []) (letters_read letters cs) (reading_from letters words))) (plain_letter c cs words (whole cs words) is later)
    pending-by c cs Valued is later = pending-value_in_rest c cs is
    pending-by c cs NotInProfile is later = not_in_profile c cs words is
    pending-by c cs Unknown is later = unknown c cs words is

    whole-pending : (pending : List ℕ) → Reads letters pending words (whole pending words)
    whole-pending [] =
        subst (λ r. Reads letters [] words r) (sym (before-none (reading_from letters words None))) next
    whole-pending (c ∷ cs) = pending-by c cs (meaning_of letters c) refl (whole-pending cs)

    -- a word whose characters are these
    word-letters : (word : List ℕ) (d : ℕ) (es : List ℕ) (t : Bool) → eqb d 45 && eqb (length es) 0 ≡ t → chars word ≡ 45 ∷ d ∷ es → Reads letters [] (word ∷ words) (by_kind (cond t EndMark (Letters (d ∷ es))) letters word words (reading_from letters words))
    word-letters word d es true end is = end_mark word words (is ∙ alone d es end)
    word-letters word d es false no_end is =
        letter_word word words d es (whole (d ∷ es) words) is (λ same. false≢true (sym no_end ∙ is_end word d es is same)) (whole-pending (d ∷ es))

    word-dash : (word : List ℕ) (ds : List ℕ) → chars word ≡ 45 ∷ ds → Reads letters [] (word ∷ words) (by_kind (kind_after_dash ds) letters word words (reading_from letters words))
    word-dash word [] is = other_word word words (λ c ds same. cc)
    word-dash word (d ∷ es) is = word-letters word d es (eqb d 45 && eqb (length es) 0) refl is

    word-first : (word : List ℕ) (c : ℕ) (ds : List ℕ) (t : Bool) → eqb c 45 ≡ t → chars word ≡ c ∷ ds → Reads letters [] (word ∷ words) (by_kind (cond t (kind_after_dash ds) Ordinary) letters word words (reading_from letters words))
    word-first word c ds true dash is = word-dash word ds (is ∙ ap (λ x. x ∷ ds) (eqb-true c 45 dash))
    word-first word c ds false other is = other_word word words (λ d es same. let first : c ≡ 45 = cc in false≢true (sym other ∙ ap (λ x. eqb x 45) first))

    word-chars : (word cs : List ℕ) → chars word ≡ cs → Reads letters [] (word ∷ words) (by_kind (kind_of cs) letters word words (reading_from letters words))
    word-chars word [] is = other_word word words (λ c ds same. cc)
    word-chars word (c ∷ ds) is = word-first word c ds (eqb c 45) refl is

  reading-both : (words : List (List ℕ)) → Reads letters [] words (reading_from letters words None) × ((c : ℕ) → meaning_of letters c ≡ Valued → Reads letters (c ∷ []) words (reading_from letters words (Some c)))
  reading-both [] = (no_words, λ c is. no_value c is)
  reading-both (word ∷ words) =
      let both = reading-both words in
      (word-chars words both.0 both.1 word (chars word) refl, λ c is. value_in_next c word words (reading_from letters words None) is both.0)

  -- the rules allow the reading, and nothing else
  pub reads-from_reading : (words : List (List ℕ)) (result : Result Reading WordFault) → result ≡ reading_from letters words None → Reads letters [] words result
  reads-from_reading words result is = subst (λ r. Reads letters [] words r) (sym is) (reading-both words).0

  pub reading-from_reads : (words : List (List ℕ)) (result : Result Reading WordFault) → Reads letters [] words result → result ≡ reading_from letters words None
  reading-from_reads words result reads = reads-whole reads ∙ before-none (reading_from letters words None)

-- a refusal of the function is one by the rules
pub refused_by_rules : (text : List ℕ) (words : List (List ℕ)) (f : WordFault) → Refuses (reading text words) f → RefusesWords (chars text) words f
refused_by_rules text words fault.OutOfMemory is = tt
refused_by_rules text words (fault.Unknown c) is = reads-from_reading (chars text) words _ (sym is)
refused_by_rules text words (fault.NoValue c) is = reads-from_reading (chars text) words _ (sym is)
refused_by_rules text words (fault.NotInProfile c) is = reads-from_reading (chars text) words _ (sym is)
refused_by_rules text words (fault.BadNumber c) is = reads-from_reading (chars text) words _ (sym is)
