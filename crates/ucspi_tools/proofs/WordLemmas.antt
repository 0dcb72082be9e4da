-- The words of a command line, as the bytes that they are.
use Rattle.std.proofs.Common.{◌≡◌, ℕ, zero, suc, refl, ◌<◌, ◌≤◌, Bool, true, false, ◌&&◌, cond, Vec, List, [], ◌∷◌, map, length, get_or, sym, ap, ◌∙◌, arith}
use Rattle.std.specs.declared.alloc.Global.{Global}
use Rattle.std.specs.Prelude.{IsUtf8}
use Rattle.std.specs.List.{list_all}
use Rattle.std.specs.Str.{is_utf8}
use Rattle.std.proofs.lemmas.Str.{is_utf8-from_IsUtf8}
use Rattle.stream_tools.proofs.WordLemmas.{is_utf8-no_text}
use Rattle.fault_hints.specs.declared.voice.Detail.{Detail}
use Rattle.fault_hints.specs.declared.voice.Voice.{Voice}
use Rattle.ucspi_tools.specs.declared.tool.Tool.TheVariants.{Tcprules, Tcprulescheck}
use Rattle.ucspi_tools.specs.Choices.{installs, checks, usage_of, detail_by, plain_detail, tcprules_at, tcprulescheck_at}

-- the bytes of each word
abbrev pub bytes_of : List (Vec ℕ Global) → List (List ℕ)
bytes_of words = map (λ (word : Vec ℕ Global). word.items) words

-- one word, and two
one_word : (words : List (Vec ℕ Global)) (word : Vec ℕ Global) → 1 ≤ length words → length words < 2 → word ≡ get_or words 0 word → bytes_of words ≡ word.items ∷ []
one_word [] word some few at = absurd (omega arith)
one_word (w ∷ []) word some few at = ap (λ (v : Vec ℕ Global). v.items ∷ []) (sym at)
one_word (w ∷ v ∷ words) word some few at = absurd (omega arith)

two_words : (words : List (Vec ℕ Global)) (first second : Vec ℕ Global) → 2 ≤ length words → length words < 3 → first ≡ get_or words 0 first → second ≡ get_or words 1 second → bytes_of words ≡ first.items ∷ second.items ∷ []
two_words [] first second some few at_first at_second = absurd (omega arith)
two_words (w ∷ []) first second some few at_first at_second = absurd (omega arith)
two_words (w ∷ v ∷ []) first second some few at_first at_second =
    ap (λ (u : Vec ℕ Global). u.items ∷ v.items ∷ []) (sym at_first) ∙ ap (λ (u : Vec ℕ Global). first.items ∷ u.items ∷ []) (sym at_second)
two_words (w ∷ v ∷ u ∷ words) first second some few at_first at_second = absurd (omega arith)

-- with one word that is no text not all are
and-false : (b : Bool) → (b && false) ≡ false
and-false true = refl
and-false false = refl

pub not_all_texts : (words : List (Vec ℕ Global)) (i : ℕ) (word : Vec ℕ Global) → i < length words → word ≡ get_or words i word → is_utf8 word.items ≡ false → list_all is_utf8 (bytes_of words) ≡ false
not_all_texts [] i word inside at no_text = absurd (omega arith)
not_all_texts (w ∷ words) zero word inside at no_text =
    ap (λ (v : Vec ℕ Global). is_utf8 v.items && list_all is_utf8 (bytes_of words)) (sym at) ∙ ap (λ b. b && list_all is_utf8 (bytes_of words)) no_text
not_all_texts (w ∷ words) (suc i) word inside at no_text =
    ap (λ b. is_utf8 w.items && b) (not_all_texts words i word (omega arith) at no_text) ∙ and-false (is_utf8 w.items)

-- what `tcprulescheck` has for its one word
module _ (voice : Voice) (verbose : Bool) (words : List (Vec ℕ Global)) (word : Vec ℕ Global) (some : 1 ≤ length words) (few : length words < 2) (at : word ≡ get_or words 0 word) (bytes : List ℕ) (held : bytes ≡ word.items) where
  check_by : (b : Bool) → is_utf8 bytes ≡ b → cond b (checks (detail_by voice verbose) bytes) (usage_of (plain_detail voice) Tcprulescheck) ≡ tcprulescheck_at voice verbose (bytes_of words)
  check_by b text =
      ap (λ t. cond t (checks (detail_by voice verbose) bytes) (usage_of (plain_detail voice) Tcprulescheck)) (sym text)
      ∙ sym (ap (tcprulescheck_at voice verbose) (one_word words word some few at ∙ ap (λ (w : List ℕ). w ∷ []) (sym held)))

  pub checks-text : (detail : Detail) (cdb : List ℕ) → detail ≡ detail_by voice verbose → cdb ≡ bytes → IsUtf8 bytes → checks detail cdb ≡ tcprulescheck_at voice verbose (bytes_of words)
  checks-text detail cdb told read text =
      ap (λ (d : Detail). checks d cdb) told ∙ ap (checks (detail_by voice verbose)) read ∙ check_by true (is_utf8-from_IsUtf8 bytes text)

  pub checks-no_text : ¬ IsUtf8 bytes → usage_of (plain_detail voice) Tcprulescheck ≡ tcprulescheck_at voice verbose (bytes_of words)
  checks-no_text no_text = check_by false (is_utf8-no_text bytes no_text)

-- and `tcprules` for its two
module _ (voice : Voice) (verbose : Bool) (words : List (Vec ℕ Global)) (first second : Vec ℕ Global) (some : 2 ≤ length words) (few : length words < 3) (at_first : first ≡ get_or words 0 first) (at_second : second ≡ get_or words 1 second) (one other : List ℕ) (held_one : one ≡ first.items) (held_other : other ≡ second.items) where
  install_by : (b : Bool) → (is_utf8 one && is_utf8 other) ≡ b → cond b (installs (detail_by voice verbose) one other) (usage_of (plain_detail voice) Tcprules) ≡ tcprules_at voice verbose (bytes_of words)
  install_by b texts =
      ap (λ t. cond t (installs (detail_by voice verbose) one other) (usage_of (plain_detail voice) Tcprules)) (sym texts)
      ∙ sym (ap (tcprules_at voice verbose) (two_words words first second some few at_first at_second
      ∙ ap (λ (w : List ℕ). w ∷ second.items ∷ []) (sym held_one) ∙ ap (λ (w : List ℕ). one ∷ w ∷ []) (sym held_other)))

  pub installs-texts : (detail : Detail) (cdb tmp : List ℕ) → detail ≡ detail_by voice verbose → (cdb ≡ one) × IsUtf8 one → (tmp ≡ other) × IsUtf8 other → installs detail cdb tmp ≡ tcprules_at voice verbose (bytes_of words)
  installs-texts detail cdb tmp told read_one read_other =
      ap (λ (d : Detail). installs d cdb tmp) told ∙ ap (λ (w : List ℕ). installs (detail_by voice verbose) w tmp) read_one.0
      ∙ ap (λ (w : List ℕ). installs (detail_by voice verbose) one w) read_other.0
      ∙ install_by true (ap (λ b. b && is_utf8 other) (is_utf8-from_IsUtf8 one read_one.1) ∙ is_utf8-from_IsUtf8 other read_other.1)

  pub installs-first_no_text : ¬ IsUtf8 one → usage_of (plain_detail voice) Tcprules ≡ tcprules_at voice verbose (bytes_of words)
  installs-first_no_text no_text =
      install_by false (ap (λ b. b && is_utf8 other) (is_utf8-no_text one no_text))

  pub installs-second_no_text : IsUtf8 one → ¬ IsUtf8 other → usage_of (plain_detail voice) Tcprules ≡ tcprules_at voice verbose (bytes_of words)
  installs-second_no_text text no_text =
      install_by false (ap (λ b. b && is_utf8 other) (is_utf8-from_IsUtf8 one text) ∙ is_utf8-no_text other no_text)
