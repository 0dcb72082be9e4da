-- The words and the entries that were found so far, and those from a position on.
use Rattle.std.proofs.Common.{◌≡◌, ℕ, zero, suc, ◌+◌, Bool, true, false, cond, eqb, List, [], ◌∷◌, ◌++◌, length, drop, Vec, refl, sym, ap, ◌∙◌, append_assoc, subst, arith, rules, add-one, drop-cons}
use Rattle.std.specs.Prelude.{Option, Some, None, IsUtf8, not, ◌&&◌, slice_get}
use Rattle.std.specs.Borrow.{Bor}
use Rattle.std.specs.List.{list_any, before_first, after_first, position_or_len}
use Rattle.std.proofs.lemmas.Bool.{eqb-true}
use Rattle.std.proofs.lemmas.List.{append-nil, map-append}
use Rattle.std.proofs.lemmas.List.Elements.{All-from_get_or}
use Rattle.std.proofs.lemmas.List.Folds.{list_any_none}
use Rattle.std.proofs.lemmas.List.Sums.{fails_before_first}
use Rattle.std.proofs.lemmas.Str.{is_utf8-from_IsUtf8}
use Rattle.std.proofs.lemmas.Str.Pattern.{IsSplitOnceResult, split_once_first}
use Rattle.std.proofs.lemmas.Option.{slice_get_within, get_or_from_slice_get}
use Rattle.std.specs.declared.alloc.Global.{Global}
use Rattle.stream_tools.specs.Programs.{texts_of}
use Rattle.stream_tools.specs.Entries.{is_empty, is_equals, variable_in, variable_of, with_entries, with_found}
use Rattle.stream_tools.proofs.WordLemmas.{is_utf8-no_text}
use Rattle.child_jobs.specs.Variables.{Variable, Variables}

-- what stands at a position is the first of what stands from there on
drop_found : (all : List (List ℕ)) (i : ℕ) (text : List ℕ) → slice_get all i ≡ Some text → drop i all ≡ text ∷ drop (i + 1) all
drop_found all i text at =
    drop-cons all i text (slice_get_within all i text at)
    ∙ ap (λ t. t ∷ drop (suc i) all) (get_or_from_slice_get all i text text at)
    ∙ ap (λ n. text ∷ drop n all) (sym (add-one i))

-- and where nothing stands, nothing stands from there on
drop_none : (all : List (List ℕ)) (i : ℕ) → slice_get all i ≡ None → drop i all ≡ []
drop_none [] zero none = refl
drop_none [] (suc i) none = refl
drop_none (x ∷ all) zero none = search rules
drop_none (x ∷ all) (suc i) none = drop_none all i none

-- one word more, and all words
pub word_more : (all : List (List ℕ)) (words after : List (Vec ℕ Global)) (word : Vec ℕ Global) (i : ℕ)
    → texts_of words ++ drop i all ≡ drop 1 all → Some word.items ≡ slice_get all i → after ≡ words ++ word ∷ []
    → texts_of after ++ drop (i + 1) all ≡ drop 1 all
word_more all words after word i so_far at more =
    ap (λ l. texts_of l ++ drop (i + 1) all) more
    ∙ ap (λ l. l ++ drop (i + 1) all) (map-append (λ (text : Vec ℕ Global). text.items) words (word ∷ []))
    ∙ append_assoc (texts_of words) (word.items ∷ []) (drop (i + 1) all)
    ∙ ap (λ l. texts_of words ++ l) (sym (drop_found all i word.items (sym at)))
    ∙ so_far

pub words_all : (all : List (List ℕ)) (words : List (Vec ℕ Global)) (i : ℕ)
    → texts_of words ++ drop i all ≡ drop 1 all → None ≡ slice_get all i → texts_of words ≡ drop 1 all
words_all all words i so_far none =
    sym (append-nil (texts_of words)) ∙ ap (λ l. texts_of words ++ l) (sym (drop_none all i (sym none))) ∙ so_far

-- the variable of one entry more, and those of all
pub entry_more : (all : List (List ℕ)) (vars after target : Variables) (text : List ℕ) (i : ℕ)
    → with_entries vars (drop i all) ≡ target → Some text ≡ slice_get all i → after ≡ with_found vars (variable_in text)
    → with_entries after (drop (i + 1) all) ≡ target
entry_more all vars after target text i so_far at more =
    ap (λ v. with_entries v (drop (i + 1) all)) more ∙ sym (ap (with_entries vars) (drop_found all i text (sym at))) ∙ so_far

pub entries_all : (all : List (List ℕ)) (vars target : Variables) (i : ℕ)
    → with_entries vars (drop i all) ≡ target → None ≡ slice_get all i → vars ≡ target
entries_all all vars target i so_far none = ap (with_entries vars) (sym (drop_none all i (sym none))) ∙ so_far

-- the variable of an entry that is text, and of one that is none
pub variable_in-text : (entry text : List ℕ) → (text ≡ entry) × IsUtf8 entry → variable_of text ≡ variable_in entry
variable_in-text entry text read =
    ap variable_of read.0 ∙ sym (ap (λ b. cond b (variable_of entry) None) (is_utf8-from_IsUtf8 entry read.1))

pub variable_in-no_text : (entry : List ℕ) → ¬ IsUtf8 entry → None ≡ variable_in entry
variable_in-no_text entry no_text = sym (ap (λ b. cond b (variable_of entry) None) (is_utf8-no_text entry no_text))

-- a text without an equals sign says no variable, and neither does one without a name
no_equals : (text : List ℕ) → position_or_len is_equals text ≡ length text → list_any is_equals text ≡ false
no_equals text none =
    list_any_none is_equals text
    (All-from_get_or (λ b. is_equals b ≡ false) text 0 (λ i below. fails_before_first is_equals text i 0 (omega arith)))

pub variable_of-none : (text : List ℕ) (r : Option (Bor (List ℕ) × Bor (List ℕ))) → IsSplitOnceResult 61 text r → r ≡ None → None ≡ variable_of text
variable_of-none text r split none =
    let around = split_once_first 61 text None (subst (IsSplitOnceResult 61 text) none split) (omega arith) in
    sym (ap (λ b. cond (b && not (is_empty (before_first is_equals text))) (Some (before_first is_equals text, after_first is_equals text)) None)
    (no_equals text around))

and-false : (b : Bool) → (b && false) ≡ false
and-false true = refl
and-false false = refl

no_bytes : (text : List ℕ) → eqb (length text) 0 ≡ true → text ≡ []
no_bytes [] none = refl
no_bytes (b ∷ bs) none = let none_left = eqb-true (length (b ∷ bs)) 0 none in absurd (omega arith)

pub variable_of-no_name : (text : List ℕ) (r : Option (Bor (List ℕ) × Bor (List ℕ))) (name value : Bor (List ℕ))
    → IsSplitOnceResult 61 text r → r ≡ Some (name, value) → eqb (length name.now) 0 ≡ true → None ≡ variable_of text
variable_of-no_name text r name value split some empty =
    let around = split_once_first 61 text (Some (name, value)) (subst (IsSplitOnceResult 61 text) some split) (omega arith) in
    let said : Option Variable = Some (before_first is_equals text, after_first is_equals text) in
    sym (ap (λ (t : List ℕ). cond (list_any is_equals text && not (is_empty t)) said None) (sym around.1 ∙ no_bytes name.now empty)
    ∙ ap (λ b. cond b said None) (and-false (list_any is_equals text)))
