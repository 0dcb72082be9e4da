-- What the settings of a rule line are.
use Rattle.std.proofs.Common.{◌≡◌, ℕ, zero, suc, ◌+◌, ◌/◌, ◌<◌, ◌≤◌, Bool, true, false, not, ◌&&◌, nat_lt, eqb, ltb, List, [], ◌∷◌, ◌++◌, length, take, drop, get_or, Some, refl, sym, ap, ◌∙◌, subst, arith, IsTrue, codes, take_at, drop_at, length-append, ⊎_elim}
use Rattle.std.specs.Prelude.{◌==◌, nat_eq, option_map, option_and_then}
use Rattle.std.specs.List.{starts_with}
use Rattle.std.specs.Str.{IsUtf8, is_utf8, IsCharBoundary, continuation_len}
use Rattle.std.proofs.Math.Seq.{drop-append-add}
use Rattle.std.proofs.lemmas.Bool.{and_from, cases_Bool, cond_both, eqb-true, lt-ltb, ltb-true, not_from_false, or_parts}
use Rattle.std.proofs.lemmas.Bool.Decides.{Decides-eqb, nat_tests}
use Rattle.std.proofs.lemmas.List.{get_or_at}
use Rattle.std.proofs.lemmas.List.Folds.{list_any-append}
use Rattle.std.proofs.lemmas.Option.{none-some, same_Some}
use Rattle.std.proofs.lemmas.Slice.Eq.{starts_is}
use Rattle.std.proofs.lemmas.Str.{IsUtf8-take, IsUtf8-drop, IsUtf8-past_char, IsCharBoundary-before_ascii, IsCharBoundary-after_ascii, is_utf8-from_IsUtf8, IsUtf8-from_is_utf8}
use lib.Utf8.{encode, encodes}
use Rattle.rule_lookup.specs.declared.instr.Instr.{Instr}
use Rattle.rule_lookup.specs.declared.instr.Verdict.{Verdict}
use Rattle.rule_lookup.specs.declared.instr.Verdict.TheVariants.{Allow, Deny}
use Rattle.rule_lookup.specs.Codes.{IsInstr}
use Rattle.rule_lookup.specs.Lines.{has_byte}
use Rattle.rule_lookup.specs.Pairs.{instr_of, instructions_in, address_in, verdict_of, word_length, settings_after}
use Rattle.rule_lookup.specs.Settings.{Assignment, AreSettings, is_setting, is_name, is_value, Front, cut_at, first_character, value_at, setting_at, settings_within}
use Rattle.rule_lookup.proofs.CodeLemmas.{around_first, if_found, option_map_found, option_and_then_found}
use Rattle.rule_lines.proofs.CutLemmas.{cut_at-parts, cut_at-before}
use Rattle.rule_lines.proofs.ReadLemmas.{value_at-cut, setting_at-cut}

-- text without a zero byte
pub record IsClean (bytes : List ℕ) : Type 0 where
  pub utf8 : IsUtf8 bytes
  pub zeros : has_byte 0 bytes ≡ false

-- no part of bytes has a byte that they don't have
pub has_byte-parts : (b : ℕ) (xs ys : List ℕ) → has_byte b (xs ++ ys) ≡ false → (has_byte b xs ≡ false) × (has_byte b ys ≡ false)
has_byte-parts b xs ys without =
    or_parts (has_byte b xs) (has_byte b ys) (sym (list_any-append (λ x. x == b) xs ys) ∙ without)

-- text may be cut at an ASCII byte
IsUtf8-around : (before after : List ℕ) (b : ℕ) → b < 128 → IsUtf8 (before ++ b ∷ after) → IsUtf8 before × IsUtf8 after
IsUtf8-around before after b ascii text =
    let bytes = before ++ b ∷ after in
    let position = length before in
    let stands : get_or bytes position 0 ≡ b = get_or_at before b after 0 position refl in
    let low : get_or bytes position 0 < 128 = omega arith in
    let within : position < length bytes = omega (arith, length-append before (b ∷ after)) in (
      subst IsUtf8 (take_at before (b ∷ after) position refl) (IsUtf8-take bytes position text (IsCharBoundary-before_ascii bytes position within low)),
      subst IsUtf8 (drop-append-add before (b ∷ after) 1) (IsUtf8-drop bytes (position + 1) text (IsCharBoundary-after_ascii bytes position text within low)),
    )

-- the same of text without a zero byte
pub IsClean-around : (before after : List ℕ) (b : ℕ) → b < 128 → IsClean (before ++ b ∷ after) → IsClean before × IsClean after
IsClean-around before after b ascii clean =
    let texts = IsUtf8-around before after b ascii clean.utf8 in
    let parts = has_byte-parts 0 before (b ∷ after) clean.zeros in (
      record { utf8 = texts.0; zeros = parts.0 },
      record { utf8 = texts.1; zeros = (or_parts (eqb b 0) (has_byte 0 after) parts.1).1 },
    )

-- the first byte of a character says how many more there are, and does not continue another
record Leads (bytes : List ℕ) : Type 0 where
  lead : ℕ
  more : List ℕ
  is : bytes ≡ lead ∷ more
  count : length more ≡ continuation_len lead
  high : 128 ≤ lead → 192 ≤ lead

-- characters of one to four bytes
one_byte : (b : ℕ) → b < 128 → Leads (b ∷ [])
one_byte b low = record { lead = b; more = []; is = refl; count = grind (arith, nat_tests); high = λ high. absurd (omega arith) }

two_bytes : (b x : ℕ) → 192 ≤ b → b < 224 → Leads (b ∷ x ∷ [])
two_bytes b x low high = record { lead = b; more = x ∷ []; is = refl; count = grind (arith, nat_tests); high = λ _. low }

three_bytes : (b x y : ℕ) → 224 ≤ b → b < 240 → Leads (b ∷ x ∷ y ∷ [])
three_bytes b x y low high = record { lead = b; more = x ∷ y ∷ []; is = refl; count = grind (arith, nat_tests); high = λ _. omega arith }

four_bytes : (b x y z : ℕ) → 240 ≤ b → Leads (b ∷ x ∷ y ∷ z ∷ [])
four_bytes b x y z low = record { lead = b; more = x ∷ y ∷ z ∷ []; is = refl; count = grind (arith, nat_tests); high = λ _. omega arith }

-- each character begins with such a byte
Leads-encode : (c : ℕ) → Leads (encode c)
unfolding encode
Leads-encode c =
    cond_both (ltb c 128) _ _ Leads (λ below. one_byte c (ltb-true c 128 below))
    (λ one. cond_both (ltb c 2048) _ _ Leads (λ below. two_bytes (192 + c / 64) _ (omega arith) (omega (arith, ltb-true c 2048 below)))
    (λ two. cond_both (ltb c 65536) _ _ Leads (λ below. three_bytes (224 + c / 4096) _ _ (omega arith) (omega (arith, ltb-true c 65536 below)))
    (λ three. four_bytes (240 + c / 262144) _ _ _ (omega arith))))

-- a text begins with a character
first_character-spelled : (b : ℕ) (bs cs : List ℕ) → encodes cs ≡ b ∷ bs → (c : ℕ) × (rest : List ℕ) × (b ∷ bs ≡ encode c ++ rest) × (first_character true (b ∷ bs) ≡ encode c)
first_character-spelled b bs [] spelled = absurd (let no : ⊥ = cc in no)
first_character-spelled b bs (c ∷ cs) spelled =
    let leads = Leads-encode c in
    let whole : leads.lead ∷ (leads.more ++ encodes cs) ≡ b ∷ bs = ap (λ xs. xs ++ encodes cs) (sym leads.is) ∙ spelled in
    let same : leads.lead ≡ b = cc in
    let size : length (encode c) ≡ suc (continuation_len b) =
    ap length leads.is ∙ ap suc leads.count ∙ ap (λ x. suc (continuation_len x)) same in
    (c, encodes cs, sym spelled, (λ i. take (sym size i) (sym spelled i)) ∙ take_at (encode c) (encodes cs) _ refl)

-- the same of a text whose characters are not given
first_character-text : (b : ℕ) (bs : List ℕ) → IsUtf8 (b ∷ bs) → (c : ℕ) × (rest : List ℕ) × (b ∷ bs ≡ encode c ++ rest) × (first_character true (b ∷ bs) ≡ encode c)
first_character-text b bs text = first_character-spelled b bs text.0 text.1.1

-- text may be cut at a character
IsUtf8-around_character : (before after : List ℕ) (c : ℕ) → IsUtf8 (before ++ (encode c ++ after)) → IsUtf8 before × IsUtf8 after
IsUtf8-around_character before after c text =
    let leads = Leads-encode c in
    let bytes = before ++ (encode c ++ after) in
    let position = length before in
    let stands : get_or bytes position 0 ≡ leads.lead =
    ap (λ xs. get_or (before ++ (xs ++ after)) position 0) leads.is ∙ get_or_at before leads.lead (leads.more ++ after) 0 position refl in
    let boundary : IsCharBoundary bytes position = (omega (arith, length-append before (encode c ++ after)), λ within high. omega (arith, leads.high (omega arith))) in (
      subst IsUtf8 (take_at before (encode c ++ after) position refl) (IsUtf8-take bytes position text boundary),
      IsUtf8-past_char (encode c ++ after) after c (subst IsUtf8 (drop_at before (encode c ++ after) position refl) (IsUtf8-drop bytes position text boundary)) refl,
    )

-- the same of text without a zero byte
IsClean-around_character : (before after : List ℕ) (c : ℕ) → IsClean (before ++ (encode c ++ after)) → IsClean before × IsClean after
IsClean-around_character before after c clean =
    let texts = IsUtf8-around_character before after c clean.utf8 in
    let parts = has_byte-parts 0 before (encode c ++ after) clean.zeros in (
      record { utf8 = texts.0; zeros = parts.0 },
      record { utf8 = texts.1; zeros = (has_byte-parts 0 (encode c) after parts.1).1 },
    )

-- text without a zero byte is a value
is_value-from_clean : (bytes : List ℕ) → IsClean bytes → IsTrue (is_value bytes)
is_value-from_clean bytes clean = and_from _ _ (not_from_false (has_byte 0 bytes) clean.zeros) (is_utf8-from_IsUtf8 bytes clean.utf8)

-- what is read as a value is text without a zero byte, and so is what follows
value_at-clean : (name bytes : List ℕ) (front : Front) → IsClean bytes → value_at true name bytes ≡ Some front → (front.setting.name ≡ name) × (IsTrue (is_value front.setting.value) × IsClean front.rest)
value_at-clean name [] front clean is = absurd (none-some front is)
value_at-clean name (b ∷ bs) front clean is =
    let character = first_character-text b bs clean.utf8 in
    let c = character.0 in
    let rest = character.1 in
    let found = value_at-cut true name (b ∷ bs) front is in
    let cut = found.0 in
    let follows : drop (length (first_character true (b ∷ bs))) (b ∷ bs) ≡ rest =
    (λ i. drop (length (character.3 i)) (character.2 i)) ∙ drop_at (encode c) rest _ refl in
    let here : cut_at (encode c) rest ≡ Some cut = sym (λ i. cut_at (character.3 i) (follows i)) ∙ found.1 in
    let behind = (IsClean-around_character [] rest c (subst IsClean character.2 clean)).1 in
    let parts = IsClean-around_character cut.before cut.after c (subst IsClean (cut_at-parts (encode c) rest cut here) behind) in
    subst (λ (f : Front). (f.setting.name ≡ name) × (IsTrue (is_value f.setting.value) × IsClean f.rest)) found.2
    (refl, (is_value-from_clean cut.before parts.0, parts.1))

-- what is read as a setting may be set, and what follows is text without a zero byte
setting_at-clean : (bytes : List ℕ) (front : Front) → IsClean bytes → setting_at true bytes ≡ Some front → IsTrue (is_setting front.setting) × IsClean front.rest
setting_at-clean bytes front clean is =
    let found = setting_at-cut true bytes front is in
    let cut = found.0 in
    let name = cut.before in
    let around = IsClean-around name cut.after 61 (omega arith) (subst IsClean (cut_at-parts (61 ∷ []) bytes cut found.1) clean) in
    let value = value_at-clean name cut.after front around.1 found.3 in
    let some : 0 < length name = grind (arith, nat_tests) in
    let named : is_name name ≡ true =
    and_from _ _ (and_from _ _ (and_from _ _ (lt-ltb 0 (length name) some) (not_from_false (has_byte 61 name) (cut_at-before 61 bytes cut found.1))) (not_from_false (has_byte 0 name) around.0.zeros)) (is_utf8-from_IsUtf8 name around.0.utf8) in
    (and_from (is_name front.setting.name) (is_value front.setting.value) (ap is_name value.0 ∙ named) value.1.0, value.1.1)

-- and so may what is read as settings
settings_within-clean : (n : ℕ) (bytes : List ℕ) (settings : List Assignment) → IsClean bytes → settings_within n true bytes ≡ Some settings → AreSettings settings
settings_within-clean zero [] settings clean is = subst AreSettings (same_Some [] settings is) tt
settings_within-clean zero (b ∷ bs) settings clean is = absurd (none-some settings is)
settings_within-clean (suc n) [] settings clean is = subst AreSettings (same_Some [] settings is) tt
settings_within-clean (suc n) (b ∷ bs) settings clean is =
    let and_rest = λ (front : Front). option_map (λ (rest : List Assignment). front.setting ∷ rest) (settings_within n true front.rest) in
    let comma = if_found (b == 44) (option_and_then and_rest (setting_at true bs)) settings is in
    let first = option_and_then_found and_rest (setting_at true bs) settings comma.1 in
    let later = option_map_found (λ (rest : List Assignment). first.0.setting ∷ rest) (settings_within n true first.0.rest) settings first.2 in
    let ascii : b < 128 = omega (arith, eqb-true b 44 comma.0) in
    let setting = setting_at-clean bs first.0 (IsClean-around [] bs b ascii clean).1 first.1 in
    subst AreSettings later.2 (setting.0, settings_within-clean n first.0.rest later.0 setting.1 later.1)

-- what follows the word of the verdict
drop_word-clean : (instructions : List ℕ) (verdict : Verdict) → IsClean instructions → verdict_of instructions ≡ Some verdict → IsClean (drop (word_length verdict) instructions)
drop_word-clean instructions verdict clean is =
    ⊎_elim
    (λ allow.
    let word = (starts_is Decides-eqb instructions (codes "allow") _ refl).0 allow in
    subst (λ v. IsClean (drop (word_length v) instructions)) (same_Some Allow verdict (rw allow at is))
    (IsClean-around (codes "allo") (drop 5 instructions) 119 (omega arith) (subst IsClean word clean)).1)
    (λ other.
    let deny = if_found (starts_with nat_eq instructions (codes "deny")) (Some Deny) verdict (rw other at is) in
    let word = (starts_is Decides-eqb instructions (codes "deny") _ refl).0 deny.0 in
    subst (λ v. IsClean (drop (word_length v) instructions)) (same_Some Deny verdict deny.1)
    (IsClean-around (codes "den") (drop 4 instructions) 121 (omega arith) (subst IsClean word clean)).1)
    (cases_Bool (starts_with nat_eq instructions (codes "allow")))

-- what a line that is text without a zero byte sets may be set
pub IsInstr-instr_of : (line : List ℕ) (instr : Instr) → is_utf8 line ≡ true → has_byte 0 line ≡ false → has_byte 58 line ≡ true → instr_of true (instructions_in line) ≡ Some instr → IsInstr instr
IsInstr-instr_of line instr text zeros colon is =
    let instructions = instructions_in line in
    let clean : IsClean line = record { utf8 = IsUtf8-from_is_utf8 line text; zeros = zeros } in
    let behind = (IsClean-around (address_in line) instructions 58 (omega arith) (subst IsClean (sym (around_first 58 line colon)) clean)).1 in
    let with_settings = λ (verdict : Verdict) (settings : List Assignment). let read : Instr = record { verdict = verdict; settings = settings } in read in
    let after_word = λ (verdict : Verdict). option_map (with_settings verdict) (settings_after true verdict instructions) in
    let word = option_and_then_found after_word (verdict_of instructions) instr is in
    let found = option_map_found (with_settings word.0) (settings_after true word.0 instructions) instr word.2 in
    let rest = drop (word_length word.0) instructions in
    subst IsInstr found.2 (settings_within-clean (length rest) rest found.0 (drop_word-clean instructions word.0 behind word.1) found.1)

-- the tests of two texts, without that of being text
joined : (a b c d : Bool) → ((a && b && c && true) && (d && true)) ≡ ((a && b && c) && d)
joined true true true true = refl
joined true true true false = refl
joined true true false d = refl
joined true false c d = refl
joined false b c d = refl

-- texts are a setting by their bytes alone
pub is_setting-texts : (name value : List ℕ) → IsUtf8 name → IsUtf8 value → is_setting (record { name = name; value = value }) ≡ ((nat_lt 0 (length name) && not (has_byte 61 name) && not (has_byte 0 name)) && not (has_byte 0 value))
is_setting-texts name value name_text value_text =
    rw (is_utf8-from_IsUtf8 name name_text, is_utf8-from_IsUtf8 value value_text)
    (joined (nat_lt 0 (length name)) (not (has_byte 61 name)) (not (has_byte 0 name)) (not (has_byte 0 value)))
