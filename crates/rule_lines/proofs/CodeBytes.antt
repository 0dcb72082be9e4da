-- The code of instructions has no line feed where they have none, and fewer bytes than they.
use Rattle.std.proofs.Common.{◌≡◌, ℕ, zero, suc, ◌+◌, ◌<◌, ◌≤◌, Bool, true, false, eqb, List, [], ◌∷◌, ◌++◌, length, take, drop, Some, refl, sym, ap, ◌∙◌, subst, arith, codes, flat_map, length-append, length-drop, ⊎_elim}
use Rattle.std.specs.Prelude.{◌==◌, nat_eq, option_map, option_and_then}
use Rattle.std.specs.List.{starts_with}
use Rattle.std.proofs.lemmas.Bool.{cases_Bool, or_from, or_parts}
use Rattle.std.proofs.lemmas.Bool.Decides.{Decides-eqb}
use Rattle.std.proofs.lemmas.List.{take-append-drop}
use Rattle.std.proofs.lemmas.List.Folds.{list_any-append}
use Rattle.std.proofs.lemmas.Option.{none-some, same_Some}
use Rattle.std.proofs.lemmas.Slice.Eq.{starts_is}
use Rattle.rule_lookup.specs.declared.instr.Instr.{Instr}
use Rattle.rule_lookup.specs.declared.instr.Verdict.{Verdict}
use Rattle.rule_lookup.specs.declared.instr.Verdict.TheVariants.{Allow, Deny}
use Rattle.rule_lookup.specs.Codes.{code_of, setting_code, verdict_code}
use Rattle.rule_lookup.specs.Lines.{has_byte}
use Rattle.rule_lookup.specs.Pairs.{instr_of, settings_after, verdict_of, word_length}
use Rattle.rule_lookup.specs.Settings.{Assignment, Front, first_character, value_at, setting_at, settings_within}
use Rattle.rule_lookup.proofs.CodeLemmas.{if_found, option_map_found, option_and_then_found}
use Rattle.rule_lines.proofs.CutLemmas.{cut_at-parts}
use Rattle.rule_lines.proofs.ReadLemmas.{value_at-cut, setting_at-cut}
use Rattle.rule_lines.proofs.SettingLemmas.{has_byte-parts}

-- no line feed
abbrev pub IsOneLine : List ℕ → Type 0
IsOneLine bytes = has_byte 10 bytes ≡ false

-- neither has the one, nor the other
pub IsOneLine-append : (xs ys : List ℕ) → IsOneLine xs → IsOneLine ys → IsOneLine (xs ++ ys)
IsOneLine-append xs ys first second = list_any-append (λ x. x == 10) xs ys ∙ or_from (has_byte 10 xs) (has_byte 10 ys) first second

-- what is left has none
pub IsOneLine-drop : (n : ℕ) (bytes : List ℕ) → IsOneLine bytes → IsOneLine (drop n bytes)
IsOneLine-drop n bytes clean = (has_byte-parts 10 (take n bytes) (drop n bytes) (subst IsOneLine (sym (take-append-drop n bytes)) clean)).1

-- nor has the front
pub IsOneLine-take : (n : ℕ) (bytes : List ℕ) → IsOneLine bytes → IsOneLine (take n bytes)
IsOneLine-take n bytes clean = (has_byte-parts 10 (take n bytes) (drop n bytes) (subst IsOneLine (sym (take-append-drop n bytes)) clean)).0

-- a setting that was read from bytes, and what follows it
record IsReadFrom (bytes : List ℕ) (front : Front) : Type 0 where
  name : IsOneLine front.setting.name
  value : IsOneLine front.setting.value
  rest : IsOneLine front.rest
  short : length (setting_code front.setting) + length front.rest ≤ length bytes

-- a quote is not empty
first_character-some : (is_text : Bool) (b : ℕ) (bs : List ℕ) → 0 < length (first_character is_text (b ∷ bs))
first_character-some true b bs = omega arith
first_character-some false b bs = omega arith

-- a value that was read, and what follows it
record IsValueFrom (name bytes : List ℕ) (front : Front) : Type 0 where
  same : front.setting.name ≡ name
  value : IsOneLine front.setting.value
  rest : IsOneLine front.rest
  short : length front.setting.value + 2 + length front.rest ≤ length bytes

IsValueFrom-value_at : (is_text : Bool) (name bytes : List ℕ) (front : Front) → IsOneLine bytes → value_at is_text name bytes ≡ Some front → IsValueFrom name bytes front
IsValueFrom-value_at is_text name [] front clean is = absurd (none-some front is)
IsValueFrom-value_at is_text name (b ∷ bs) front clean is =
    let bytes = b ∷ bs in
    let quote = first_character is_text bytes in
    let behind = drop (length quote) bytes in
    let found = value_at-cut is_text name bytes front is in
    let cut = found.0 in
    let parts = cut_at-parts quote behind cut found.1 in
    let clean_parts = has_byte-parts 10 cut.before (quote ++ cut.after) (subst IsOneLine parts (IsOneLine-drop (length quote) bytes clean)) in
    let clean_rest = has_byte-parts 10 quote cut.after clean_parts.1 in
    let long : length behind ≡ length cut.before + (length quote + length cut.after) = omega (arith, ap length parts, length-append cut.before (quote ++ cut.after), length-append quote cut.after) in
    subst (IsValueFrom name bytes) found.2 (record {
      same = refl;
      value = clean_parts.0;
      rest = clean_rest.1;
      short = omega (arith, long, length-drop (length quote) bytes, first_character-some is_text b bs);
    })

IsReadFrom-setting_at : (is_text : Bool) (bytes : List ℕ) (front : Front) → IsOneLine bytes → setting_at is_text bytes ≡ Some front → IsReadFrom bytes front
IsReadFrom-setting_at is_text bytes front clean is =
    let found = setting_at-cut is_text bytes front is in
    let cut = found.0 in
    let parts = cut_at-parts (61 ∷ []) bytes cut found.1 in
    let clean_parts = has_byte-parts 10 cut.before (61 ∷ cut.after) (subst IsOneLine parts clean) in
    let value = IsValueFrom-value_at is_text cut.before cut.after front clean_parts.1 found.3 in
    let setting = front.setting in
    let code : length (setting_code setting) ≡ length setting.name + length setting.value + 3 = omega (arith, length-append (setting.name ++ 61 ∷ setting.value) (0 ∷ []), length-append setting.name (61 ∷ setting.value)) in
    record {
      name = subst IsOneLine (sym value.same) clean_parts.0;
      value = value.value;
      rest = value.rest;
      short = omega (arith, code, ap length value.same, value.short, ap length parts, length-append cut.before (61 ∷ cut.after));
    }

-- the code of a setting
IsOneLine-setting_code : (setting : Assignment) → IsOneLine setting.name → IsOneLine setting.value → IsOneLine (setting_code setting)
IsOneLine-setting_code setting name value =
    IsOneLine-append (setting.name ++ 61 ∷ setting.value) (0 ∷ []) (IsOneLine-append setting.name (61 ∷ setting.value) name value) refl

-- code of bytes: without a line feed, and no longer than they
pub record IsCodeFrom (bytes code : List ℕ) : Type 0 where
  pub one_line : IsOneLine code
  pub short : length code ≤ length bytes

-- the code of settings
IsCodeFrom-settings : (n : ℕ) (is_text : Bool) (bytes : List ℕ) (settings : List Assignment) → IsOneLine bytes → settings_within n is_text bytes ≡ Some settings → IsCodeFrom bytes (flat_map setting_code settings)
IsCodeFrom-settings zero is_text [] settings clean is = subst (λ ss. IsCodeFrom [] (flat_map setting_code ss)) (same_Some [] settings is) (record { one_line = refl; short = omega arith })
IsCodeFrom-settings zero is_text (b ∷ bs) settings clean is = absurd (none-some settings is)
IsCodeFrom-settings (suc n) is_text [] settings clean is = subst (λ ss. IsCodeFrom [] (flat_map setting_code ss)) (same_Some [] settings is) (record { one_line = refl; short = omega arith })
IsCodeFrom-settings (suc n) is_text (b ∷ bs) settings clean is =
    let and_rest = λ (front : Front). option_map (λ (rest : List Assignment). front.setting ∷ rest) (settings_within n is_text front.rest) in
    let comma = if_found (b == 44) (option_and_then and_rest (setting_at is_text bs)) settings is in
    let first = option_and_then_found and_rest (setting_at is_text bs) settings comma.1 in
    let front = first.0 in
    let later = option_map_found (λ (rest : List Assignment). front.setting ∷ rest) (settings_within n is_text front.rest) settings first.2 in
    let read = IsReadFrom-setting_at is_text bs front (or_parts (eqb b 10) (has_byte 10 bs) clean).1 first.1 in
    let rest = IsCodeFrom-settings n is_text front.rest later.0 read.rest later.1 in
    let code = setting_code front.setting in
    let codes_after = flat_map setting_code later.0 in
    subst (λ ss. IsCodeFrom (b ∷ bs) (flat_map setting_code ss)) later.2 (record {
      one_line = IsOneLine-append code codes_after (IsOneLine-setting_code front.setting read.name read.value) rest.one_line;
      short = omega (arith, length-append code codes_after, read.short, rest.short);
    })

-- instructions begin with the word of their verdict
word_of : (instructions : List ℕ) (verdict : Verdict) → verdict_of instructions ≡ Some verdict → word_length verdict ≤ length instructions
word_of instructions verdict is =
    ⊎_elim
    (λ allow.
    let word = (starts_is Decides-eqb instructions (codes "allow") _ refl).0 allow in
    subst (λ v. word_length v ≤ length instructions) (same_Some Allow verdict (rw allow at is)) (omega (arith, ap length word)))
    (λ other.
    let deny = if_found (starts_with nat_eq instructions (codes "deny")) (Some Deny) verdict (rw other at is) in
    let word = (starts_is Decides-eqb instructions (codes "deny") _ refl).0 deny.0 in
    subst (λ v. word_length v ≤ length instructions) (same_Some Deny verdict deny.1) (omega (arith, ap length word)))
    (cases_Bool (starts_with nat_eq instructions (codes "allow")))

-- the code of a verdict is shorter than its word
verdict_code-short : (verdict : Verdict) → IsOneLine (verdict_code verdict) × (length (verdict_code verdict) + 2 ≤ word_length verdict)
verdict_code-short Allow = (refl, omega arith)
verdict_code-short Deny = (refl, omega arith)

-- the code of an instruction that was read
pub code_of-read : (is_text : Bool) (instructions : List ℕ) (instr : Instr) → IsOneLine instructions → instr_of is_text instructions ≡ Some instr → IsOneLine (code_of instr) × (length (code_of instr) + 2 ≤ length instructions)
code_of-read is_text instructions instr clean is =
    let with_settings = λ (verdict : Verdict) (settings : List Assignment). let read : Instr = record { verdict = verdict; settings = settings } in read in
    let after_word = λ (verdict : Verdict). option_map (with_settings verdict) (settings_after is_text verdict instructions) in
    let word = option_and_then_found after_word (verdict_of instructions) instr is in
    let found = option_map_found (with_settings word.0) (settings_after is_text word.0 instructions) instr word.2 in
    let rest = drop (word_length word.0) instructions in
    let settings = IsCodeFrom-settings (length rest) is_text rest found.0 (IsOneLine-drop (word_length word.0) instructions clean) found.1 in
    let verdict = verdict_code-short word.0 in
    let code = flat_map setting_code found.0 in
    subst (λ (i : Instr). IsOneLine (code_of i) × (length (code_of i) + 2 ≤ length instructions)) found.2 (
      IsOneLine-append (verdict_code word.0) code verdict.0 settings.one_line,
      omega (arith, length-append (verdict_code word.0) code, settings.short, verdict.1, length-drop (word_length word.0) instructions, word_of instructions word.0 word.1),
    )
