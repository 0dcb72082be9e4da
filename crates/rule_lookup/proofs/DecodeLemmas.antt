-- The pieces of a code, read one after another.
use Rattle.std.proofs.Common.{◌≡◌, ℕ, ◌<◌, true, false, ◌&&◌, not, eqb, List, [], ◌∷◌, ◌++◌, length, drop, Option, Some, None, refl, sym, ap, ◌∙◌, arith, append_assoc, append-nil, nat_lt}
use Rattle.std.specs.Prelude.{◌==◌, option_map, option_and_then, if◌then◌else◌}
use Rattle.std.specs.Str.{is_utf8}
use Rattle.std.proofs.lemmas.Bool.{and_from, or_from, or_parts, or_right, cond-true, cond-false, lt-ltb, and_left, and_right, not_from_false}
use Rattle.std.proofs.lemmas.List.Folds.{list_any-append}
use Rattle.std.proofs.lemmas.Option.{none-some}
use Rattle.rule_lookup.specs.declared.code.CodeFault.{CodeFault}
use Rattle.rule_lookup.specs.declared.code.DecodeFault.{DecodeFault}
use Rattle.rule_lookup.specs.declared.code.DecodeFault.TheVariants.{Code, OutOfMemory}
use Rattle.rule_lookup.specs.declared.instr.Instr.{Instr}
use Rattle.rule_lookup.specs.declared.instr.Verdict.{Verdict}
use Rattle.rule_lookup.specs.Codes.{setting_in, settings_in, settings_with, verdict_code, decoded, setting_code, BeginsNone, IsEndOf, ReadsOn, RefusesCode, verdict_in}
use Rattle.rule_lookup.specs.Lines.{pieces_of, has_byte}
use Rattle.rule_lookup.specs.Settings.{Assignment, is_setting, is_name, is_value}
use Rattle.rule_lookup.proofs.CodeLemmas.{pieces_of-stop, before_first-stop, after_first-stop, setting_around, decoded-code_of}

-- bytes with no separator are a piece that none ended
pub pieces_of-unended : (separator : ℕ) (bytes : List ℕ) → has_byte separator bytes ≡ false → 0 < length bytes → pieces_of separator bytes ≡ record { bytes = bytes; ended = false } ∷ []
pieces_of-unended separator [] without some = absurd (omega arith)
pieces_of-unended separator (b ∷ []) without some = rw (or_parts (eqb b separator) false without).0 refl
pieces_of-unended separator (b ∷ c ∷ bs) without some =
    let parts = or_parts (eqb b separator) (has_byte separator (c ∷ bs)) without in
    rw (parts.0, pieces_of-unended separator (c ∷ bs) parts.1 (omega arith)) refl

-- what a setting's piece says, where its name ends at the first `=`
pub setting_in-split : (assignment name value : List ℕ) → has_byte 61 name ≡ false → assignment ≡ name ++ 61 ∷ value → setting_in (43 ∷ assignment) ≡ (if is_setting (record { name = name; value = value }) then Some (record { name = name; value = value }) else None)
setting_in-split assignment name value without is =
    let around : setting_around (name ++ 61 ∷ value) ≡ record { name = name; value = value } =
    λ i. record { name = before_first-stop 61 name value without i; value = after_first-stop 61 name value without i } in
    let has : has_byte 61 (name ++ 61 ∷ value) ≡ true =
    list_any-append (λ x. x == 61) name (61 ∷ value) ∙ or_right _ _ refl in
    ap (λ bytes. setting_in (43 ∷ bytes)) is
    ∙ ap (λ b. if b && is_setting (setting_around (name ++ 61 ∷ value)) then Some (setting_around (name ++ 61 ∷ value)) else None) has
    ∙ ap (λ (s : Assignment). if is_setting s then Some s else None) around

-- the rest begins with a piece
pub settings_in-stop : (rest piece later : List ℕ) → has_byte 0 piece ≡ false → rest ≡ piece ++ 0 ∷ later → settings_in (pieces_of 0 rest) ≡ option_and_then (λ (setting : Assignment). option_map (λ (settings : List Assignment). setting ∷ settings) (settings_in (pieces_of 0 later))) (setting_in piece)
settings_in-stop rest piece later without is =
    ap (λ bytes. settings_in (pieces_of 0 bytes)) is ∙ ap settings_in (pieces_of-stop 0 piece later without)

-- a setting at the end of those so far, or before those of the rest
onto_settings : (settings : List Assignment) (setting : Assignment) (found : Option (List Assignment)) → option_map (λ later. (settings ++ setting ∷ []) ++ later) found ≡ option_map (λ later. settings ++ later) (option_map (λ later. setting ∷ later) found)
onto_settings settings setting None = refl
onto_settings settings setting (Some later) = ap Some (append_assoc settings (setting ∷ []) later)

-- that piece is a setting
settings_with-next : (settings : List Assignment) (setting : Assignment) (rest piece later : List ℕ) → has_byte 0 piece ≡ false → rest ≡ piece ++ 0 ∷ later → setting_in piece ≡ Some setting → settings_with (settings ++ setting ∷ []) later ≡ settings_with settings rest
settings_with-next settings setting rest piece later without is found =
    let first = settings_in-stop rest piece later without is
    ∙ ap (option_and_then (λ (s : Assignment). option_map (λ (more : List Assignment). s ∷ more) (settings_in (pieces_of 0 later)))) found in
    onto_settings settings setting (settings_in (pieces_of 0 later)) ∙ sym (ap (option_map (λ more. settings ++ more)) first)

-- that piece is none
pub settings_in-refused : (rest piece later : List ℕ) → has_byte 0 piece ≡ false → rest ≡ piece ++ 0 ∷ later → setting_in piece ≡ None → settings_in (pieces_of 0 rest) ≡ None
settings_in-refused rest piece later without is none =
    settings_in-stop rest piece later without is
    ∙ ap (option_and_then (λ (s : Assignment). option_map (λ (more : List Assignment). s ∷ more) (settings_in (pieces_of 0 later)))) none

-- no piece of the rest ends
pub settings_in-unended : (rest : List ℕ) → has_byte 0 rest ≡ false → 0 < length rest → settings_in (pieces_of 0 rest) ≡ None
settings_in-unended rest without some = ap settings_in (pieces_of-unended 0 rest without some)

-- nothing is found where nothing was made of it
option_map-none : {A B : Type 0} (f : A → B) (o : Option A) → option_map f o ≡ None → o ≡ None
option_map-none f None is = refl
option_map-none f (Some x) is = absurd (none-some (f x) (sym is))

-- behind no settings
settings_with-nothing : (codes : List ℕ) → settings_with [] codes ≡ settings_in (pieces_of 0 codes)
settings_with-nothing codes = same (settings_in (pieces_of 0 codes)) where
  same : (o : Option (List Assignment)) → option_map (λ (later : List Assignment). [] ++ later) o ≡ o
  same None = refl
  same (Some settings) = refl

-- codes of which settings were read, and a rest
module _ (old settings : List Assignment) (codes rest : List ℕ) (on : ReadsOn old codes settings rest) where
  -- the rest begins with a setting
  pub ReadsOn-next : (setting : Assignment) (piece behind : List ℕ) → has_byte 0 piece ≡ false → rest ≡ piece ++ 0 ∷ behind → setting_in piece ≡ Some setting → ReadsOn old codes (settings ++ setting ∷ []) behind
  ReadsOn-next setting piece behind without is found = λ later.
      settings_with-next settings setting (rest ++ later) piece (behind ++ later) without (ap (λ bs. bs ++ later) is ∙ append_assoc piece (0 ∷ behind) later) found ∙ on later

  -- the rest begins with a piece that is none
  pub BeginsNone-next : (piece behind : List ℕ) → has_byte 0 piece ≡ false → rest ≡ piece ++ 0 ∷ behind → setting_in piece ≡ None → BeginsNone codes
  BeginsNone-next piece behind without is none = λ later.
      let refused = settings_in-refused (rest ++ later) piece (behind ++ later) without (ap (λ bs. bs ++ later) is ∙ append_assoc piece (0 ∷ behind) later) none in
      option_map-none (λ more. old ++ more) (settings_in (pieces_of 0 (codes ++ later)))
      (sym (on later) ∙ ap (option_map (λ (more : List Assignment). settings ++ more)) refused)

-- the rest after one piece more is an end too
pub IsEndOf-next : (codes rest piece behind : List ℕ) → IsEndOf codes rest → rest ≡ piece ++ 0 ∷ behind → IsEndOf codes behind
IsEndOf-next codes rest piece behind of is =
    ((of.0 ++ piece) ++ 0 ∷ [], of.1 ∙ ap (λ bs. of.0 ++ bs) is ∙ sym (append_assoc of.0 piece (0 ∷ behind)) ∙ sym (append_assoc (of.0 ++ piece) (0 ∷ []) behind))

-- where nothing was read before, the settings and the rest are all
pub ReadsOn-all : (settings : List Assignment) (codes rest : List ℕ) → ReadsOn [] codes settings rest → settings_with settings rest ≡ settings_in (pieces_of 0 codes)
ReadsOn-all settings codes rest on =
    ap (settings_with settings) (sym (append-nil rest)) ∙ on [] ∙ ap (settings_with []) (append-nil codes) ∙ settings_with-nothing codes

-- bytes that settings and a rest are
module _ (settings : List Assignment) (rest codes : List ℕ) (all : settings_with settings rest ≡ settings_in (pieces_of 0 codes)) where
  -- with nothing left
  pub settings_in-read : rest ≡ [] → settings_in (pieces_of 0 codes) ≡ Some settings
  settings_in-read none = sym all ∙ ap (settings_with settings) none ∙ ap Some (append-nil settings)

  -- with a part left that does not end
  pub settings_in-part : has_byte 0 rest ≡ false → 0 < length rest → settings_in (pieces_of 0 codes) ≡ None
  settings_in-part without some =
      sym all ∙ ap (option_map (λ (later : List Assignment). settings ++ later)) (settings_in-unended rest without some)

-- bytes with which no codes of settings begin are none
pub settings_in-none : (codes : List ℕ) → BeginsNone codes → settings_in (pieces_of 0 codes) ≡ None
settings_in-none codes none = ap (λ bs. settings_in (pieces_of 0 bs)) (sym (append-nil codes)) ∙ none []

-- an assignment with no zero byte, cut at its first `=`
module _ (assignment name value : List ℕ) (clean : has_byte 0 assignment ≡ false) (without : has_byte 61 name ≡ false) (is : assignment ≡ name ++ 61 ∷ value) where
  -- neither part has a zero byte
  name_and_value-clean : (has_byte 0 name ≡ false) × (has_byte 0 value ≡ false)
  name_and_value-clean =
      or_parts (has_byte 0 name) (has_byte 0 value) (sym (list_any-append (λ x. x == 0) name (61 ∷ value)) ∙ ap (has_byte 0) (sym is) ∙ clean)

  -- a name and a value that are text
  pub setting_in-known : 0 < length name → is_utf8 name ≡ true → is_utf8 value ≡ true → setting_in (43 ∷ assignment) ≡ Some (record { name = name; value = value })
  setting_in-known some name_text value_text =
      let parts = name_and_value-clean in
      let named = and_from _ _ (and_from _ _ (and_from (nat_lt 0 (length name)) (not (has_byte 61 name)) (lt-ltb 0 (length name) some) (not_from_false _ without)) (not_from_false (has_byte 0 name) parts.0)) name_text in
      let valued = and_from _ _ (not_from_false (has_byte 0 value) parts.1) value_text in
      setting_in-split assignment name value without is ∙ cond-true _ _ _ (and_from (is_name name) (is_value value) named valued)

  -- a name and a value that no setting has
  pub setting_in-unknown : is_setting (record { name = name; value = value }) ≡ false → setting_in (43 ∷ assignment) ≡ None
  setting_in-unknown unknown = setting_in-split assignment name value without is ∙ cond-false _ _ _ unknown

  -- a name that is no text
  pub setting_in-name : is_utf8 name ≡ false → setting_in (43 ∷ assignment) ≡ None
  setting_in-name no_text = setting_in-unknown (and_left _ _ (and_right _ _ no_text))

  -- a value that is no text
  pub setting_in-value : is_utf8 value ≡ false → setting_in (43 ∷ assignment) ≡ None
  setting_in-value no_text = setting_in-unknown (and_right _ _ (and_right _ _ no_text))

-- the code of one setting, of a name and a value that were looked at
module _ (name value : List ℕ) (named : has_byte 61 name ≡ false) (clean_name : has_byte 0 name ≡ false) (clean_value : has_byte 0 value ≡ false) where
  parts-clean : has_byte 0 (name ++ 61 ∷ value) ≡ false
  parts-clean = list_any-append (λ x. x == 0) name (61 ∷ value) ∙ or_from (has_byte 0 name) (has_byte 0 value) clean_name clean_value

  code-is : setting_code (record { name = name; value = value }) ≡ (43 ∷ name ++ 61 ∷ value) ++ 0 ∷ []
  code-is = refl

  -- it is one that was added
  pub ReadsOn-parts : (old : List Assignment) → 0 < length name → is_utf8 name ≡ true → is_utf8 value ≡ true → ReadsOn old (setting_code (record { name = name; value = value })) (old ++ record { name = name; value = value } ∷ []) []
  ReadsOn-parts old some name_text value_text =
      let code = setting_code (record { name = name; value = value }) in
      ReadsOn-next old old code code (λ later. refl) (record { name = name; value = value }) (43 ∷ name ++ 61 ∷ value) [] parts-clean code-is
      (setting_in-known (name ++ 61 ∷ value) name value parts-clean named refl some name_text value_text)

  -- or it is none
  BeginsNone-parts : setting_in (43 ∷ name ++ 61 ∷ value) ≡ None → BeginsNone (setting_code (record { name = name; value = value }))
  BeginsNone-parts none =
      let code = setting_code (record { name = name; value = value }) in
      BeginsNone-next [] [] code code (λ later. refl) (43 ∷ name ++ 61 ∷ value) [] parts-clean code-is none

  pub BeginsNone-empty : length name ≡ 0 → BeginsNone (setting_code (record { name = name; value = value }))
  BeginsNone-empty none =
      BeginsNone-parts (setting_in-unknown (name ++ 61 ∷ value) name value parts-clean named refl
      (and_left _ _ (and_left _ _ (and_left _ _ (and_left _ _ (ap (nat_lt 0) none))))))

  pub BeginsNone-name : is_utf8 name ≡ false → BeginsNone (setting_code (record { name = name; value = value }))
  BeginsNone-name no_text = BeginsNone-parts (setting_in-name (name ++ 61 ∷ value) name value parts-clean named refl no_text)

  pub BeginsNone-value : is_utf8 value ≡ false → BeginsNone (setting_code (record { name = name; value = value }))
  BeginsNone-value no_text = BeginsNone-parts (setting_in-value (name ++ 61 ∷ value) name value parts-clean named refl no_text)

-- bytes split into their verdict and the codes after it
module _ (bytes codes : List ℕ) (verdict : Verdict) (begins : verdict ≡ verdict_in bytes) (follows : codes ≡ drop (length (verdict_code verdict)) bytes) where
  -- the settings are looked for in the codes
  settings-found : settings_in (pieces_of 0 (drop (length (verdict_code (verdict_in bytes))) bytes)) ≡ settings_in (pieces_of 0 codes)
  settings-found =
      ap (λ v. settings_in (pieces_of 0 (drop (length (verdict_code v)) bytes))) (sym begins) ∙ ap (λ bs. settings_in (pieces_of 0 bs)) (sym follows)

  -- the codes are those of settings
  pub decoded-found : (settings : List Assignment) → settings_in (pieces_of 0 codes) ≡ Some settings → decoded bytes ≡ Some (record { verdict = verdict; settings = settings })
  decoded-found settings found =
      λ i. option_map (λ (read : List Assignment). let instr : Instr = record { verdict = sym begins i; settings = read } in instr) ((settings-found ∙ found) i)

  -- the codes are those of none
  pub decoded-refused : settings_in (pieces_of 0 codes) ≡ None → decoded bytes ≡ None
  decoded-refused none =
      ap (option_map (λ (read : List Assignment). let instr : Instr = record { verdict = verdict_in bytes; settings = read } in instr)) (settings-found ∙ none)

-- bytes that are not decoded are no code
pub RefusesCode-from : (bytes : List ℕ) (fault : DecodeFault) → ((reason : CodeFault) → fault ≡ Code reason → decoded bytes ≡ None) → RefusesCode bytes fault
RefusesCode-from bytes (Code reason) refused = λ code. none-some code.0 (sym (refused reason refl) ∙ ap decoded (sym code.2) ∙ decoded-code_of code.0 code.1)
RefusesCode-from bytes OutOfMemory refused = tt
