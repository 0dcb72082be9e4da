-- A code may end where its bytes end, and is text.
use Rattle.std.proofs.Common.{◌≡◌, ℕ, ◌<◌, zero, suc, true, false, ◌&&◌, not, eqb, nat_lt, List, [], ◌∷◌, ◌++◌, length, None, IsTrue, flat_map, refl, ap, ◌∙◌, subst, arith, append_assoc}
use Rattle.std.specs.Str.{IsAscii, IsUtf8, is_utf8}
use Rattle.std.proofs.lemmas.Bool.{and_parts, both_ways, ltb-true, not-true, or_parts}
use Rattle.std.proofs.lemmas.Str.{IsUtf8-append, IsUtf8-from_ascii, IsUtf8-from_is_utf8, IsUtf8-nil}
use Rattle.rule_lookup.specs.declared.instr.Verdict.{Verdict}
use Rattle.rule_lookup.specs.declared.instr.Verdict.TheVariants.{Allow, Deny}
use Rattle.rule_lookup.specs.Codes.{decoded, setting_code, verdict_code}
use Rattle.rule_lookup.specs.Lines.{has_byte}
use Rattle.rule_lookup.specs.Settings.{Assignment, AreSettings, is_name, is_setting, is_value}
use Rattle.rule_lookup.proofs.CodeFaults.{decoded-none}
use Rattle.cdb_files.specs.declared.stage.Stage.{Stage}
use Rattle.cdb_files.specs.declared.stage.Stage.TheVariants.{Nothing, Whole, Plus, Name, Value, NoCode}
use Rattle.cdb_files.specs.Stages.{may_end, stage_after, stage_from}

-- bytes after others
pub stage_from-append : (stage : Stage) (xs ys : List ℕ) → stage_from stage (xs ++ ys) ≡ stage_from (stage_from stage xs) ys
stage_from-append stage [] ys = refl
stage_from-append stage (x ∷ xs) ys = stage_from-append (stage_after stage x) xs ys

-- what begins no code goes on as none
pub stage_from-no_code : (xs : List ℕ) → stage_from NoCode xs ≡ NoCode
stage_from-no_code [] = refl
stage_from-no_code (x ∷ xs) = stage_from-no_code xs

-- a name, and a value
stage_from-name : (name : List ℕ) → has_byte 61 name ≡ false → has_byte 0 name ≡ false → stage_from Name name ≡ Name
stage_from-name [] sign zeros = refl
stage_from-name (b ∷ bs) sign zeros =
    let signs = or_parts (eqb b 61) (has_byte 61 bs) sign in
    let none = or_parts (eqb b 0) (has_byte 0 bs) zeros in
    rw (none.0, signs.0) (stage_from-name bs signs.1 none.1)

stage_from-plus : (name : List ℕ) → 0 < length name → has_byte 61 name ≡ false → has_byte 0 name ≡ false → stage_from Plus name ≡ Name
stage_from-plus [] some sign zeros = absurd (omega arith)
stage_from-plus (b ∷ bs) some sign zeros =
    let signs = or_parts (eqb b 61) (has_byte 61 bs) sign in
    let none = or_parts (eqb b 0) (has_byte 0 bs) zeros in
    rw (none.0, signs.0) (stage_from-name bs signs.1 none.1)

stage_from-value : (value : List ℕ) → has_byte 0 value ≡ false → stage_from Value value ≡ Value
stage_from-value [] zeros = refl
stage_from-value (b ∷ bs) zeros =
    let none = or_parts (eqb b 0) (has_byte 0 bs) zeros in
    rw none.0 (stage_from-value bs none.1)

-- what a setting is
record IsKnown (setting : Assignment) : Type 0 where
  some : 0 < length setting.name
  sign : has_byte 61 setting.name ≡ false
  zeros : has_byte 0 setting.name ≡ false
  name : IsUtf8 setting.name
  no_zeros : has_byte 0 setting.value ≡ false
  value : IsUtf8 setting.value

known : (setting : Assignment) → IsTrue (is_setting setting) → IsKnown setting
known setting is =
    let parts = and_parts (is_name setting.name) (is_value setting.value) is in
    let three = and_parts (nat_lt 0 (length setting.name) && not (has_byte 61 setting.name) && not (has_byte 0 setting.name)) (is_utf8 setting.name) parts.0 in
    let two = and_parts (nat_lt 0 (length setting.name) && not (has_byte 61 setting.name)) (not (has_byte 0 setting.name)) three.0 in
    let one = and_parts (nat_lt 0 (length setting.name)) (not (has_byte 61 setting.name)) two.0 in
    let value = and_parts (not (has_byte 0 setting.value)) (is_utf8 setting.value) parts.1 in
    record {
      some = ltb-true 0 (length setting.name) one.0;
      sign = not-true (has_byte 61 setting.name) one.1;
      zeros = not-true (has_byte 0 setting.name) two.1;
      name = IsUtf8-from_is_utf8 setting.name three.1;
      no_zeros = not-true (has_byte 0 setting.value) value.0;
      value = IsUtf8-from_is_utf8 setting.value value.1;
    }

-- the code of a setting
stage_from-setting : (setting : Assignment) → IsKnown setting → stage_from Whole (setting_code setting) ≡ Whole
stage_from-setting setting is =
    ap (stage_from Whole) (append_assoc (43 ∷ setting.name) (61 ∷ setting.value) (0 ∷ []))
    ∙ stage_from-append Plus setting.name (61 ∷ setting.value ++ 0 ∷ [])
    ∙ ap (λ stage. stage_from stage (61 ∷ setting.value ++ 0 ∷ [])) (stage_from-plus setting.name is.some is.sign is.zeros)
    ∙ stage_from-append Value setting.value (0 ∷ [])
    ∙ ap (λ stage. stage_from stage (0 ∷ [])) (stage_from-value setting.value is.no_zeros)

stage_from-settings : (settings : List Assignment) → AreSettings settings → stage_from Whole (flat_map setting_code settings) ≡ Whole
stage_from-settings [] are = refl
stage_from-settings (setting ∷ settings) are =
    stage_from-append Whole (setting_code setting) (flat_map setting_code settings)
    ∙ ap (λ stage. stage_from stage (flat_map setting_code settings)) (stage_from-setting setting (known setting are.0))
    ∙ stage_from-settings settings are.1

-- a code
may_end-verdict : (verdict : Verdict) (settings : List Assignment) → AreSettings settings → may_end (stage_from Nothing (verdict_code verdict ++ flat_map setting_code settings)) ≡ true
may_end-verdict Allow [] are = refl
may_end-verdict Allow (setting ∷ settings) are = ap may_end (stage_from-settings (setting ∷ settings) are)
may_end-verdict Deny settings are = ap may_end (stage_from-settings settings are)

-- bytes that end elsewhere are none
pub decoded-stopped : (bytes : List ℕ) → may_end (stage_from Nothing bytes) ≡ false → decoded bytes ≡ None
decoded-stopped bytes stopped =
    decoded-none bytes (λ code.
    both_ways (may_end (stage_from Nothing bytes)) stopped (subst (λ bs. may_end (stage_from Nothing bs) ≡ true) code.2 (may_end-verdict code.0.verdict code.0.settings code.1)))

-- a byte is text, where it is ASCII
one_ascii : (b : ℕ) → b < 128 → IsAscii (b ∷ [])
one_ascii b small zero = small
one_ascii b small (suc i) = omega arith

byte_text : (b : ℕ) → b < 128 → IsUtf8 (b ∷ [])
byte_text b small = IsUtf8-from_ascii (b ∷ []) (one_ascii b small)

IsUtf8-setting : (setting : Assignment) → IsKnown setting → IsUtf8 (setting_code setting)
IsUtf8-setting setting is =
    IsUtf8-append ((43 ∷ setting.name) ++ (61 ∷ setting.value)) (0 ∷ [])
    (IsUtf8-append (43 ∷ setting.name) (61 ∷ setting.value)
    (IsUtf8-append (43 ∷ []) setting.name (byte_text 43 (omega arith)) is.name)
    (IsUtf8-append (61 ∷ []) setting.value (byte_text 61 (omega arith)) is.value))
    (byte_text 0 (omega arith))

IsUtf8-settings : (settings : List Assignment) → AreSettings settings → IsUtf8 (flat_map setting_code settings)
IsUtf8-settings [] are = IsUtf8-nil
IsUtf8-settings (setting ∷ settings) are =
    IsUtf8-append (setting_code setting) (flat_map setting_code settings) (IsUtf8-setting setting (known setting are.0)) (IsUtf8-settings settings are.1)

IsUtf8-verdict : (verdict : Verdict) (settings : List Assignment) → AreSettings settings → IsUtf8 (verdict_code verdict ++ flat_map setting_code settings)
IsUtf8-verdict Allow settings are = IsUtf8-settings settings are
IsUtf8-verdict Deny settings are =
    IsUtf8-append (68 ∷ []) _ (byte_text 68 (omega arith)) (IsUtf8-append (0 ∷ []) _ (byte_text 0 (omega arith)) (IsUtf8-settings settings are))

-- bytes that are no text are no code
pub decoded-no_text : (bytes : List ℕ) → ¬ IsUtf8 bytes → decoded bytes ≡ None
decoded-no_text bytes no_text =
    decoded-none bytes (λ code. no_text (subst IsUtf8 code.2 (IsUtf8-verdict code.0.verdict code.0.settings code.1)))
