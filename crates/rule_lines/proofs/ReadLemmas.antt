-- The settings of a line, read one after another.
use Rattle.std.proofs.Common.{◌≡◌, ℕ, zero, suc, ◌<◌, ◌≤◌, Bool, true, false, List, [], ◌∷◌, ◌++◌, length, drop, Option, Some, None, refl, sym, ap, ◌∙◌, subst, arith, flat_map, append_assoc, length-append, length-drop}
use Rattle.std.specs.Prelude.{◌==◌, option_map, option_and_then, if◌then◌else◌}
use Rattle.std.proofs.lemmas.Bool.{cond-false, ne_eqb}
use Rattle.std.proofs.lemmas.Option.{none-some}
use Rattle.rule_lookup.specs.Codes.{setting_code}
use Rattle.rule_lookup.specs.Lines.{has_byte}
use Rattle.rule_lookup.specs.Settings.{Assignment, Cut, Front, cut_at, first_character, value_at, setting_at, settings_within, settings_of}
use Rattle.rule_lookup.proofs.CodeLemmas.{option_map_found, option_and_then_found}
use Rattle.rule_lines.proofs.CutLemmas.{cut_at-parts, cut_at-byte, cut_at-no_byte}

-- a name behind which a value is to be read
abbrev value_behind : Bool → Cut → Option Front
value_behind is_text cut = if length cut.before == 0 then None else value_at is_text cut.before cut.after

-- with no `=` there is no setting
pub setting_at-no_byte : (is_text : Bool) (bytes : List ℕ) → has_byte 61 bytes ≡ false → setting_at is_text bytes ≡ None
setting_at-no_byte is_text bytes without = ap (option_and_then (value_behind is_text)) (cut_at-no_byte 61 bytes without)

-- what stands behind the first `=` is read as a value
pub setting_at-named : (is_text : Bool) (bytes name quoted : List ℕ) → has_byte 61 name ≡ false → bytes ≡ name ++ 61 ∷ quoted → 0 < length name → setting_at is_text bytes ≡ value_at is_text name quoted
setting_at-named is_text bytes name quoted without is some =
    ap (setting_at is_text) is
    ∙ ap (option_and_then (value_behind is_text)) (cut_at-byte 61 name quoted without)
    ∙ cond-false (length name == 0) None (value_at is_text name quoted) (ne_eqb (length name) 0 (λ none. absurd (omega arith)))

-- what was found where a test failed
if_not_found : {A : Type 0} (b : Bool) (o : Option A) (x : A) → (if b then None else o) ≡ Some x → (b ≡ false) × (o ≡ Some x)
if_not_found true o x is = absurd (none-some x is)
if_not_found false o x is = (refl, is)

-- a setting with this name, whose value ends at the cut
abbrev pub front_cut : List ℕ → Cut → Front
front_cut name cut = record { setting = record { name = name; value = cut.before }; rest = cut.after }

-- a value that was read is cut at its quote
pub value_at-cut : (is_text : Bool) (name bytes : List ℕ) (front : Front) → value_at is_text name bytes ≡ Some front → (cut : Cut) × (cut_at (first_character is_text bytes) (drop (length (first_character is_text bytes)) bytes) ≡ Some cut) × (front_cut name cut ≡ front)
value_at-cut is_text name bytes front is =
    let quote = first_character is_text bytes in
    option_map_found (front_cut name) (cut_at quote (drop (length quote) bytes)) front is

-- a setting that was read is cut at its first `=`, and has a name
pub setting_at-cut : (is_text : Bool) (bytes : List ℕ) (front : Front) → setting_at is_text bytes ≡ Some front → (cut : Cut) × (cut_at (61 ∷ []) bytes ≡ Some cut) × ((length cut.before == 0) ≡ false) × (value_at is_text cut.before cut.after ≡ Some front)
setting_at-cut is_text bytes front is =
    let named = option_and_then_found (value_behind is_text) (cut_at (61 ∷ []) bytes) front is in
    let cut = named.0 in
    let valued = if_not_found (length cut.before == 0) (value_at is_text cut.before cut.after) front named.2 in
    (cut, named.1, valued.0, valued.1)

-- what follows a mark is no longer than the bytes that it was cut from
cut_at-shorter : (mark bytes : List ℕ) (cut : Cut) → cut_at mark bytes ≡ Some cut → length cut.after ≤ length bytes
cut_at-shorter mark bytes cut is =
    omega (arith, ap length (cut_at-parts mark bytes cut is), length-append cut.before (mark ++ cut.after), length-append mark cut.after)

-- what follows a value is no longer than the bytes that it was read from
pub value_at-shorter : (is_text : Bool) (name bytes : List ℕ) (front : Front) → value_at is_text name bytes ≡ Some front → length front.rest ≤ length bytes
value_at-shorter is_text name bytes front is =
    let quote = first_character is_text bytes in
    let found = value_at-cut is_text name bytes front is in
    let shorter = cut_at-shorter quote (drop (length quote) bytes) found.0 found.1 in
    subst (λ (f : Front). length f.rest ≤ length bytes) found.2 (omega (arith, length-drop (length quote) bytes))

-- and so is what follows a setting
pub setting_at-shorter : (is_text : Bool) (bytes : List ℕ) (front : Front) → setting_at is_text bytes ≡ Some front → length front.rest ≤ length bytes
setting_at-shorter is_text bytes front is =
    let found = setting_at-cut is_text bytes front is in
    let cut = found.0 in
    let first = cut_at-shorter (61 ∷ []) bytes cut found.1 in
    let second = value_at-shorter is_text cut.before cut.after front found.3 in
    omega arith

-- a setting, and those of what follows it
abbrev and_within : ℕ → Bool → Front → Option (List Assignment)
and_within n is_text front = option_map (λ (settings : List Assignment). front.setting ∷ settings) (settings_within n is_text front.rest)

-- the same where the settings of what follows are
and_within-same : (n m : ℕ) (is_text : Bool) (read : Option Front) → ((front : Front) → read ≡ Some front → settings_within n is_text front.rest ≡ settings_within m is_text front.rest) → option_and_then (and_within n is_text) read ≡ option_and_then (and_within m is_text) read
and_within-same n m is_text None same = refl
and_within-same n m is_text (Some front) same = ap (option_map (λ (settings : List Assignment). front.setting ∷ settings)) (same front refl)

-- a larger clock changes nothing
pub settings_within-same : (n m : ℕ) (is_text : Bool) (bytes : List ℕ) → length bytes ≤ n → length bytes ≤ m → settings_within n is_text bytes ≡ settings_within m is_text bytes
settings_within-same zero zero is_text bytes first second = refl
settings_within-same zero (suc m) is_text [] first second = refl
settings_within-same zero (suc m) is_text (b ∷ bs) first second = absurd (omega arith)
settings_within-same (suc n) zero is_text [] first second = refl
settings_within-same (suc n) zero is_text (b ∷ bs) first second = absurd (omega arith)
settings_within-same (suc n) (suc m) is_text [] first second = refl
settings_within-same (suc n) (suc m) is_text (b ∷ bs) first second =
    ap (λ settings. if b == 44 then settings else None)
    (and_within-same n m is_text (setting_at is_text bs) (λ front is.
    let shorter = setting_at-shorter is_text bs front is in
    settings_within-same n m is_text front.rest (omega arith) (omega arith)))

-- a setting, and those of what follows it
abbrev and_later : Bool → Front → Option (List Assignment)
and_later is_text front = option_map (λ (settings : List Assignment). front.setting ∷ settings) (settings_of is_text front.rest)

-- a clock is as good as the length
later_same : (n : ℕ) (is_text : Bool) (read : Option Front) → ((front : Front) → read ≡ Some front → length front.rest ≤ n) → option_and_then (and_within n is_text) read ≡ option_and_then (and_later is_text) read
later_same n is_text None short = refl
later_same n is_text (Some front) short =
    ap (option_map (λ (settings : List Assignment). front.setting ∷ settings))
    (settings_within-same n (length front.rest) is_text front.rest (short front refl) (omega arith))

-- settings are a comma, a setting, and settings
pub settings_of-comma : (is_text : Bool) (bs : List ℕ) → settings_of is_text (44 ∷ bs) ≡ option_and_then (and_later is_text) (setting_at is_text bs)
settings_of-comma is_text bs = later_same (length bs) is_text (setting_at is_text bs) (λ front is. setting_at-shorter is_text bs front is)

-- the code so far, and that of the settings of the rest
abbrev pub code_with : Bool → List ℕ → List ℕ → Option (List ℕ)
code_with is_text code rest = option_map (λ (settings : List Assignment). code ++ flat_map setting_code settings) (settings_of is_text rest)

-- a setting's code at the end of the code so far, or before those of the rest
code_onto : (code : List ℕ) (setting : Assignment) (found : Option (List Assignment)) → option_map (λ (settings : List Assignment). (code ++ setting_code setting) ++ flat_map setting_code settings) found ≡ option_map (λ (settings : List Assignment). code ++ flat_map setting_code settings) (option_map (λ (settings : List Assignment). setting ∷ settings) found)
code_onto code setting None = refl
code_onto code setting (Some settings) = ap Some (append_assoc code (setting_code setting) (flat_map setting_code settings))

-- the rest begins with a setting
pub code_with-next : (is_text : Bool) (code rest bs : List ℕ) (b : ℕ) (front : Front) → rest ≡ b ∷ bs → b ≡ 44 → setting_at is_text bs ≡ Some front → code_with is_text (code ++ setting_code front.setting) front.rest ≡ code_with is_text code rest
code_with-next is_text code rest bs b front begins comma is =
    code_onto code front.setting (settings_of is_text front.rest)
    ∙ sym (ap (option_map (λ (settings : List Assignment). code ++ flat_map setting_code settings))
    (ap (settings_of is_text) (begins ∙ ap (λ x. x ∷ bs) comma) ∙ settings_of-comma is_text bs ∙ ap (option_and_then (and_later is_text)) is))
