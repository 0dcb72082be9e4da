-- Codes and instructions: each is that of the other.
use Rattle.std.proofs.Common.{◌≡◌, ℕ, ◌+◌, ◌<◌, Bool, true, false, ◌&&◌, not, eqb, List, [], ◌∷◌, ◌++◌, length, take, drop, Option, Some, None, refl, sym, ap, ◌∙◌, subst, arith, eq-eqb, IsTrue, flat_map, take_at, ⊎_elim, nat_lt, append_assoc}
use Rattle.std.specs.Prelude.{◌==◌, nat_eq, option_map, option_and_then, if◌then◌else◌}
use Rattle.std.specs.List.{starts_with, before_first, after_first, position_or_len}
use Rattle.std.proofs.lemmas.Bool.{and_parts, not-true, cond-true, cases_Bool, or_parts, or_from, or_right, eqb-true, false≢true}
use Rattle.std.proofs.Math.Seq.{drop-append-add}
use Rattle.std.proofs.lemmas.Bool.Decides.{Decides-eqb}
use Rattle.std.proofs.lemmas.List.Folds.{list_any-append}
use Rattle.std.proofs.lemmas.List.Sums.{split_at_first, passes_at_first}
use Rattle.std.proofs.lemmas.Option.{none-some, same_Some}
use Rattle.std.proofs.lemmas.Slice.Eq.{starts_is}
use Rattle.std.specs.Str.{is_utf8}
use Rattle.rule_lookup.specs.declared.instr.Verdict.{Verdict}
use Rattle.rule_lookup.specs.declared.instr.Verdict.TheVariants.{Allow, Deny}
use Rattle.rule_lookup.specs.declared.instr.Instr.{Instr}
use Rattle.rule_lookup.specs.Codes.{code_of, decoded, IsInstr, setting_code, verdict_code, verdict_in, setting_in, settings_in}
use Rattle.rule_lookup.specs.Lines.{Line, pieces_of, onto_line, has_byte}
use Rattle.rule_lookup.specs.Settings.{Assignment, AreSettings, is_setting, is_name, is_value}

-- a piece up to its separator is the first of the pieces
pub pieces_of-stop : (separator : ℕ) (piece rest : List ℕ) → has_byte separator piece ≡ false → pieces_of separator (piece ++ separator ∷ rest) ≡ record { bytes = piece; ended = true } ∷ pieces_of separator rest
pieces_of-stop separator [] rest without = rw (eq-eqb separator separator refl) refl
pieces_of-stop separator (b ∷ bs) rest without =
    let parts = or_parts (eqb b separator) (has_byte separator bs) without in
    rw (parts.0, pieces_of-stop separator bs rest parts.1) refl

-- the first position of a byte is behind what has none
pub position_or_len-stop : (b : ℕ) (before after : List ℕ) → has_byte b before ≡ false → position_or_len (λ x. x == b) (before ++ b ∷ after) ≡ length before
position_or_len-stop b [] after without = rw (eq-eqb b b refl) refl
position_or_len-stop b (x ∷ xs) after without =
    let parts = or_parts (eqb x b) (has_byte b xs) without in
    rw (parts.0, position_or_len-stop b xs after parts.1) (omega arith)

-- what stands before the first position of a byte
pub before_first-stop : (b : ℕ) (before after : List ℕ) → has_byte b before ≡ false → before_first (λ x. x == b) (before ++ b ∷ after) ≡ before
before_first-stop b before after without =
    ap (λ n. take n (before ++ b ∷ after)) (position_or_len-stop b before after without) ∙ take_at before (b ∷ after) _ refl

-- what stands after it
pub after_first-stop : (b : ℕ) (before after : List ℕ) → has_byte b before ≡ false → after_first (λ x. x == b) (before ++ b ∷ after) ≡ after
after_first-stop b before after without =
    ap (λ n. drop (n + 1) (before ++ b ∷ after)) (position_or_len-stop b before after without) ∙ drop-append-add before (b ∷ after) 1

-- a byte that stands somewhere has a first position
pub position_or_len-within : (b : ℕ) (bytes : List ℕ) → has_byte b bytes ≡ true → position_or_len (λ x. x == b) bytes < length bytes
position_or_len-within b [] has = absurd (false≢true has)
position_or_len-within b (x ∷ xs) has =
    ⊎_elim (λ here. rw here (omega arith))
    (λ other. rw other (omega (arith, position_or_len-within b xs (rw other at has))))
    (cases_Bool (eqb x b))

-- a list that has a byte is what stands before the first, the byte, and what stands after it
pub around_first : (b : ℕ) (bytes : List ℕ) → has_byte b bytes ≡ true → before_first (λ x. x == b) bytes ++ b ∷ after_first (λ x. x == b) bytes ≡ bytes
around_first b bytes has =
    let test = λ (x : ℕ). x == b in
    let within = position_or_len-within b bytes has in
    let stands = eqb-true _ b (passes_at_first test bytes b within) in
    ap (λ x. before_first test bytes ++ x ∷ after_first test bytes) (sym stands) ∙ sym (split_at_first test bytes b within)

-- a name has no `=` and no zero byte
pub is_name-parts : (name : List ℕ) → is_name name ≡ true → (has_byte 61 name ≡ false) × (has_byte 0 name ≡ false)
is_name-parts name is =
    let three = and_parts (nat_lt 0 (length name) && not (has_byte 61 name) && not (has_byte 0 name)) (is_utf8 name) is in
    let two = and_parts (nat_lt 0 (length name) && not (has_byte 61 name)) (not (has_byte 0 name)) three.0 in
    let one = and_parts (nat_lt 0 (length name)) (not (has_byte 61 name)) two.0 in
    (not-true _ one.1, not-true _ two.1)

-- the bytes of pieces, each with its separator where it ended in one
abbrev joined : ℕ → List Line → List ℕ
joined separator [] = []
joined separator (line ∷ lines) = (line.bytes ++ (if line.ended then separator ∷ [] else [])) ++ joined separator lines

-- a byte put before the first line is the first byte
joined-onto_line : (separator b : ℕ) (lines : List Line) → joined separator (onto_line b lines) ≡ b ∷ joined separator lines
joined-onto_line separator b [] = refl
joined-onto_line separator b (line ∷ lines) = refl

-- pieces, joined, give the bytes back
joined-pieces_of : (separator : ℕ) (bytes : List ℕ) → joined separator (pieces_of separator bytes) ≡ bytes
joined-pieces_of separator [] = refl
joined-pieces_of separator (b ∷ bs) =
    ⊎_elim
    (λ stop. rw stop (ap (λ x. x ∷ joined separator (pieces_of separator bs)) (sym (eqb-true b separator stop)) ∙ ap (λ xs. b ∷ xs) (joined-pieces_of separator bs)))
    (λ other. rw other (joined-onto_line separator b (pieces_of separator bs) ∙ ap (λ xs. b ∷ xs) (joined-pieces_of separator bs)))
    (cases_Bool (eqb b separator))

-- what was found where a test passed
pub if_found : {A : Type 0} (b : Bool) (o : Option A) (x : A) → (if b then o else None) ≡ Some x → (b ≡ true) × (o ≡ Some x)
if_found true o x is = (refl, is)
if_found false o x is = absurd (none-some x is)

-- what a function was applied to
pub option_map_found : {A B : Type 0} (f : A → B) (o : Option A) (y : B) → option_map f o ≡ Some y → (x : A) × (o ≡ Some x) × (f x ≡ y)
option_map_found f None y is = absurd (none-some y is)
option_map_found f (Some x) y is = (x, refl, same_Some _ _ is)

-- what was found, and then what was found from it
pub option_and_then_found : {A B : Type 0} (f : A → Option B) (o : Option A) (y : B) → option_and_then f o ≡ Some y → (x : A) × (o ≡ Some x) × (f x ≡ Some y)
option_and_then_found f None y is = absurd (none-some y is)
option_and_then_found f (Some x) y is = (x, refl, is)

-- the name before the first `=`, and the value after it
abbrev pub setting_around : List ℕ → Assignment
setting_around bytes = record { name = before_first (λ x. x == 61) bytes; value = after_first (λ x. x == 61) bytes }

-- a piece of a setting, with a zero byte, is the setting's code
setting_code-setting_in : (piece : List ℕ) (setting : Assignment) → setting_in piece ≡ Some setting → (setting_code setting ≡ piece ++ 0 ∷ []) × IsTrue (is_setting setting)
setting_code-setting_in [] setting is = absurd (none-some _ is)
setting_code-setting_in (b ∷ bs) setting is =
    let found = if_found (b == 43 && has_byte 61 bs && is_setting (setting_around bs)) (Some (setting_around bs)) setting is in
    let two = and_parts (b == 43 && has_byte 61 bs) (is_setting (setting_around bs)) found.0 in
    let one = and_parts (b == 43) (has_byte 61 bs) two.0 in
    let same = same_Some _ _ found.1 in
    subst (λ (s : Assignment). (setting_code s ≡ (b ∷ bs) ++ 0 ∷ []) × IsTrue (is_setting s)) same
    (ap (λ xs. 43 ∷ (xs ++ 0 ∷ [])) (around_first 61 bs one.1) ∙ ap (λ x. x ∷ (bs ++ 0 ∷ [])) (sym (eqb-true b 43 one.0)), two.1)

-- a setting's code, without its zero byte, is a piece of it
setting_in-setting_code : (setting : Assignment) → IsTrue (is_setting setting) → setting_in (43 ∷ setting.name ++ 61 ∷ setting.value) ≡ Some setting
setting_in-setting_code setting known =
    let parts = and_parts (is_name setting.name) (is_value setting.value) known in
    let name = is_name-parts setting.name parts.0 in
    let around : setting_around (setting.name ++ 61 ∷ setting.value) ≡ setting =
    λ i. record { name = before_first-stop 61 setting.name setting.value name.0 i; value = after_first-stop 61 setting.name setting.value name.0 i } in
    let has : has_byte 61 (setting.name ++ 61 ∷ setting.value) ≡ true =
    list_any-append (λ x. x == 61) setting.name (61 ∷ setting.value) ∙ or_right _ _ refl in
    rw has (subst (λ (s : Assignment). (if is_setting s then Some s else None) ≡ Some setting) (sym around) (cond-true (is_setting setting) (Some setting) None known))

-- pieces of settings, joined, are their codes
settings_in-joined : (lines : List Line) (settings : List Assignment) → settings_in lines ≡ Some settings → (flat_map setting_code settings ≡ joined 0 lines) × AreSettings settings
settings_in-joined [] settings is =
    subst (λ (found : List Assignment). (flat_map setting_code found ≡ []) × AreSettings found) (same_Some [] settings is) (refl, tt)
settings_in-joined (line ∷ lines) settings is =
    let with_rest = λ (setting : Assignment). option_map (λ (rest : List Assignment). setting ∷ rest) (settings_in lines) in
    let ended = if_found line.ended (option_and_then with_rest (setting_in line.bytes)) settings is in
    let first = option_and_then_found with_rest (setting_in line.bytes) settings ended.1 in
    let later = option_map_found (λ (rest : List Assignment). first.0 ∷ rest) (settings_in lines) settings first.2 in
    let code = setting_code-setting_in line.bytes first.0 first.1 in
    let codes_of_rest = settings_in-joined lines later.0 later.1 in
    subst (λ (found : List Assignment). (flat_map setting_code found ≡ joined 0 (line ∷ lines)) × AreSettings found) later.2
    ((λ i. code.0 i ++ codes_of_rest.0 i) ∙ ap (λ e. (line.bytes ++ (if e then 0 ∷ [] else [])) ++ joined 0 lines) (sym ended.0), (code.1, codes_of_rest.1))

-- a setting's code has no zero byte but its last
piece-clean : (setting : Assignment) → IsTrue (is_setting setting) → has_byte 0 (43 ∷ setting.name ++ 61 ∷ setting.value) ≡ false
piece-clean setting known =
    let parts = and_parts (is_name setting.name) (is_value setting.value) known in
    let value = and_parts (not (has_byte 0 setting.value)) (is_utf8 setting.value) parts.1 in
    list_any-append (λ x. x == 0) setting.name (61 ∷ setting.value) ∙ or_from _ _ (is_name-parts setting.name parts.0).1 (not-true _ value.0)

-- the pieces of codes are those of their settings
settings_in-codes : (settings : List Assignment) → AreSettings settings → settings_in (pieces_of 0 (flat_map setting_code settings)) ≡ Some settings
settings_in-codes [] known = refl
settings_in-codes (setting ∷ settings) known =
    let piece = 43 ∷ setting.name ++ 61 ∷ setting.value in
    let clean = piece-clean setting known.0 in
    let rest = flat_map setting_code settings in
    ap settings_in (ap (pieces_of 0) (append_assoc piece (0 ∷ []) rest) ∙ pieces_of-stop 0 piece rest clean)
    ∙ (λ i. option_and_then (λ (first : Assignment). option_map (λ (later : List Assignment). first ∷ later) (settings_in-codes settings known.1 i)) (setting_in-setting_code setting known.0 i))

-- the code of a verdict and settings is decoded to them
decoded-code : (verdict : Verdict) (settings : List Assignment) → AreSettings settings → decoded (verdict_code verdict ++ flat_map setting_code settings) ≡ Some (record { verdict = verdict; settings = settings })
decoded-code Deny settings known = rw (settings_in-codes settings known) refl
decoded-code Allow [] known = refl
decoded-code Allow (setting ∷ settings) known = rw (settings_in-codes (setting ∷ settings) known) refl

-- the code of an instruction is decoded to it
pub decoded-code_of : (instr : Instr) → IsInstr instr → decoded (code_of instr) ≡ Some instr
decoded-code_of instr known = decoded-code instr.verdict instr.settings known

-- bytes are the code of their verdict, and what follows it
pub verdict_code-drop : (bytes : List ℕ) → verdict_code (verdict_in bytes) ++ drop (length (verdict_code (verdict_in bytes))) bytes ≡ bytes
verdict_code-drop bytes =
    ⊎_elim (λ deny. rw deny (sym ((starts_is Decides-eqb bytes (68 ∷ 0 ∷ []) _ refl).0 deny))) (λ allow. rw allow refl)
    (cases_Bool (starts_with nat_eq bytes (68 ∷ 0 ∷ [])))

-- what bytes are decoded to sets what may be set, and has them for its code
decoded_is : (bytes : List ℕ) (instr : Instr) → decoded bytes ≡ Some instr → (code_of instr ≡ bytes) × IsInstr instr
decoded_is bytes instr is =
    let verdict = verdict_in bytes in
    let rest = drop (length (verdict_code verdict)) bytes in
    let found = option_map_found (λ (settings : List Assignment). let i : Instr = record { verdict = verdict; settings = settings } in i) (settings_in (pieces_of 0 rest)) instr is in
    let codes = settings_in-joined (pieces_of 0 rest) found.0 found.1 in
    subst (λ (i : Instr). (code_of i ≡ bytes) × IsInstr i) found.2
    (ap (λ xs. verdict_code verdict ++ xs) (codes.0 ∙ joined-pieces_of 0 rest) ∙ verdict_code-drop bytes, codes.1)

-- bytes are the code of what they are decoded to
pub code_of-decoded : (bytes : List ℕ) (instr : Instr) → decoded bytes ≡ Some instr → code_of instr ≡ bytes
code_of-decoded bytes instr is = (decoded_is bytes instr is).0

-- what bytes are decoded to sets what may be set
pub IsInstr-decoded : (bytes : List ℕ) (instr : Instr) → decoded bytes ≡ Some instr → IsInstr instr
IsInstr-decoded bytes instr is = (decoded_is bytes instr is).1

-- no code is that of two
pub code_of_same : (i j : Instr) → code_of i ≡ code_of j → IsInstr i → IsInstr j → i ≡ j
code_of_same i j same first second =
    same_Some i j (sym (decoded-code_of i first) ∙ ap decoded same ∙ decoded-code_of j second)
