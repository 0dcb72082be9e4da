-- The settings of an instruction, as they are written in a rule line: any number of `,NAME=QVALUEQ`.
use Rattle.std.specs.Prelude.{ℕ, zero, suc, Bool, not, ◌&&◌, ◌==◌, nat_eq, nat_lt, List, [], ◌∷◌, length, take, drop, Option, Some, None, option_map, option_and_then, IsTrue, if◌then◌else◌}
use Rattle.std.specs.List.{starts_with, AllByRecursion}
use Rattle.std.specs.Str.{continuation_len, is_utf8}
use Rattle.rule_lookup.specs.Lines.{has_byte}

-- a name, and the value that it is set to
pub record Assignment : Type 0 where
  pub name : List ℕ
  pub value : List ℕ

-- a name is UTF-8, is not empty, and has neither a `=` nor a zero byte
abbrev pub is_name : List ℕ → Bool
is_name name = nat_lt 0 (length name) && not (has_byte 61 name) && not (has_byte 0 name) && is_utf8 name

-- a value is UTF-8 and has no zero byte
abbrev pub is_value : List ℕ → Bool
is_value value = not (has_byte 0 value) && is_utf8 value

-- a name, set to a value
abbrev pub is_setting : Assignment → Bool
is_setting setting = is_name setting.name && is_value setting.value

-- each is a setting that an instruction may have
abbrev pub AreSettings : List Assignment → Type 0
AreSettings settings = AllByRecursion (λ setting. IsTrue (is_setting setting)) settings

-- what stands before a mark, and what follows it
pub record Cut : Type 0 where
  pub before : List ℕ
  pub after : List ℕ

-- the bytes cut at the first position where the mark stands; nothing where it stands nowhere
abbrev pub cut_at : List ℕ → List ℕ → Option Cut
cut_at mark [] = None
cut_at mark (b ∷ bs) =
    if starts_with nat_eq (b ∷ bs) mark then Some (record { before = []; after = drop (length mark) (b ∷ bs) })
    else option_map (λ (cut : Cut). record cut { before = b ∷ cut.before }) (cut_at mark bs)

-- the first character: of UTF-8 in a text, and else a byte
abbrev pub first_character : Bool → List ℕ → List ℕ
first_character is_text [] = []
first_character is_text (b ∷ bs) = take (if is_text then suc (continuation_len b) else 1) (b ∷ bs)

-- a setting at the front, and what follows it
pub record Front : Type 0 where
  pub setting : Assignment
  pub rest : List ℕ

abbrev pub front_of : List ℕ → List ℕ → List ℕ → Front
front_of name value rest = record { setting = record { name = name; value = value }; rest = rest }

-- `NAME=` was read, and a quote, the value and the quote again are next
abbrev pub value_at : Bool → List ℕ → List ℕ → Option Front
value_at is_text name bytes =
    let quote = first_character is_text bytes in
    option_map (λ (cut : Cut). front_of name cut.before cut.after) (cut_at quote (drop (length quote) bytes))

-- `NAME=QVALUEQ` at the front: the name goes up to the first `=` and is not empty, Q is any one character, and the value
-- goes up to the next Q
abbrev pub setting_at : Bool → List ℕ → Option Front
setting_at is_text bytes =
    option_and_then (λ (cut : Cut). if length cut.before == 0 then None else value_at is_text cut.before cut.after) (cut_at (61 ∷ []) bytes)

-- a setting at the front, and then the settings that what follows it is by a reading
abbrev pub settings_from : (List ℕ → Option (List Assignment)) → Front → Option (List Assignment)
settings_from reading front = option_map (λ settings. front.setting ∷ settings) (reading front.rest)

-- the settings that the bytes are, where they are at most n settings one after another, a comma before each
abbrev pub settings_within : ℕ → Bool → List ℕ → Option (List Assignment)
settings_within n is_text [] = Some []
settings_within zero is_text (b ∷ bs) = None
settings_within (suc n) is_text (b ∷ bs) =
    if b == 44 then option_and_then (settings_from (settings_within n is_text)) (setting_at is_text bs) else None

-- the settings that the bytes are, if they are a series of settings; there are no more of them than bytes
abbrev pub settings_of : Bool → List ℕ → Option (List Assignment)
settings_of is_text bytes = settings_within (length bytes) is_text bytes
